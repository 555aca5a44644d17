-- Worked figures: small keys whose columns, refusals, digests and places can be checked by hand. Each is said with the
-- definitions that the contracts of the code use.
use Rattle.std.specs.Prelude.{◌≡◌, ℕ, List, [], ◌∷◌, Some, bit_xor}
use Rattle.bits.specs.Columns.{place}
use Rattle.family.specs.declared.raw.RawKey.{RawKey}
use Rattle.family.specs.Meaning.{Meaning, digest_of}
use Rattle.family.specs.Questions.{Question, AllYes, FirstNo}
use Rattle.account.specs.Sealing.{frame_under}
use Rattle.crc.specs.Crc.{crc, crc_questions}
use Rattle.parity.specs.Layered.{layered}
use Rattle.lfsr.specs.Keys.{toeplitz, toeplitz_questions, mac_c, mac_c_questions}

-- a raw key of degree 3 and coefficients 3, that is x^3 + x + 1, from a state and for a reach
abbrev pub raw_key : ℕ → ℕ → RawKey
raw_key state reach = record { degree = 3; coefficients = 3; state = state; reach = reach }

-- a raw CRC key of degree 4 and coefficients 13, that is x^4 + x^3 + x^2 + 1, for a reach
abbrev pub raw_crc : ℕ → RawKey
raw_crc reach = record { degree = 4; coefficients = 13; state = 0; reach = reach }

-- a raw CRC key that serves an end: degree 63 and coefficients 3, that is x^63 + x + 1
abbrev pub wide_crc : RawKey
wide_crc = record { degree = 63; coefficients = 3; state = 0; reach = 1016 }

-- admission says yes, and admission refuses with a number
abbrev pub Admitted : List Question → Type 0
Admitted questions = AllYes questions

abbrev pub RefusedWith : ℕ → List Question → Type 0
RefusedWith number questions = FirstNo questions number

-- a key's columns, digests and places for a text of m bits
abbrev pub HasColumns : Meaning → (m : ℕ) → List ℕ → Type 0
HasColumns key m columns = key.columns m ≡ columns

abbrev pub HasDigest : Meaning → (m : ℕ) (text : List ℕ) → ℕ → Type 0
HasDigest key m text digest = digest_of key m text ≡ digest

-- under a pad the tag is the digest ⊕ the pad
abbrev pub HasTag : Meaning → (m : ℕ) (text : List ℕ) (pad : ℕ) → ℕ → Type 0
HasTag key m text pad tag = bit_xor (digest_of key m text) pad ≡ tag

abbrev pub HasDistance : Meaning → ℕ → Type 0
HasDistance key distance = key.distance ≡ distance

abbrev pub HasPlace : Meaning → (m number : ℕ) → ℕ → Type 0
HasPlace key m number at = place number (key.columns m) ≡ Some at

-- a payload, sealed for a slot of a door under a pad word, makes this frame
abbrev pub Seals : Meaning → (word door slot : ℕ) (payload frame : List ℕ) → Type 0
Seals key word door slot payload frame = frame_under key word door slot payload ≡ frame

-- the bits 1011000, with a zero behind them to fill the byte
abbrev pub text : List ℕ
text = 0xB0 ∷ []

abbrev pub figures : List (Type 0)
figures =
    HasColumns (mac_c (raw_key 4 7)) 7 (9 ∷ 3 ∷ 5 ∷ 10 ∷ 6 ∷ 15 ∷ 12 ∷ [])
    ∷ Admitted (mac_c_questions (raw_key 4 7))
    ∷ RefusedWith 6 (mac_c_questions (raw_key 4 8))
    ∷ HasDigest (mac_c (raw_key 4 7)) 7 text 6
    ∷ HasTag (mac_c (raw_key 4 7)) 7 text 5 3
    ∷ HasPlace (mac_c (raw_key 4 7)) 7 5 2
    ∷ HasColumns (toeplitz (raw_key 5 4)) 4 (5 ∷ 3 ∷ 7 ∷ 6 ∷ [])
    ∷ Admitted (toeplitz_questions (raw_key 5 4))
    ∷ RefusedWith 6 (toeplitz_questions (raw_key 5 5))
    ∷ HasColumns (crc (raw_crc 3)) 3 (14 ∷ 7 ∷ 13 ∷ [])
    ∷ HasDistance (crc (raw_crc 3)) 4
    ∷ Admitted (crc_questions (raw_crc 3))
    ∷ RefusedWith 6 (crc_questions (raw_crc 4))
    ∷ HasColumns (layered (toeplitz (raw_key 5 4))) 4 (11 ∷ 7 ∷ 14 ∷ 13 ∷ [])
    ∷ Seals (crc wide_crc) 2 0 1 (1 ∷ []) (1 ∷ 0 ∷ 0 ∷ 0 ∷ 0 ∷ 0 ∷ 0 ∷ 6 ∷ 4 ∷ [])
    ∷ []

-- every figure of a list is right
abbrev pub Stand : List (Type 0) → Type 0
Stand [] = Unit {0}
Stand (f ∷ fs) = f × Stand fs
