-- The key of a file: what it means, and all that is asked of it.
use Rattle.std.specs.Prelude.{◌≡◌, ℕ, Bool, true, false, List, [], ◌∷◌, ◌++◌}
use Rattle.family.specs.declared.raw.RawKey.{RawKey}
use Rattle.family.specs.Meaning.{Meaning}
use Rattle.family.specs.Questions.{Question, asks}
use Rattle.lfsr.specs.Keys.{toeplitz, toeplitz_questions, mac_c, mac_c_questions}
use Rattle.crc.specs.Crc.{crc, crc_questions}
use Rattle.parity.specs.Layered.{layered, layer_questions}
use Rattle.frames.specs.Limits.{needed_reach}
use Rattle.account.specs.Questions as account
use Rattle.account.specs.Keys.{door_questions}
use Rattle.linefile.specs.declared.key.KeyFamily.{KeyFamily}
use Rattle.linefile.specs.declared.key.KeyFamily.TheVariants.{Crc, Toeplitz, MacC}
use Rattle.linefile.specs.declared.key.KeyRecord.{KeyRecord}

-- the raw key of a record, at the reach that an end needs
abbrev pub raw_of : KeyRecord → RawKey
raw_of k = record { degree = k.degree; coefficients = k.coefficients; state = k.state; reach = needed_reach }

-- what a raw key means to a family
abbrev pub family_meaning : KeyFamily → RawKey → Meaning
family_meaning Crc raw = crc raw
family_meaning Toeplitz raw = toeplitz raw
family_meaning MacC raw = mac_c raw

-- what the family's admission asks of it
abbrev pub family_questions : KeyFamily → RawKey → List Question
family_questions Crc raw = crc_questions raw
family_questions Toeplitz raw = toeplitz_questions raw
family_questions MacC raw = mac_c_questions raw

-- a key with the parity layer over it, if there is to be one
abbrev pub laid : (parity : Bool) → Meaning → Meaning
laid true k = layered k
laid false k = k

-- what is asked before the layer is laid
abbrev pub laying_questions : (parity : Bool) → Meaning → List Question
laying_questions true k = layer_questions k
laying_questions false k = []

-- the account's questions, which are tests: each asks that its test is passed
abbrev pub tested : List account.Question → List Question
tested [] = []
tested (q ∷ qs) = asks (q.passes ≡ true) q.otherwise.number ∷ tested qs

-- what is asked of a key that was admitted: by the making of the layer, and by the creation of the door's end
abbrev pub admitted_questions : (parity : Bool) → Meaning → (allowance : ℕ) → List Question
admitted_questions parity k allowance = laying_questions parity k ++ tested (door_questions (laid parity k) allowance)

-- what the key of a record means
abbrev pub record_meaning : KeyRecord → Meaning
record_meaning k = laid k.kind.parity (family_meaning k.kind.family (raw_of k))

-- all that is asked of it, in order: by admission first
abbrev pub record_questions : KeyRecord → List Question
record_questions k =
    family_questions k.kind.family (raw_of k)
    ++ admitted_questions k.kind.parity (family_meaning k.kind.family (raw_of k)) k.allowance
