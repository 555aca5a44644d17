-- What a well-formed file has, and the laws between its bytes and its reading.
use Rattle.std.specs.Prelude.{◌≡◌, ℕ, ◌^◌, ◌<◌, ◌≤◌, List, ◌∷◌, ◌++◌, length, take}
use Rattle.std.specs.List.{AllByRecursion}
use Rattle.bits.specs.Bits.{Bytes}
use Rattle.linefile.specs.declared.faults.Flaw.TheVariants.{CutShort, Trailing}
use Rattle.linefile.specs.declared.key.KeyRecord.{KeyRecord}
use Rattle.linefile.specs.Layout.{Good, Bad}
use Rattle.linefile.specs.File.{SentFrame, Contents, most_pads, most_frames, decode}
use Rattle.linefile.specs.Encoded.{encode}

-- ---- well-formed files

-- each number of a key fits its field, and the allowance is one that there is
pub record FitKey (k : KeyRecord) : Type 0 where
  pub degree_fits : k.degree < 2 ^ 8
  pub coefficients_fit : k.coefficients < 2 ^ 64
  pub state_fits : k.state < 2 ^ 64
  pub door_fits : k.door < 2 ^ 32
  pub allowance_known : k.allowance ≤ 1

-- a pad word
abbrev pub FitWord : ℕ → Type 0
FitWord w = w < 2 ^ 64

-- a frame's slot and its length fit their fields, and it is made of bytes
pub record FitFrame (f : SentFrame) : Type 0 where
  pub slot_fits : f.slot < 2 ^ 32
  pub length_fits : length f.bytes < 2 ^ 8
  pub in_bytes : Bytes f.bytes

-- a file whose parts fit, with no more words and frames than there may be
pub record WellFormed (c : Contents) : Type 0 where
  pub key_fits : FitKey c.key
  pub words_count : length c.words ≤ most_pads
  pub words_fit : AllByRecursion FitWord c.words
  pub frames_count : length c.frames ≤ most_frames
  pub frames_fit : AllByRecursion FitFrame c.frames

-- ---- laws

-- It is written in bytes.
abbrev pub BytesWritten : Type 0
BytesWritten = (c : Contents) → WellFormed c → Bytes (encode c)

-- Written out, it is read back as what it was.
abbrev pub ReadBack : Type 0
ReadBack = (c : Contents) → WellFormed c → decode (encode c) ≡ Good c

-- Bytes that are read as something are those of it, and it is well-formed.
abbrev pub NothingElse : Type 0
NothingElse = (bytes : List ℕ) (c : Contents) → Bytes bytes → decode bytes ≡ Good c → (bytes ≡ encode c) × WellFormed c

-- Cut short anywhere, it is refused as that, at a place that is not behind the cut.
abbrev pub CutRefused : Type 0
CutRefused = (c : Contents) (n : ℕ) → WellFormed c → n < length (encode c) → (place : ℕ) × (place ≤ n) × (decode (take n (encode c)) ≡ Bad CutShort place)

-- With more bytes behind it, it is refused as that, at the first of them.
abbrev pub TrailingRefused : Type 0
TrailingRefused = (c : Contents) (b : ℕ) (more : List ℕ) → WellFormed c → decode (encode c ++ (b ∷ more)) ≡ Bad Trailing (length (encode c))
