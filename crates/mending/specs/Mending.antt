-- One changed bit: its syndrome, what the syndrome finds, and the text put right.
use Rattle.std.specs.Prelude.{◌≡◌, ℕ, cond, List, Some, None, Option, ◌==◌, bit_xor}
use Rattle.bits.specs.Bits.{flip}
use Rattle.bits.specs.Columns.{place, units}
use Rattle.family.specs.Meaning.{Meaning, digest_of}
use Rattle.mending.specs.declared.Arrival.{Arrival}
use Rattle.mending.specs.declared.Finding.{Finding}
use Rattle.mending.specs.declared.Finding.TheVariants.{Clean, Text, Tag, Unknown}

-- the received tag ⊕ the pad ⊕ the digest of the received text
abbrev pub syndrome : Meaning → (m : ℕ) (text : List ℕ) (tag pad : ℕ) → ℕ
syndrome key m text tag pad = bit_xor (bit_xor tag pad) (digest_of key m text)

abbrev pub found_in_tag : Option ℕ → Finding
found_in_tag (Some k) = Tag k
found_in_tag None = Unknown

abbrev pub found_in_text : Option ℕ → Option ℕ → Finding
found_in_text (Some p) unit = Text p
found_in_text None unit = found_in_tag unit

-- zero, else the place of a column of the text, else the place of a unit column of n bits
abbrev pub finding : (syndrome : ℕ) (columns : List ℕ) (n : ℕ) → Finding
finding s cs n = cond (s == 0) Clean (found_in_text (place s cs) (place s (units n)))

-- the text with the bit that was found turned over
abbrev pub mended : Finding → List ℕ → List ℕ
mended Clean text = text
mended (Text p) text = flip text p
mended (Tag k) text = text
mended Unknown text = text

-- a text that arrived was checked against its tag, and is now put right
pub record Received (key : Meaning) (m : ℕ) (text : List ℕ) (tag pad : ℕ) (a : Arrival) (now_text : List ℕ) : Type 0 where
  pub checked : a.syndrome ≡ syndrome key m text tag pad
  pub found : a.finding ≡ finding a.syndrome (key.columns m) key.width
  pub put_right : now_text ≡ mended a.finding text
