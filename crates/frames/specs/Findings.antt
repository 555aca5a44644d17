-- What a syndrome shows, and what is done about it.
use Rattle.std.specs.Prelude.{ℕ, ◌+◌, ◌-◌, ◌*◌, Bool, true, false, cond, List, Some, None, Option, ◌==◌, nat_le}
use Rattle.bits.specs.Bits.{flip}
use Rattle.bits.specs.Columns.{units, place}
use Rattle.frames.specs.Frames.{bound_size}

-- A syndrome is zero, or the column of a text place, or the unit column of a tag place, or none of these.
pub data Finding : Type 0 where
  Clean : Finding
  Column : ℕ → Finding
  UnitColumn : ℕ → Finding
  Nowhere : Finding

-- by the place among the unit columns, if it has one
abbrev pub found_in_tag : Option ℕ → Finding
found_in_tag (Some k) = UnitColumn k
found_in_tag None = Nowhere

-- by the place among the columns of the text, if it has one, and otherwise among the unit columns
abbrev pub found_in_text : Option ℕ → Option ℕ → Finding
found_in_text (Some p) in_tag = Column p
found_in_text None in_tag = found_in_tag in_tag

-- which of them it is, under a key of width n with the columns cs
abbrev pub finding : (n : ℕ) (cs : List ℕ) (syndrome : ℕ) → Finding
finding n cs s = cond (s == 0) Clean (found_in_text (place s cs) (place s (units n)))

-- the syndrome is zero
abbrev pub is_clean : Finding → Bool
is_clean Clean = true
is_clean (Column p) = false
is_clean (UnitColumn k) = false
is_clean Nowhere = false

-- the syndrome is zero, a column of the text or a unit column
abbrev pub is_somewhere : Finding → Bool
is_somewhere Clean = true
is_somewhere (Column p) = true
is_somewhere (UnitColumn k) = true
is_somewhere Nowhere = false

-- if it is a column of the text, its place is outside the bound word
abbrev pub outside_bound : Finding → Bool
outside_bound Clean = true
outside_bound (Column p) = nat_le bound_size p
outside_bound (UnitColumn k) = true
outside_bound Nowhere = true

-- the payload, mended: a column of the text turns over the bit at its place, a unit column leaves the payload
abbrev pub mended : Finding → List ℕ → List ℕ
mended Clean payload = payload
mended (Column p) payload = flip payload (p - bound_size)
mended (UnitColumn k) payload = payload
mended Nowhere payload = payload

-- the place that is told, of a frame with a payload of L bytes
abbrev pub told_place : Finding → (L : ℕ) → Option ℕ
told_place Clean L = None
told_place (Column p) L = Some (p - bound_size)
told_place (UnitColumn k) L = Some (8 * L + k)
told_place Nowhere L = None
