-- How a digest is worked out bit by bit, by Horner's rule.
use Rattle.std.specs.Prelude.{ℕ, Bool, List, bit_xor}
use Rattle.bits.specs.Columns.{picked}
use Rattle.family.specs.Orbits.{iterate}
use Rattle.crc.specs.Powers.{times_x, crc_columns}

-- The digest of a whole text, from the digest of its bits so far and the bits to come, of which `left` count:
-- each of these multiplies what came before by x, and adds its own column where it is a one.
abbrev pub completed : ℕ → ℕ → ℕ → ℕ → List Bool → ℕ
completed n c digest left rest = bit_xor (iterate (times_x n c) left digest) (picked rest (crc_columns n c left))
