-- Columns: numbers of n bits, one for each place of a text, and the unit columns, one for each place of a tag.
use Rattle.std.specs.Prelude.{ℕ, zero, suc, ◌^◌, Bool, cond, List, [], ◌∷◌, Some, None, Option, ◌==◌, bit_xor}

-- the exclusive-or (⊕) of the columns at which the bits have a one
abbrev pub picked : List Bool → List ℕ → ℕ
picked [] cs = 0
picked (b ∷ bs) [] = 0
picked (b ∷ bs) (c ∷ cs) = bit_xor (cond b c 0) (picked bs cs)

-- the unit columns of width n: tag place k weighs 2 ^ (n - 1 - k)
abbrev pub units : ℕ → List ℕ
units zero = []
units (suc k) = 2 ^ k ∷ units k

-- one place further on
abbrev pub one_on : Option ℕ → Option ℕ
one_on (Some i) = Some (suc i)
one_on None = None

-- the first place whose column is x, absent where there is none
abbrev pub place : ℕ → List ℕ → Option ℕ
place x [] = None
place x (c ∷ cs) = cond (x == c) (Some 0) (one_on (place x cs))
