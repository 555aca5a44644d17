-- Where two runs of bits differ.
use Rattle.std.specs.Prelude.{Bool, true, false, not, List, [], ◌∷◌}

-- whether two bits differ
abbrev pub differ : Bool → Bool → Bool
differ true b = not b
differ false b = b

-- a one at each place where the two runs differ
abbrev pub changes : List Bool → List Bool → List Bool
changes [] ys = []
changes (x ∷ xs) [] = []
changes (x ∷ xs) (y ∷ ys) = differ x y ∷ changes xs ys
