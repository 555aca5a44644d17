-- A digest on its way through a text.
use Rattle.std.specs.Prelude.{ℕ, Bool, List, bit_xor}
use Rattle.bits.specs.Columns.{picked}

-- What a digest so far comes to if these bits follow: the ⊕ with that of the columns left which they pick.
abbrev pub comes_to : ℕ → List ℕ → List Bool → ℕ
comes_to digest columns rest = bit_xor digest (picked rest columns)
