-- The refusal of a layer.
use Rattle.std.specs.Prelude.{ℕ}
use Rattle.parity.specs.declared.layer.TooWide.{TooWide}

-- its number
abbrev pub too_wide_number : {F : Type 0} → TooWide F → ℕ
too_wide_number _ = 7
