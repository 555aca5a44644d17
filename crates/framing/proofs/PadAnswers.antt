-- What a pad source answered.
use Rattle.std.proofs.Common.{◌≡◌, ℕ, Some, None, Ok, Option, Result}
use Rattle.pads.specs.Source.{answer}
use Rattle.pads.specs.declared.source.PadFault.{PadFault}

pub a_word : (o : Option ℕ) (slot w : ℕ) → ◌≡◌ {A = Result ℕ PadFault} (Ok w) (answer o slot) → o ≡ Some w
a_word (Some v) slot w e = cc
a_word None slot w e = absurd (cc)
