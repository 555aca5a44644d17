-- What a pad source answers, and what its fault tells.
use Rattle.std.specs.Prelude.{ℕ, Some, None, Ok, Err, Option, Result}
use Rattle.pads.specs.declared.source.PadFault.{PadFault}

-- What a fault tells: its number among all refusals, and the slot that was asked for.
pub record Fault : Type 0 where
  pub number : ℕ
  pub slot : ℕ

-- The one fault of a pad source is number 10: the slot is not covered.
abbrev pub told : PadFault → Fault
told f = record { number = 10; slot = f.slot }

-- The fault for a slot.
abbrev pub uncovered : ℕ → PadFault
uncovered slot = record { slot = slot }

-- The answer for a slot, from the source's word for it: that word, or where there is none, the fault for just that slot.
abbrev pub answer : Option ℕ → ℕ → Result ℕ PadFault
answer (Some word) slot = Ok word
answer None slot = Err (uncovered slot)
