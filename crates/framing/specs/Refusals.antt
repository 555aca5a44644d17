-- The refusals of sealing and opening: the number of each, and the slot that it carries.
use Rattle.std.specs.Prelude.{ℕ, Some, None}
use Rattle.account.specs.Questions.{Refusal}
use Rattle.framing.specs.declared.refusals.SealRefusal.{SealRefusal}
use Rattle.framing.specs.declared.refusals.SealRefusal.TheVariants.{SlotSpent, PayloadLength, NoRoom, NoPad, OutOfReach}
use Rattle.framing.specs.declared.refusals.OpenRefusal as opening
use Rattle.framing.specs.declared.refusals.OpenRefusal.{OpenRefusal}

-- a refusal that carries nothing
abbrev pub plain : ℕ → Refusal
plain number = record { number = number; slot = None }

abbrev pub seal_refusal : SealRefusal → Refusal
seal_refusal SlotSpent = plain 11
seal_refusal PayloadLength = plain 12
seal_refusal NoRoom = plain 13
seal_refusal (NoPad fault) = record { number = 14; slot = Some fault.slot }
seal_refusal OutOfReach = plain 8

abbrev pub open_refusal : OpenRefusal → Refusal
open_refusal opening.TheVariants.SlotSpent = plain 21
open_refusal opening.TheVariants.FrameLength = plain 22
open_refusal opening.TheVariants.SpareBits = plain 23
open_refusal opening.TheVariants.NoRoom = plain 24
open_refusal (opening.TheVariants.NoPad fault) = record { number = 25; slot = Some fault.slot }
open_refusal opening.TheVariants.OutOfReach = plain 8
open_refusal opening.TheVariants.Changed = plain 26
open_refusal opening.TheVariants.Unknown = plain 27
open_refusal opening.TheVariants.BoundWord = plain 28
