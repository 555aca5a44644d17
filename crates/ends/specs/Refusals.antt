-- The refusals of creations and of changes of keys: the number of each.
use Rattle.account.specs.Questions.{Refusal}
use Rattle.framing.specs.Refusals.{plain}
use Rattle.ends.specs.declared.refusals.KeyRefusal.{KeyRefusal}
use Rattle.ends.specs.declared.refusals.KeyRefusal.TheVariants.{TooNarrow, WrongReach}
use Rattle.ends.specs.declared.refusals.DoorRefusal.{DoorRefusal}
use Rattle.ends.specs.declared.refusals.DoorRefusal.TheVariants.{Key as DoorKey, Allowance}
use Rattle.ends.specs.declared.refusals.ChangeRefusal.{ChangeRefusal}
use Rattle.ends.specs.declared.refusals.ChangeRefusal.TheVariants.{Pending, StartSpent, Key, NonePending, NotYetUsed, AlreadyUsed}

abbrev pub key_refusal : KeyRefusal → Refusal
key_refusal TooNarrow = plain 41
key_refusal WrongReach = plain 42

-- a key's refusal is passed on
abbrev pub door_refusal : DoorRefusal → Refusal
door_refusal (DoorKey refusal) = key_refusal refusal
door_refusal Allowance = plain 43

abbrev pub change_refusal : ChangeRefusal → Refusal
change_refusal Pending = plain 31
change_refusal StartSpent = plain 32
change_refusal (Key refusal) = key_refusal refusal
change_refusal NonePending = plain 34
change_refusal NotYetUsed = plain 35
change_refusal AlreadyUsed = plain 36
