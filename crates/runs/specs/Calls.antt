-- The calls of a run and what they were answered, in the account's words.
use Rattle.std.specs.Prelude.{ℕ, [], vec_items, Option}
use Rattle.family.specs.Meaning.{Meaning}
use Rattle.account.specs.Calls as account
use Rattle.account.specs.Calls.{AtReader, AtDoor, Appoint, Strike, Withdraw, Answer, Wrote, Done}
use Rattle.account.specs.Ends.{EndState, Ends, Replied}
use Rattle.account.specs.Runs.{Returned}
use Rattle.framing.specs.Refusals.{seal_refusal, open_refusal}
use Rattle.ends.specs.Refusals.{change_refusal}
use Rattle.ends.specs.Replies.{answered}
use Rattle.runs.specs.declared.calls.Call.{Call}
use Rattle.runs.specs.declared.calls.Call.TheVariants.{Seal, Open, AppointReader, StrikeReader, WithdrawReader, AppointDoor, StrikeDoor, WithdrawDoor}
use Rattle.runs.specs.declared.calls.Reply.{Reply}
use Rattle.runs.specs.declared.calls.Reply.TheVariants.{Sealed, Opened, Changed}

-- a call: keys as what they mean to their families, pad sources as their words, buffers as what they hold
module _ {F G P : Type 0} (reader_meaning : F → Meaning) (door_meaning : G → Meaning) (words : P → ℕ → Option ℕ) where
  abbrev pub call_of : Call F G P → account.Call
  call_of (Seal slot payload out pads) = account.Seal slot (vec_items payload) (vec_items out) (words pads)
  call_of (Open slot frame out pads) = account.Open slot (vec_items frame) (vec_items out) (words pads)
  call_of (AppointReader key start) = Appoint AtReader (reader_meaning key) start
  call_of StrikeReader = Strike AtReader
  call_of WithdrawReader = Withdraw AtReader
  call_of (AppointDoor key start) = Appoint AtDoor (door_meaning key) start
  call_of StrikeDoor = Strike AtDoor
  call_of WithdrawDoor = Withdraw AtDoor

-- what a caller was given: the answer, and what the output buffer then holds
abbrev pub returned : Reply → Returned
returned (Sealed r out) = record { answer = answered Wrote seal_refusal r; buffer = vec_items out }
returned (Opened r out) = record { answer = answered (λ o. account.Opened o.len o.mended) open_refusal r; buffer = vec_items out }
returned (Changed r) = record { answer = answered (λ _. Done) change_refusal r; buffer = [] }

-- two ends as one state
abbrev pub both : EndState → EndState → Ends
both reader door = record { reader = reader; door = door }

-- what a caller was given and how the ends are left, as a reply
abbrev pub replied : Returned → Ends → Replied
replied r left = record { answer = r.answer; buffer = r.buffer; after = left }
