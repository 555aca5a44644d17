-- Single calls are runs of one: whoever never calls `run` has the promise too. Each line starts from what the contract of a
-- call at an end says, and ends with what the contract of `run` says. With `InSequence` of the account, which joins runs that
-- follow each other, single calls at the two ends in any order are a run.
use Rattle.std.specs.Prelude.{◌≡◌, ℕ, List, [], ◌∷◌, None, Result}
use Rattle.bits.specs.Bits.{Bytes}
use Rattle.family.specs.Meaning.{Meaning, Lawful}
use Rattle.account.specs.Questions.{first_refusal}
use Rattle.account.specs.Keys.{key_questions, door_questions}
use Rattle.account.specs.Calls as account
use Rattle.account.specs.Calls.{Pads, AtReader, AtDoor, Seal, Open, Appoint, Strike, Withdraw}
use Rattle.account.specs.Account.{Creations, account_after, created}
use Rattle.account.specs.Ends.{EndState, EndReply, Reaches, new_end, ends_of, seal_reply, open_reply, appoint_reply, strike_reply, withdraw_reply}
use Rattle.account.specs.Promise.{Accepted}
use Rattle.account.specs.Runs.{Returned, Kept}
use Rattle.framing.specs.declared.refusals.SealRefusal.{SealRefusal}
use Rattle.framing.specs.declared.refusals.OpenRefusal.{OpenRefusal}
use Rattle.framing.specs.declared.opening.Opened.{Opened}
use Rattle.ends.specs.declared.refusals.ChangeRefusal.{ChangeRefusal}
use Rattle.ends.specs.Replies.{sealed, opened, changed}
use Rattle.runs.specs.Calls.{both}

-- what a caller is given of an end's reply
abbrev pub given : EndReply → Returned
given r = record { answer = r.answer; buffer = r.buffer }

-- a call at the reader end, or at the door end, is a run of one
abbrev pub ReaderRun : (reader reader' : EndState) → account.Call → Returned → Type 0
ReaderRun reader reader' call r = (door : EndState) → Kept (both reader door) (call ∷ []) (r ∷ []) (both reader' door)

abbrev pub DoorRun : (door door' : EndState) → account.Call → Returned → Type 0
DoorRun door door' call r = (reader : EndState) → Kept (both reader door) (call ∷ []) (r ∷ []) (both reader door')

pub record SingleCalls : Type 0 where
  -- two ends that were created stand as the account of no calls says
  pub creations : (c : Creations) → Lawful c.reader_key → Lawful c.door_key
      → first_refusal (key_questions c.reader_key) ≡ None → first_refusal (door_questions c.door_key c.allowance) ≡ None
      → Accepted c
      × (both (new_end c.reader_key c.reader_number 0) (new_end c.door_key c.door_number c.allowance) ≡ ends_of (account_after (created c) []))
  pub seals : (e e' : EndState) (slot : ℕ) (payload buffer out : List ℕ) (pads : Pads) (r : Result ℕ SealRefusal) → Bytes payload
      → (Reaches e → sealed r out e' ≡ seal_reply e slot payload buffer pads)
      → ReaderRun e e' (Seal slot payload buffer pads) (given (sealed r out e'))
  pub opens : (e e' : EndState) (slot : ℕ) (frame buffer out : List ℕ) (pads : Pads) (r : Result Opened OpenRefusal) → Bytes frame
      → (Reaches e → opened r out e' ≡ open_reply e slot frame buffer pads)
      → DoorRun e e' (Open slot frame buffer pads) (given (opened r out e'))
  pub appoints : (e e' : EndState) (key : Meaning) (start : ℕ) (r : Result (Unit {0}) ChangeRefusal) → Lawful key → changed r e' ≡ appoint_reply e key start
      → ReaderRun e e' (Appoint AtReader key start) (given (changed r e')) × DoorRun e e' (Appoint AtDoor key start) (given (changed r e'))
  pub strikes : (e e' : EndState) (r : Result (Unit {0}) ChangeRefusal) → changed r e' ≡ strike_reply e
      → ReaderRun e e' (Strike AtReader) (given (changed r e')) × DoorRun e e' (Strike AtDoor) (given (changed r e'))
  pub withdraws : (e e' : EndState) (r : Result (Unit {0}) ChangeRefusal) → changed r e' ≡ withdraw_reply e
      → ReaderRun e e' (Withdraw AtReader) (given (changed r e')) × DoorRun e e' (Withdraw AtDoor) (given (changed r e'))
