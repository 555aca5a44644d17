-- What an end holds, and what it replies to a call. An end keeps no list, only its last slot.
use Rattle.std.specs.Prelude.{◌≡◌, ℕ, List, [], ◌++◌, length, drop, Some, None, Option}
use Rattle.family.specs.Meaning.{Meaning}
use Rattle.frames.specs.Limits.{needed_reach}
use Rattle.account.specs.Questions.{Refusal, first_refusal}
use Rattle.account.specs.Calls.{Pads, word, AtReader, AtDoor, Call, Seal, Open, Appoint, Strike, Withdraw, Answer, Wrote, Opened, Done, Refused}
use Rattle.account.specs.Keys.{Pending, governing, next_key, appoint_questions, strike_questions, withdraw_questions}
use Rattle.account.specs.Sealing.{seal_questions, frame_under}
use Rattle.account.specs.Opening.{finding_under, payload_under, place_under, open_questions}
use Rattle.account.specs.Account.{Account, last_slot, outcome, Creations}

-- what an end holds
pub record EndState : Type 0 where
  pub current : Meaning
  pub next : Option Pending
  -- the door's number
  pub number : ℕ
  -- the last slot that was sealed or opened, 0 at first
  pub last : ℕ
  -- how many changed bits of a frame are mended; 0 at a reader's end
  pub allowance : ℕ

-- the key that governs a slot
abbrev pub governed : EndState → (slot : ℕ) → Meaning
governed h slot = governing h.current h.next slot

-- every key that may govern a slot reaches every text
abbrev pub Reaches : EndState → Type 0
Reaches h = (slot : ℕ) → (governed h slot).reach ≡ needed_reach

-- ---- the states that calls lead to

-- an end that was just created
abbrev pub new_end : (key : Meaning) (number allowance : ℕ) → EndState
new_end key number allowance = record { current = key; next = None; number = number; last = 0; allowance = allowance }

-- a slot was done
abbrev pub at_slot : EndState → (slot : ℕ) → EndState
at_slot h slot = record { current = h.current; next = h.next; number = h.number; last = slot; allowance = h.allowance }

-- its keys were changed
abbrev pub with_keys : EndState → (current : Meaning) (next : Option Pending) → EndState
with_keys h current next = record { current = current; next = next; number = h.number; last = h.last; allowance = h.allowance }

-- a key was appointed
abbrev pub appointed : EndState → Meaning → (start : ℕ) → EndState
appointed h key start = with_keys h h.current (Some (record { key = key; start = start }))

-- the current key was struck, and the next one is current
abbrev pub struck : EndState → EndState
struck h = with_keys h (next_key h.next h.current) None

-- the next key was withdrawn
abbrev pub withdrawn : EndState → EndState
withdrawn h = with_keys h h.current None

-- ---- what an end replies: its answer, what the output buffer then holds, and what the end then holds

pub record EndReply : Type 0 where
  pub answer : Answer
  pub buffer : List ℕ
  pub after : EndState

-- a call that writes at the front of the buffer and spends its slot, or is refused
abbrev pub writes : Option Refusal → EndState → (slot : ℕ) (answer : Answer) (bytes buffer : List ℕ) → EndReply
writes (Some r) h slot answer bytes buffer = record { answer = Refused r; buffer = buffer; after = h }
writes None h slot answer bytes buffer = record { answer = answer; buffer = bytes ++ drop (length bytes) buffer; after = at_slot h slot }

-- a call that changes the keys, or is refused
abbrev pub changes_keys : Option Refusal → (before after : EndState) → EndReply
changes_keys (Some r) h h' = record { answer = Refused r; buffer = []; after = h }
changes_keys None h h' = record { answer = Done; buffer = []; after = h' }

-- one for each call
abbrev pub seal_reply : EndState → (slot : ℕ) (payload buffer : List ℕ) (pads : Pads) → EndReply
seal_reply h slot payload buffer pads =
    let frame = frame_under (governed h slot) (word (pads slot)) h.number slot payload in
    writes
    (first_refusal (seal_questions h.last slot (governed h slot).width payload buffer pads))
    h
    slot
    (Wrote (length frame))
    frame
    buffer

abbrev pub open_reply : EndState → (slot : ℕ) (frame buffer : List ℕ) (pads : Pads) → EndReply
open_reply h slot frame buffer pads =
    let key = governed h slot in
    let w = word (pads slot) in
    let payload = payload_under key w h.number slot frame in
    writes
    (first_refusal
    (open_questions h.last slot key.width h.allowance frame buffer pads (finding_under key w h.number slot frame)))
    h
    slot
    (Opened (length payload) (place_under key w h.number slot frame))
    payload
    buffer

abbrev pub appoint_reply : EndState → Meaning → (start : ℕ) → EndReply
appoint_reply h key start = changes_keys (first_refusal (appoint_questions h.next h.last key start)) h (appointed h key start)

abbrev pub strike_reply : EndState → EndReply
strike_reply h = changes_keys (first_refusal (strike_questions h.next h.last)) h (struck h)

abbrev pub withdraw_reply : EndState → EndReply
withdraw_reply h = changes_keys (first_refusal (withdraw_questions h.next h.last)) h (withdrawn h)

-- ---- the two ends, and their reply to a call: that of the end which the call is for

pub record Ends : Type 0 where
  pub reader : EndState
  pub door : EndState

pub record Replied : Type 0 where
  pub answer : Answer
  pub buffer : List ℕ
  pub after : Ends

abbrev pub from_reader : Ends → EndReply → Replied
from_reader e r = record { answer = r.answer; buffer = r.buffer; after = record { reader = r.after; door = e.door } }

abbrev pub from_door : Ends → EndReply → Replied
from_door e r = record { answer = r.answer; buffer = r.buffer; after = record { reader = e.reader; door = r.after } }

abbrev pub reply : Ends → Call → Replied
reply e (Seal slot payload buffer pads) = from_reader e (seal_reply e.reader slot payload buffer pads)
reply e (Open slot frame buffer pads) = from_door e (open_reply e.door slot frame buffer pads)
reply e (Appoint AtReader key start) = from_reader e (appoint_reply e.reader key start)
reply e (Appoint AtDoor key start) = from_door e (appoint_reply e.door key start)
reply e (Strike AtReader) = from_reader e (strike_reply e.reader)
reply e (Strike AtDoor) = from_door e (strike_reply e.door)
reply e (Withdraw AtReader) = from_reader e (withdraw_reply e.reader)
reply e (Withdraw AtDoor) = from_door e (withdraw_reply e.door)

-- ---- the ends and the account

-- the two ends when they were just created
abbrev pub new_ends : Creations → Ends
new_ends c =
    record {
      reader = new_end c.reader_key c.reader_number 0;
      door = new_end c.door_key c.door_number c.allowance;
    }

-- what the ends hold, as the account says
abbrev pub ends_of : Account → Ends
ends_of a =
    record {
      reader = record { current = a.reader.current; next = a.reader.next; number = a.reader.number; last = last_slot a AtReader; allowance = 0 };
      door =
          record { current = a.door.current; next = a.door.next; number = a.door.number; last = last_slot a AtDoor; allowance = a.allowance };
    }

-- Ends that stand as the account says reply as it works out, and then stand again as it says.
abbrev pub EndsFollow : Type 0
EndsFollow =
    (a : Account) (c : Call)
    → reply (ends_of a) c ≡ record { answer = (outcome a c).answer; buffer = (outcome a c).buffer; after = ends_of (outcome a c).after }
