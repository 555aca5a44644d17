-- The account of a run. It is fed the two creations and then the arguments of each call, and works out what each call answers. It
-- never sees what an end holds, nor what one answers.
use Rattle.std.specs.Prelude.{◌≡◌, ℕ, List, [], ◌∷◌, ◌++◌, map, length, drop, Some, None, Option}
use Rattle.family.specs.Meaning.{Meaning}
use Rattle.frames.specs.Frames.{pad_of}
use Rattle.account.specs.Questions.{Refusal, first_refusal}
use Rattle.account.specs.Calls.{word, Side, AtReader, AtDoor, Call, Seal, Open, Appoint, Strike, Withdraw, Answer, Wrote, Opened, Done, Refused}
use Rattle.account.specs.Keys.{Pending, governing, next_key, appoint_questions, strike_questions, withdraw_questions}
use Rattle.account.specs.Sealing.{seal_questions, frame_under}
use Rattle.account.specs.Opening.{finding_under, payload_under, place_under, open_questions}

-- ---- what is kept

-- of each end: its keys and its door number
pub record EndKeys : Type 0 where
  pub current : Meaning
  pub next : Option Pending
  pub number : ℕ

-- the key that governs a slot at an end
abbrev pub governs : EndKeys → (slot : ℕ) → Meaning
governs e slot = governing e.current e.next slot

-- a frame that was sealed: slot, payload and frame, with the key, the pad and the door number that the call found
pub record SealedFrame : Type 0 where
  pub slot : ℕ
  pub payload : List ℕ
  pub frame : List ℕ
  pub key : Meaning
  pub pad : ℕ
  pub number : ℕ

-- a payload that was handed over, with its slot
pub record HandedOver : Type 0 where
  pub slot : ℕ
  pub payload : List ℕ

-- all that is kept
pub record Account : Type 0 where
  pub reader : EndKeys
  pub door : EndKeys
  -- how many changed bits of a frame the door mends
  pub allowance : ℕ
  -- both lists in the order of the calls
  pub sealed : List SealedFrame
  pub handed : List HandedOver
  -- the keys of the two creations and of the appointments that were accepted
  pub used : List Meaning

-- an end's keys
abbrev pub keys_at : Account → Side → EndKeys
keys_at a AtReader = a.reader
keys_at a AtDoor = a.door

-- the last of a list that follows `first`
abbrev pub last_of : (first : ℕ) → List ℕ → ℕ
last_of s [] = s
last_of s (x ∷ xs) = last_of x xs

-- the slots of both lists
abbrev pub sealed_slots : Account → List ℕ
sealed_slots a = map (λ (e : SealedFrame). e.slot) a.sealed

abbrev pub handed_slots : Account → List ℕ
handed_slots a = map (λ (e : HandedOver). e.slot) a.handed

-- an end's last slot: the last in its list, or 0
abbrev pub last_slot : Account → Side → ℕ
last_slot a AtReader = last_of 0 (sealed_slots a)
last_slot a AtDoor = last_of 0 (handed_slots a)

-- ---- what a call leaves: its answer, what its output buffer then holds, and the account. A refused call changes nothing.

pub record Step : Type 0 where
  pub answer : Answer
  pub buffer : List ℕ
  pub after : Account

-- the entry that a seal adds, with the key, the pad and the door number that it finds
abbrev pub sealed_entry : Account → (slot : ℕ) (payload : List ℕ) (word : ℕ) → SealedFrame
sealed_entry a slot payload w =
    let key = governs a.reader slot in
    record {
      slot = slot;
      payload = payload;
      frame = frame_under key w a.reader.number slot payload;
      key = key;
      pad = pad_of key.width w;
      number = a.reader.number;
    }

-- the account with that entry behind the others
abbrev pub add_sealed : Account → SealedFrame → Account
add_sealed a e =
    record { reader = a.reader; door = a.door; allowance = a.allowance; sealed = a.sealed ++ e ∷ []; handed = a.handed; used = a.used }

-- a seal, refused or accepted: the frame goes to the front of the buffer
abbrev pub seals : Option Refusal → Account → SealedFrame → (buffer : List ℕ) → Step
seals (Some r) a e buffer = record { answer = Refused r; buffer = buffer; after = a }
seals None a e buffer =
    record { answer = Wrote (length e.frame); buffer = e.frame ++ drop (length e.frame) buffer; after = add_sealed a e }

-- the entry that an open adds
abbrev pub handed_entry : Account → (slot : ℕ) (frame : List ℕ) (word : ℕ) → HandedOver
handed_entry a slot frame w = record { slot = slot; payload = payload_under (governs a.door slot) w a.door.number slot frame }

-- the account with that entry behind the others
abbrev pub add_handed : Account → HandedOver → Account
add_handed a e =
    record { reader = a.reader; door = a.door; allowance = a.allowance; sealed = a.sealed; handed = a.handed ++ e ∷ []; used = a.used }

-- an open, refused or accepted: the payload goes to the front of the buffer
abbrev pub opens : Option Refusal → Account → HandedOver → (place : Option ℕ) (buffer : List ℕ) → Step
opens (Some r) a e place buffer = record { answer = Refused r; buffer = buffer; after = a }
opens None a e place buffer =
    record { answer = Opened (length e.payload) place; buffer = e.payload ++ drop (length e.payload) buffer; after = add_handed a e }

-- the account with other keys at one end
abbrev pub with_end : Account → Side → EndKeys → (used : List Meaning) → Account
with_end a AtReader e used = record { reader = e; door = a.door; allowance = a.allowance; sealed = a.sealed; handed = a.handed; used = used }
with_end a AtDoor e used = record { reader = a.reader; door = e; allowance = a.allowance; sealed = a.sealed; handed = a.handed; used = used }

-- a change of keys, refused or accepted
abbrev pub rekeys : Option Refusal → Account → Side → EndKeys → (used : List Meaning) → Step
rekeys (Some r) a side e used = record { answer = Refused r; buffer = []; after = a }
rekeys None a side e used = record { answer = Done; buffer = []; after = with_end a side e used }

-- what the account works out for a call
abbrev pub outcome : Account → Call → Step
outcome a (Seal slot payload buffer pads) =
    seals
    (first_refusal (seal_questions (last_slot a AtReader) slot (governs a.reader slot).width payload buffer pads))
    a
    (sealed_entry a slot payload (word (pads slot)))
    buffer
outcome a (Open slot frame buffer pads) =
    let key = governs a.door slot in
    let w = word (pads slot) in
    opens
    (first_refusal
    (open_questions (last_slot a AtDoor) slot key.width a.allowance frame buffer pads (finding_under key w a.door.number slot frame)))
    a
    (handed_entry a slot frame w)
    (place_under key w a.door.number slot frame)
    buffer
outcome a (Appoint side key start) =
    let e = keys_at a side in
    rekeys
    (first_refusal (appoint_questions e.next (last_slot a side) key start))
    a
    side
    (record { current = e.current; next = Some (record { key = key; start = start }); number = e.number })
    (a.used ++ key ∷ [])
outcome a (Strike side) =
    let e = keys_at a side in
    rekeys
    (first_refusal (strike_questions e.next (last_slot a side)))
    a
    side
    (record { current = next_key e.next e.current; next = None; number = e.number })
    a.used
outcome a (Withdraw side) =
    let e = keys_at a side in
    rekeys
    (first_refusal (withdraw_questions e.next (last_slot a side)))
    a
    side
    (record { current = e.current; next = None; number = e.number })
    a.used

-- ---- a run

-- what the account works out for each call of a list
abbrev pub outcomes : Account → List Call → List Step
outcomes a [] = []
outcomes a (c ∷ cs) = outcome a c ∷ outcomes (outcome a c).after cs

-- the account after a list of calls
abbrev pub account_after : Account → List Call → Account
account_after a [] = a
account_after a (c ∷ cs) = account_after (outcome a c).after cs

-- the arguments of the two creations
pub record Creations : Type 0 where
  pub reader_key : Meaning
  pub reader_number : ℕ
  pub door_key : Meaning
  pub door_number : ℕ
  pub allowance : ℕ

-- the account when both ends are created and nothing is called yet
abbrev pub created : Creations → Account
created c =
    record {
      reader = record { current = c.reader_key; next = None; number = c.reader_number };
      door = record { current = c.door_key; next = None; number = c.door_number };
      allowance = c.allowance;
      sealed = [];
      handed = [];
      used = c.reader_key ∷ c.door_key ∷ [];
    }

-- what a call's output buffer holds before it; a change of keys has none
abbrev pub buffer_before : Call → List ℕ
buffer_before (Seal slot payload buffer pads) = buffer
buffer_before (Open slot frame buffer pads) = buffer
buffer_before (Appoint side key start) = []
buffer_before (Strike side) = []
buffer_before (Withdraw side) = []

-- A refused call leaves its buffer and the account.
abbrev pub RefusalsChangeNothing : Type 0
RefusalsChangeNothing =
    (a : Account) (c : Call) (r : Refusal) → (outcome a c).answer ≡ Refused r
    → ((outcome a c).buffer ≡ buffer_before c) × ((outcome a c).after ≡ a)
