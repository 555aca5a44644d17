-- The promise of every run.
use Rattle.std.specs.Prelude.{◌≡◌, ℕ, ◌+◌, ◌*◌, ◌<◌, ◌≤◌, Bool, List, [], ◌∷◌, ◌++◌, map, length, drop, Some, None, Option}
use Rattle.std.specs.List.{ContainsAt as Has, AllByRecursion}
use Rattle.bits.specs.Bits.{Bytes, weight}
use Rattle.family.specs.Meaning.{Meaning, Lawful, Same}
use Rattle.frames.specs.Frames.{pad_of, spare_bits}
use Rattle.frames.specs.Changed.{changed_places, Names}
use Rattle.account.specs.Questions.{Refusal, first_refusal}
use Rattle.account.specs.Calls.{Pads, AtDoor, Call, Seal, Open, Appoint, Strike, Withdraw, Answer, Opened, Refused}
use Rattle.account.specs.Keys.{key_questions, door_questions}
use Rattle.account.specs.Account.{SealedFrame, HandedOver, Account, Step, governs, last_slot, handed_slots, outcome, account_after, Creations, created}

-- Both creations were accepted: their keys keep the law, and every question was answered yes.
pub record Accepted (c : Creations) : Type 0 where
  pub reader_law : Lawful c.reader_key
  pub door_law : Lawful c.door_key
  pub reader_passes : first_refusal (key_questions c.reader_key) ≡ None
  pub door_passes : first_refusal (door_questions c.door_key c.allowance) ≡ None

-- What is handed in as bytes is bytes, and keys keep the law.
abbrev pub Proper : Call → Type 0
Proper (Seal slot payload buffer pads) = Bytes payload
Proper (Open slot frame buffer pads) = Bytes frame
Proper (Appoint side key start) = Lawful key
Proper (Strike side) = Unit {0}
Proper (Withdraw side) = Unit {0}

-- An offer of a frame for a slot copies a frame that was sealed for that slot: both calls found the same key, the same pad and the
-- same door number, and both frames have one length and the same spare bits. The other bits may have changed on the way.
pub record Copies (a : Account) (slot : ℕ) (frame : List ℕ) (pads : Pads) (e : SealedFrame) : Type 0 where
  pub was_sealed : Has a.sealed e
  pub same_slot : e.slot ≡ slot
  pub same_key : Same e.key (governs a.door slot)
  pub word : ℕ
  pub covered : pads slot ≡ Some word
  pub same_pad : e.pad ≡ pad_of (governs a.door slot).width word
  pub same_number : e.number ≡ a.door.number
  pub same_size : length e.frame ≡ length frame
  pub same_spare : spare_bits e.key.width e.frame ≡ spare_bits e.key.width frame

-- the bits that changed on the way, each at its place
abbrev pub changed : SealedFrame → (frame : List ℕ) → List Bool
changed e frame = changed_places e.key.width e.frame frame

-- An open hands over a payload: it answers the payload's length and names the changed place, where there is one; it writes the
-- payload at the front of the buffer and leaves the bytes behind it; and the payload is added to what was handed over.
pub record HandsOver (a : Account) (s : Step) (slot : ℕ) (payload buffer : List ℕ) (bits : List Bool) : Type 0 where
  pub place : Option ℕ
  pub answer : s.answer ≡ Opened (length payload) place
  pub names : Names place bits
  pub written : s.buffer ≡ payload ++ drop (length payload) buffer
  pub added : s.after.handed ≡ a.handed ++ record { slot = slot; payload = payload } ∷ []

-- the answer is a refusal
abbrev pub IsRefused : Answer → Type 0
IsRefused answer = (r : Refusal) × (answer ≡ Refused r)

-- xs is ys with some left out, in the same order
pub data SomeLeftOut {X : Type 0} : List X → List X → Type 0 where
  none : SomeLeftOut [] []
  kept : {x : X} {xs ys : List X} → SomeLeftOut xs ys → SomeLeftOut (x ∷ xs) (x ∷ ys)
  left : {x : X} {xs ys : List X} → SomeLeftOut xs ys → SomeLeftOut xs (x ∷ ys)

-- each number is above the one before it, so that none comes twice
abbrev pub StrictlyRising : (above : ℕ) → List ℕ → Type 0
StrictlyRising s [] = Unit {0}
StrictlyRising s (x ∷ xs) = (s < x) × StrictlyRising x xs

-- what was sealed, as it would be handed over
abbrev pub sealed_payloads : Account → List HandedOver
sealed_payloads a = map (λ (e : SealedFrame). record { slot = e.slot; payload = e.payload }) a.sealed

-- ---- Wherever an open stands among the calls of a run, with `here` the account before it:

-- a copy with no more changed bits than the allowance, for a slot above the last and with room for its payload, hands over the
-- payload that was sealed
abbrev pub OpensCopies : Account → List Call → Type 0
OpensCopies start calls =
    (before after : List Call) (slot : ℕ) (frame buffer : List ℕ) (pads : Pads) (e : SealedFrame)
    → let here = account_after start before in
    calls ≡ before ++ Open slot frame buffer pads ∷ after
    → Copies here slot frame pads e → weight (changed e frame) ≤ start.allowance
    → last_slot here AtDoor < slot → length e.payload ≤ length buffer
    → HandsOver here (outcome here (Open slot frame buffer pads)) slot e.payload buffer (changed e frame)

-- a copy with more changed bits, up to d more, is refused
abbrev pub RefusesCopies : Account → List Call → (d : ℕ) → Type 0
RefusesCopies start calls d =
    (before after : List Call) (slot : ℕ) (frame buffer : List ℕ) (pads : Pads) (e : SealedFrame)
    → let here = account_after start before in
    calls ≡ before ++ Open slot frame buffer pads ∷ after
    → Copies here slot frame pads e → start.allowance < weight (changed e frame) → weight (changed e frame) ≤ start.allowance + d
    → IsRefused (outcome here (Open slot frame buffer pads)).answer

-- every offer that opened was a copy with at most so many changed bits
abbrev pub OnlyCopies : Account → List Call → (most : ℕ) → Type 0
OnlyCopies start calls most =
    (before after : List Call) (slot : ℕ) (frame buffer : List ℕ) (pads : Pads) (size : ℕ) (place : Option ℕ)
    → let here = account_after start before in
    calls ≡ before ++ Open slot frame buffer pads ∷ after
    → (outcome here (Open slot frame buffer pads)).answer ≡ Opened size place
    → (e : SealedFrame) × Copies here slot frame pads e × (weight (changed e frame) ≤ most)

-- The promise of the calls of a run. Nothing is handed over twice; and if every offer that opened was a copy that the promise
-- speaks of, what was handed over is what was sealed, with some left out, in order and unaltered.
pub record Promise (c : Creations) (calls : List Call) (d : ℕ) : Type 0 where
  pub opens : OpensCopies (created c) calls
  pub refuses : RefusesCopies (created c) calls d
  pub once : StrictlyRising 0 (handed_slots (account_after (created c) calls))
  pub in_order :
      OnlyCopies (created c) calls (c.allowance + d)
      → let end = account_after (created c) calls in SomeLeftOut end.handed (sealed_payloads end)

-- Every run keeps it, for each d that the code distances of its keys leave beside the allowance.
abbrev pub EveryRun : Type 0
EveryRun =
    (c : Creations) (calls : List Call) (d : ℕ) → Accepted c → AllByRecursion Proper calls
    → AllByRecursion (λ (k : Meaning). 2 * c.allowance + d + 1 ≤ k.distance) (account_after (created c) calls).used
    → Promise c calls d
