-- The calls of a run and their answers, as meanings: a key is what it means, a pad source its words, a buffer what it holds.
use Rattle.std.specs.Prelude.{ℕ, List, Some, None, Option}
use Rattle.family.specs.Meaning.{Meaning}
use Rattle.account.specs.Questions.{Refusal}

-- a pad source: the word of each slot that it covers
abbrev pub Pads : Type 0
Pads = ℕ → Option ℕ

-- the word itself, where there is one
abbrev pub word : Option ℕ → ℕ
word (Some w) = w
word None = 0

-- the reader's end, or the door's
pub data Side : Type 0 where
  AtReader AtDoor : Side

-- a call with its arguments; `buffer` is what its output buffer holds before it
pub data Call : Type 0 where
  Seal : (slot : ℕ) (payload buffer : List ℕ) (pads : Pads) → Call
  Open : (slot : ℕ) (frame buffer : List ℕ) (pads : Pads) → Call
  Appoint : (side : Side) (key : Meaning) (start : ℕ) → Call
  Strike : (side : Side) → Call
  Withdraw : (side : Side) → Call

-- what a call answers
pub data Answer : Type 0 where
  -- a frame of so many bytes was written
  Wrote : (size : ℕ) → Answer
  -- a payload of so many bytes was written, and this place was mended
  Opened : (size : ℕ) (place : Option ℕ) → Answer
  -- the keys were changed
  Done : Answer
  Refused : Refusal → Answer
