-- Sealing: what is asked, and the frame that a key makes.
use Rattle.std.specs.Prelude.{ℕ, ◌+◌, ◌&&◌, List, [], ◌∷◌, length, is_some, Some, nat_le, nat_lt}
use Rattle.family.specs.Meaning.{Meaning}
use Rattle.frames.specs.Limits.{longest_payload}
use Rattle.frames.specs.Frames.{tag_size, text_size, pad_of, frame_of}
use Rattle.account.specs.Questions.{Question, asks}
use Rattle.account.specs.Calls.{Pads}

-- whether the pad source answers for the slot; its fault is passed on with the slot that it names
abbrev pub pad_question : (pads : Pads) (slot number : ℕ) → Question
pad_question pads slot number = record { passes = is_some (pads slot); otherwise = record { number = number; slot = Some slot } }

-- what is asked before a payload is sealed by a key of width n: the slot is above the last, the payload has 1 byte up to the
-- most, the buffer holds the frame, and the pad source answers
abbrev pub seal_questions : (last slot n : ℕ) (payload buffer : List ℕ) (pads : Pads) → List Question
seal_questions last slot n payload buffer pads =
    asks (nat_lt last slot) 11
    ∷ asks (nat_le 1 (length payload) && nat_le (length payload) longest_payload) 12
    ∷ asks (nat_le (length payload + tag_size n) (length buffer)) 13
    ∷ pad_question pads slot 14
    ∷ []

-- the frame of a payload under a key, with a pad word
unfoldable pub frame_under : Meaning → (word number slot : ℕ) (payload : List ℕ) → List ℕ
frame_under key word number slot payload =
    frame_of key.width (key.columns (text_size (length payload))) (pad_of key.width word) number slot payload
