-- What is asked of a payload and of a frame under a key, and what a call answers.
use Rattle.std.specs.Prelude.{◌≡◌, ℕ, List, [], ◌∷◌, ◌++◌, length, drop, Some, None, Option, Result, MatchResult, nat_le}
use Rattle.bits.specs.Bits.{flip}
use Rattle.family.specs.Meaning.{Meaning}
use Rattle.frames.specs.Frames.{text_size, payload_size}
use Rattle.account.specs.Questions.{Refusal, Question, asks, first_refusal}
use Rattle.account.specs.Calls.{Pads, word}
use Rattle.account.specs.Sealing.{pad_question, seal_questions}
use Rattle.account.specs.Opening.{finding_under, read_questions, judge_questions}

-- r answers the questions: where all are answered yes it is a value, of which `done` holds; otherwise it is the refusal of the
-- first no, and `unchanged` holds.
abbrev pub Answers : {X E : Type 0} (refusal : E → Refusal) → List Question → Result X E → (done : X → Type 0) (unchanged : Type 0) → Type 0
Answers refusal qs r done unchanged =
    MatchResult r (λ x. (first_refusal qs ≡ None) × done x) (λ e. (first_refusal qs ≡ Some (refusal e)) × unchanged)

-- bytes written at the front of a buffer, with what stood behind them
abbrev pub put_in_front : (bytes buffer : List ℕ) → List ℕ
put_in_front bytes buffer = bytes ++ drop (length bytes) buffer

-- Whether a key reaches the text of a payload of L bytes. The account does not ask this: the keys of an end that was created reach
-- every text.
abbrev pub reach_question : Meaning → (L : ℕ) → Question
reach_question key L = asks (nat_le (text_size L) key.reach) 8

-- What is asked before a payload is sealed under a key: what the account asks but for the first question, which is of the last
-- slot and the end's own; and whether the key reaches.
unfoldable pub payload_questions : Meaning → (slot : ℕ) (payload buffer : List ℕ) (pads : Pads) → List Question
payload_questions key slot payload buffer pads =
    drop 1 (seal_questions 0 slot key.width payload buffer pads) ++ reach_question key (length payload) ∷ []

-- What is asked before a frame is opened under a key, again but for the last slot: of the frame, of the pad source, whether the
-- key reaches, and then of what was found.
unfoldable pub frame_questions : Meaning → (number allowance slot : ℕ) (frame : List ℕ) (room : ℕ) (pads : Pads) → List Question
frame_questions key number allowance slot frame room pads =
    read_questions key.width frame room
    ++ pad_question pads slot 25
    ∷ reach_question key (payload_size key.width frame)
    ∷ judge_questions allowance (finding_under key (word (pads slot)) number slot frame)

-- a payload with the bit at a place turned over, where there is one; a place behind the payload changes nothing
abbrev pub turned_over : (payload : List ℕ) → Option ℕ → List ℕ
turned_over payload None = payload
turned_over payload (Some place) = flip payload place
