-- Opening: what is asked, and what a frame gives under a key.
use Rattle.std.specs.Prelude.{ℕ, ◌+◌, ◌&&◌, ◌||◌, List, [], ◌∷◌, ◌++◌, length, Option, ◌==◌, nat_le, nat_lt}
use Rattle.bits.specs.Bits.{weight}
use Rattle.family.specs.Meaning.{Meaning}
use Rattle.frames.specs.Limits.{longest_payload}
use Rattle.frames.specs.Frames.{tag_size, text_size, pad_of, payload_size, payload_of, spare_bits, syndrome}
use Rattle.frames.specs.Findings.{Finding, finding, is_clean, is_somewhere, outside_bound, mended, told_place}
use Rattle.account.specs.Questions.{Question, asks}
use Rattle.account.specs.Calls.{Pads}
use Rattle.account.specs.Sealing.{pad_question}

-- what a frame shows under a key, with a pad word
unfoldable pub finding_under : Meaning → (word number slot : ℕ) (frame : List ℕ) → Finding
finding_under key word number slot frame =
    let columns = key.columns (text_size (payload_size key.width frame)) in
    finding key.width columns (syndrome key.width columns (pad_of key.width word) number slot frame)

-- the payload that it gives, mended where need be
unfoldable pub payload_under : Meaning → (word number slot : ℕ) (frame : List ℕ) → List ℕ
payload_under key word number slot frame = mended (finding_under key word number slot frame) (payload_of key.width frame)

-- the place that it tells
unfoldable pub place_under : Meaning → (word number slot : ℕ) (frame : List ℕ) → Option ℕ
place_under key word number slot frame = told_place (finding_under key word number slot frame) (payload_size key.width frame)

-- what is asked of the frame itself, under a key of width n and with room for so many bytes: it has the tag and a payload of 1
-- byte up to the most, its spare bits are zero, and the room holds the payload
abbrev pub read_questions : (n : ℕ) (frame : List ℕ) (room : ℕ) → List Question
read_questions n frame room =
    asks (nat_lt (tag_size n) (length frame) && nat_le (length frame) (tag_size n + longest_payload)) 22
    ∷ asks (weight (spare_bits n frame) == 0) 23
    ∷ asks (nat_le (payload_size n frame) room) 24
    ∷ []

-- what is asked of what was found: the syndrome is zero or one change is allowed; it is zero, a column of the text or a unit
-- column; and if it is a column of the text, its place is outside the bound word
abbrev pub judge_questions : (allowance : ℕ) → Finding → List Question
judge_questions allowance found =
    asks (is_clean found || allowance == 1) 26
    ∷ asks (is_somewhere found) 27
    ∷ asks (outside_bound found) 28
    ∷ []

-- what is asked before a frame is opened: the slot is above the last; then of the frame; whether the pad source answers; and then
-- of what was found
abbrev pub open_questions : (last slot n allowance : ℕ) (frame buffer : List ℕ) (pads : Pads) (found : Finding) → List Question
open_questions last slot n allowance frame buffer pads found =
    asks (nat_lt last slot) 21
    ∷ read_questions n frame (length buffer)
    ++ pad_question pads slot 25
    ∷ judge_questions allowance found
