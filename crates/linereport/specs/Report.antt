-- The report on a file, and what the call that writes it answers.
use Rattle.std.specs.Prelude.{◌≡◌, ℕ, ◌⊎◌, List, [], ◌∷◌, ◌++◌, length, Result, nat_le}
use Rattle.family.specs.Meaning.{Meaning}
use Rattle.family.specs.Questions.{AllYes, FirstNo}
use Rattle.pads.specs.Sources.{book_words}
use Rattle.account.specs.Questions.{Question, asks}
use Rattle.account.specs.Calls.{Answer}
use Rattle.account.specs.Ends.{new_end}
use Rattle.framing.specs.Asked.{Answers, put_in_front}
use Rattle.linefile.specs.Layout.{Read, Good, Bad}
use Rattle.linefile.specs.File.{SentFrame, Contents, flaw_number, decode}
use Rattle.linewriter.specs.Lines.{file_line, key_line, frame_line, totals_line}
use Rattle.linewriter.specs.Counting.{totals_of}
use Rattle.linewriter.specs.declared.totals.Totals.{Totals}
use Rattle.linereport.specs.declared.check.ReportRefusal.{ReportRefusal}
use Rattle.linereport.specs.Refusals.{report_refusal}
use Rattle.linereport.specs.Keys.{record_meaning, record_questions}
use Rattle.linereport.specs.Frames.{answers}

-- a line for each frame, with what was answered to it
abbrev pub frame_lines : List SentFrame → List Answer → List ℕ
frame_lines [] told = []
frame_lines (f ∷ fs) [] = []
frame_lines (f ∷ fs) (a ∷ more) = frame_line f.slot a ++ frame_lines fs more

-- what a door's end with this key, just created for the file's door, answers to the file's frames
abbrev pub answers_under : Meaning → Contents → List Answer
answers_under key c = answers (book_words c.words) (new_end key c.key.door c.key.allowance) c.frames

-- the last line, from the totals
abbrev pub summed_up : Totals → List ℕ
summed_up t = totals_line t.opened t.mended t.refused

-- the lines of the frames, and how many there are of each sort
unfoldable pub page_under : Meaning → Contents → List ℕ
page_under key c = frame_lines c.frames (answers_under key c) ++ summed_up (totals_of (answers_under key c))

-- The report on what a file was read as: its first fault; or the number that its key is refused with; or, if the key passes all
-- questions, what came of its frames.
abbrev pub Told : Read Contents → (text : List ℕ) → Type 0
Told (Bad flaw place) text = text ≡ file_line (flaw_number flaw) place
Told (Good c) text =
    ((number : ℕ) × FirstNo (record_questions c.key) number × (text ≡ key_line number))
    ⊎ (AllYes (record_questions c.key) × (text ≡ page_under (record_meaning c.key) c))

-- text is the report on the bytes of a file
abbrev pub Reports : (file text : List ℕ) → Type 0
Reports file text = Told (decode file) text

-- what is asked last: does the output buffer hold the report?
abbrev pub room_questions : (text out : List ℕ) → List Question
room_questions text out = asks (nat_le (length text) (length out)) 55 ∷ []

-- What a call for the report answers: where there is room, the report stands at the front of the output buffer, later bytes stay,
-- and its length is told; otherwise the call is refused and the buffer stays.
abbrev pub Written : (file before : List ℕ) → Result ℕ ReportRefusal → (after : List ℕ) → Type 0
Written file before r after =
    (text : List ℕ) × Reports file text
    × Answers report_refusal (room_questions text before) r (λ n. (n ≡ length text) × (after ≡ put_in_front text before)) (after ≡ before)
