-- The lines of a report, byte for byte. Each ends with a line feed, and numbers are in base ten.
use Rattle.std.specs.Prelude.{ℕ, List, [], ◌++◌, Some, None, codes, decimal}
use Rattle.std.specs.Borrow.{Bor}
use Rattle.std.specs.List.{flat_map}
use Rattle.account.specs.Calls.{Answer, Wrote, Opened, Done, Refused}

-- words, and a number behind them
abbrev pub part_text : Bor (List ℕ) × ℕ → List ℕ
part_text part = part.0.now ++ decimal part.1

-- a line of such parts
abbrev pub line_of : List (Bor (List ℕ) × ℕ) → List ℕ
line_of parts = flat_map part_text parts ++ codes "\n"

-- a file with a fault
abbrev pub file_line : (number place : ℕ) → List ℕ
file_line number place = codes "file refused " ++ decimal number ++ codes " at " ++ decimal place ++ codes "\n"

-- a key that is refused
abbrev pub key_line : (number : ℕ) → List ℕ
key_line number = codes "key refused " ++ decimal number ++ codes "\n"

-- a frame that opened as it was
abbrev pub opened_line : (slot size : ℕ) → List ℕ
opened_line slot size = codes "slot " ++ decimal slot ++ codes " opened " ++ decimal size ++ codes "\n"

-- a frame that opened with one bit mended
abbrev pub mended_line : (slot size place : ℕ) → List ℕ
mended_line slot size place =
    codes "slot " ++ decimal slot ++ codes " mended " ++ decimal size ++ codes " at " ++ decimal place ++ codes "\n"

-- a frame that was refused
abbrev pub refused_line : (slot number : ℕ) → List ℕ
refused_line slot number = codes "slot " ++ decimal slot ++ codes " refused " ++ decimal number ++ codes "\n"

-- The line of a frame, by what its open answers. An open answers neither `Wrote` nor `Done`, so these have no line.
abbrev pub frame_line : (slot : ℕ) → Answer → List ℕ
frame_line slot (Opened size None) = opened_line slot size
frame_line slot (Opened size (Some place)) = mended_line slot size place
frame_line slot (Refused refusal) = refused_line slot refusal.number
frame_line slot (Wrote size) = []
frame_line slot Done = []

-- the last line: how many frames gave each sort of line
abbrev pub totals_line : (opened mended refused : ℕ) → List ℕ
totals_line opened mended refused =
    codes "opened " ++ decimal opened ++ codes " mended " ++ decimal mended ++ codes " refused " ++ decimal refused ++ codes "\n"
