-- What the values that a file is read into mean, and what each stage of the reading tells.
use Rattle.std.specs.Prelude.{◌≡◌, ℕ, zero, suc, ◌+◌, ◌<◌, ◌≤◌, cond, List, [], ◌∷◌, length, map, take, drop, Some, None, Option, find, unwrap_or, nat_le, nat_lt}
use Rattle.std.specs.Int.Digits.{number_from_digits}
use Rattle.linefile.specs.declared.faults.FileFault.{FileFault}
use Rattle.linefile.specs.declared.faults.Flaw.TheVariants.{CutShort}
use Rattle.linefile.specs.declared.left.Left.{Left}
use Rattle.linefile.specs.declared.frames.Frame.{Frame}
use Rattle.linefile.specs.declared.frames.FrameList.{FrameList}
use Rattle.linefile.specs.declared.pads.PadWords.{PadWords}
use Rattle.linefile.specs.declared.whole.LineFile.{LineFile}
use Rattle.linefile.specs.Layout.{Layout, Part, Bad, repeated}
use Rattle.linefile.specs.File.{SentFrame, Contents, counted}

-- ---- what is read

-- the words of a pad book
abbrev pub words_of : PadWords → List ℕ
words_of p = take p.count p.words

-- a frame
abbrev pub sent_of : Frame → SentFrame
sent_of f = record { slot = f.slot; bytes = f.bytes.now }

-- The first frame that bytes hold, which have a slot and a length at least: as much of it as is there, and the bytes behind it.
abbrev pub size_in : (bytes : List ℕ) → ℕ
size_in bytes = number_from_digits 256 (take 1 (drop 4 bytes))

abbrev pub frame_in : (bytes : List ℕ) → SentFrame
frame_in bytes = record { slot = number_from_digits 256 (take 4 bytes); bytes = take (size_in bytes) (drop 5 bytes) }

abbrev pub behind_in : (bytes : List ℕ) → List ℕ
behind_in bytes = drop (size_in bytes) (drop 5 bytes)

-- The first `count` frames that bytes hold, as far as they have a slot and a length.
unfoldable pub frames_in : (count : ℕ) (bytes : List ℕ) → List SentFrame
frames_in zero bytes = []
frames_in (suc n) bytes = cond (nat_lt (length bytes) 5) [] (frame_in bytes ∷ frames_in n (behind_in bytes))

-- a list of frames
abbrev pub frames_of : FrameList → List SentFrame
frames_of l = frames_in l.count l.bytes.now

-- the first frame of a list and the frames behind it, or none
abbrev pub Splits : Option (Frame × FrameList) → FrameList → Type 0
Splits None l = frames_of l ≡ []
Splits (Some p) l = (frames_of l ≡ sent_of p.0 ∷ frames_of p.1) × (p.1.count + 1 ≡ l.count)

-- a whole file
abbrev pub contents_of : LineFile → Contents
contents_of f = record { key = f.key; words = words_of f.pads; frames = frames_of f.frames }

-- ---- stages of the reading

-- The first `size` bytes are a field, and `rest`, from `place` on, is what follows them.
pub record Taken (size at : ℕ) (bytes field : List ℕ) (place : ℕ) (rest : List ℕ) : Type 0 where
  pub there : size ≤ length bytes
  pub value : field ≡ take size bytes
  pub place_is : place ≡ at + size
  pub rest_is : rest ≡ drop size bytes

-- Or there are fewer bytes than that, and the fault is told at `at`.
pub record Cut (size at : ℕ) (bytes : List ℕ) (f : FileFault) : Type 0 where
  pub ends : length bytes < size
  pub told : f ≡ record { flaw = CutShort; place = at }

-- Of a file that goes on from `at` with these bytes, first a part and then whatever stands behind it: y was read of the part, and
-- `rest`, from `place` on, is left.
pub record Past {Y : Type 0} (part : Part Y Contents) (at : ℕ) (bytes : List ℕ) (y : Y) (place : ℕ) (rest : List ℕ) : Type 0 where
  pub goes : (next : Y → Layout Contents) → part next at bytes ≡ next y place rest

-- Or the first fault of the file lies in the part.
abbrev pub Faulty : {Y : Type 0} → Part Y Contents → (at : ℕ) (bytes : List ℕ) → FileFault → Type 0
Faulty {Y = Y} part at bytes f = (next : Y → Layout Contents) → part next at bytes ≡ Bad f.flaw f.place

-- ---- the same of what is left of a file, as the stages pass it on

-- what was left, and what is left behind a field
abbrev pub Takes : (size : ℕ) → Left → (field : List ℕ) → Left → Type 0
Takes size l field r = Taken size l.at l.bytes.now field r.at r.bytes.now

abbrev pub RunsOut : (size : ℕ) → Left → FileFault → Type 0
RunsOut size l f = Cut size l.at l.bytes.now f

-- behind a part
abbrev pub Passes : {Y : Type 0} → Part Y Contents → Left → (y : Y) → Left → Type 0
Passes part l y r = Past part l.at l.bytes.now y r.at r.bytes.now

abbrev pub Fails : {Y : Type 0} → Part Y Contents → Left → FileFault → Type 0
Fails part l f = Faulty part l.at l.bytes.now f

-- behind a section of `count` items, of which the first stands at the front of `here`. The first of them, as many as there was room
-- for, are the first of `kept`.
pub record ReadSection {Y T : Type 0} (part : Part Y Contents) (sense : T → Y) (most : ℕ) (l : Left) (count : ℕ) (here : List ℕ) (room : ℕ) (kept : List T) (r : Left) : Type 0 where
  pub items : List T
  pub many : length items ≡ count
  pub few : count ≤ most
  pub place : ℕ
  pub past : Past (repeated part count) place here (map sense items) r.at r.bytes.now
  pub passes : Passes (counted most part) l (map sense items) r
  pub held : take count kept ≡ take room items

-- How many bytes of a key record lie ahead of the first field that is cut, if n bytes are there: the place of the last field that
-- begins among them.
abbrev pub field_places : List ℕ
field_places = 22 ∷ 18 ∷ 10 ∷ 2 ∷ 1 ∷ []

abbrev pub whole_fields : ℕ → ℕ
whole_fields n = unwrap_or (find (λ place. nat_le place n) field_places) 0
