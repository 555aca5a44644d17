-- The line file: one key, a pad book and frames, each section behind its count. Numbers have the highest byte first.
use Rattle.std.specs.Prelude.{ℕ, ◌+◌, true, false, cond, List, [], ◌∷◌, Ok, Err, Result, ◌==◌, nat_le}
use Rattle.std.specs.Int.Digits.{number_from_digits as number}
use Rattle.linefile.specs.declared.faults.Flaw.{Flaw}
use Rattle.linefile.specs.declared.faults.Flaw.TheVariants.{CutShort, OutOfLimits, Unknown, Trailing}
use Rattle.linefile.specs.declared.faults.FileFault.{FileFault}
use Rattle.linefile.specs.declared.key.KeyFamily.{KeyFamily}
use Rattle.linefile.specs.declared.key.KeyFamily.TheVariants.{Crc, Toeplitz, MacC}
use Rattle.linefile.specs.declared.key.Kind.{Kind}
use Rattle.linefile.specs.declared.key.KeyRecord.{KeyRecord}
use Rattle.linefile.specs.Layout.{Read, Layout, Part, field, ends, repeated}

-- ---- faults

-- the number of each
abbrev pub flaw_number : Flaw → ℕ
flaw_number CutShort = 51
flaw_number OutOfLimits = 52
flaw_number Unknown = 53
flaw_number Trailing = 54

-- What the refusal of a file tells: the number of its first fault, and the place of the first byte of the field that has it.
pub record FileRefusal : Type 0 where
  pub number : ℕ
  pub place : ℕ

abbrev pub file_refusal : FileFault → FileRefusal
file_refusal f = record { number = flaw_number f.flaw; place = f.place }

-- ---- limits, each named here and nowhere else

-- how many keys a file has
abbrev pub key_count : ℕ
key_count = 1

-- the most pad words
abbrev pub most_pads : ℕ
most_pads = 1024

-- the most frames
abbrev pub most_frames : ℕ
most_frames = 200

-- ---- kinds of keys

-- the number of a family, and what is added to it for the parity layer over the family
abbrev pub family_number : KeyFamily → ℕ
family_number Crc = 1
family_number Toeplitz = 2
family_number MacC = 3

abbrev pub kind_number : Kind → ℕ
kind_number k = cond k.parity 16 0 + family_number k.family

-- all kinds there are
abbrev pub kinds : List Kind
kinds =
    record { family = Crc; parity = false }
    ∷ record { family = Toeplitz; parity = false }
    ∷ record { family = MacC; parity = false }
    ∷ record { family = Crc; parity = true }
    ∷ record { family = Toeplitz; parity = true }
    ∷ record { family = MacC; parity = true }
    ∷ []

-- the one among some kinds that has a number
abbrev pub among_kinds : List Kind → ℕ → Result Kind Flaw
among_kinds [] n = Err Unknown
among_kinds (k ∷ ks) n = cond (n == kind_number k) (Ok k) (among_kinds ks n)

-- ---- what a number of a field may be

-- anything
abbrev pub any : ℕ → Result ℕ Flaw
any n = Ok n

-- one number alone, as a count
abbrev pub just : (only : ℕ) → ℕ → Result ℕ Flaw
just only n = cond (n == only) (Ok n) (Err OutOfLimits)

-- a count up to a limit
abbrev pub up_to : (most : ℕ) → ℕ → Result ℕ Flaw
up_to most n = cond (nat_le n most) (Ok n) (Err OutOfLimits)

-- a kind of key
abbrev pub a_kind : ℕ → Result Kind Flaw
a_kind n = among_kinds kinds n

-- an allowance
abbrev pub an_allowance : ℕ → Result ℕ Flaw
an_allowance n = cond (nat_le n 1) (Ok n) (Err Unknown)

-- a field whose bytes are one number
unfoldable pub number_field : {V X : Type 0} (size : ℕ) (value : ℕ → Result V Flaw) (next : V → Layout X) → Layout X
number_field size value next = field size (λ bytes. value (number 256 bytes)) next

-- a field of bytes that are taken as they are
unfoldable pub bytes_field : {X : Type 0} (size : ℕ) (next : List ℕ → Layout X) → Layout X
bytes_field size next = field size (λ bytes. Ok bytes) next

-- ---- the parts of a file

-- a frame as it was sent, for a slot
pub record SentFrame : Type 0 where
  pub slot : ℕ
  pub bytes : List ℕ

-- what a file has: a key with its door, the words of a pad book, and frames in the order in which they came
pub record Contents : Type 0 where
  pub key : KeyRecord
  pub words : List ℕ
  pub frames : List SentFrame

-- a key record is 23 bytes: kind, degree, coefficients, state, door number and allowance
unfoldable pub key_record : {X : Type 0} → Part KeyRecord X
key_record next =
    number_field 1 a_kind (λ kind.
    number_field 1 any (λ degree.
    number_field 8 any (λ coefficients.
    number_field 8 any (λ state.
    number_field 4 any (λ door.
    number_field 1 an_allowance (λ allowance.
    next (record { kind = kind; degree = degree; coefficients = coefficients; state = state; door = door; allowance = allowance })))))))

-- a pad word
unfoldable pub pad_word : {X : Type 0} → Part ℕ X
pad_word next = number_field 8 any next

-- a frame: slot, length, bytes
unfoldable pub sent_frame : {X : Type 0} → Part SentFrame X
sent_frame next =
    number_field 4 any (λ slot.
    number_field 1 any (λ size.
    bytes_field size (λ bytes.
    next (record { slot = slot; bytes = bytes }))))

-- a section of a count, up to a limit, and so many of a part
abbrev pub counted : {Y X : Type 0} (most : ℕ) → Part Y X → Part (List Y) X
counted most each next = number_field 2 (up_to most) (λ count. repeated each count next)

-- the three sections
unfoldable pub key_section : {X : Type 0} → Part KeyRecord X
key_section next = number_field 1 (just key_count) (λ _. key_record next)

unfoldable pub pads_section : {X : Type 0} → Part (List ℕ) X
pads_section next = counted most_pads pad_word next

unfoldable pub frames_section : {X : Type 0} → Part (List SentFrame) X
frames_section next = counted most_frames sent_frame next

-- the whole file
unfoldable pub line_file : Layout Contents
line_file =
    key_section (λ key.
    pads_section (λ words.
    frames_section (λ frames.
    ends (record { key = key; words = words; frames = frames }))))

-- what the bytes of a file are read as
unfoldable pub decode : List ℕ → Read Contents
decode bytes = line_file 0 bytes
