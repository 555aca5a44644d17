-- What changed bits do: a frame was sealed, and another of its length arrives for the same slot at the same door.
use Rattle.std.specs.Prelude.{◌≡◌, ℕ, ◌+◌, ◌^◌, ◌<◌, ◌≤◌, Bool, true, false, ◌≢◌, List, ◌++◌, length, take, Some, Option, slice_index_or}
use Rattle.std.specs.List.{AllByRecursion}
use Rattle.bits.specs.Bits.{Bytes, bits_of, weight}
use Rattle.bits.specs.Changes.{changes}
use Rattle.bits.specs.Columns.{picked, units}
use Rattle.frames.specs.Frames.{text_size, tag_size, pad_of, frame_of, payload_of, places, syndrome}
use Rattle.frames.specs.Findings.{Finding, Clean, Nowhere, finding, mended, told_place, is_somewhere, outside_bound}
use Rattle.pads.specs.Pad.{pad as word_pad}

-- The law of columns with the unit columns of width n, at distance D: no choice of 1 to D - 1 of them has ⊕ zero.
abbrev pub Distant : (n : ℕ) (cs : List ℕ) (D : ℕ) → Type 0
Distant n cs D =
    (choice : List Bool) → length choice ≡ length cs + n → 1 ≤ weight choice → weight choice < D
    → picked choice (cs ++ units n) ≢ 0

-- the payload and tag bits in which two frames differ, each at its place
abbrev pub changed_places : (n : ℕ) (sent arrived : List ℕ) → List Bool
changed_places n sent arrived = changes (places n sent) (places n arrived)

-- the place that is told is the changed place, and there is no other
abbrev pub Names : (told : Option ℕ) (changed : List Bool) → Type 0
Names told changed = (q : ℕ) → (told ≡ Some q → slice_index_or changed q false ≡ true) × (slice_index_or changed q false ≡ true → told ≡ Some q)

-- a finding that gives back the payload, and tells the changed places
pub record Restores (f : Finding) (payload arrived : List ℕ) (changed : List Bool) : Type 0 where
  pub somewhere : is_somewhere f ≡ true
  pub outside : outside_bound f ≡ true
  pub gives_back : mended f arrived ≡ payload
  pub names : Names (told_place f (length payload)) changed

-- What a frame that arrives shows of a payload that was sealed, by the number of changed bits: none give syndrome zero and the
-- payload; fewer than D are seen; one is mended, its place told; 2 to D - 2 are neither a column nor a unit column.
pub record Shows (n D : ℕ) (payload arrived : List ℕ) (changed : List Bool) (f : Finding) : Type 0 where
  pub unchanged : weight changed ≡ 0 → (f ≡ Clean) × Restores f payload (payload_of n arrived) changed
  pub seen : 1 ≤ weight changed → weight changed < D → f ≢ Clean
  pub one : weight changed ≡ 1 → 2 < D → Restores f payload (payload_of n arrived) changed
  pub many : 2 ≤ weight changed → weight changed + 1 < D → f ≡ Nowhere

-- and so it is of every frame
abbrev pub FramesShow : Type 0
FramesShow =
    (n D pad door slot : ℕ) (cs payload arrived : List ℕ)
    → length cs ≡ text_size (length payload) → AllByRecursion (λ c. c < 2 ^ n) cs → Distant n cs D → pad < 2 ^ n
    → Bytes payload → Bytes arrived → length arrived ≡ length payload + tag_size n
    → let sent = frame_of n cs pad door slot payload in
    Shows n D payload arrived (changed_places n sent arrived) (finding n cs (syndrome n cs pad door slot arrived))

-- a word of 64 bits gives its pad
abbrev pub PadsArePads : Type 0
PadsArePads = (n word : ℕ) → n ≤ 64 → word < 2 ^ 64 → pad_of n word ≡ word_pad n word

-- and its bits are the first n of the word
abbrev pub PadsAreFirstBits : Type 0
PadsAreFirstBits = (n word : ℕ) → n ≤ 64 → bits_of n (word_pad n word) ≡ take n (bits_of 64 word)
