-- What the questions of opening come to, and the payload that is written.
use Rattle.std.proofs.Common.{◌≡◌, ℕ, ◌+◌, ◌-◌, ◌*◌, ◌/◌, ◌≤◌, List, length, Some, None, Ok, Option, Result, sym, refl, ap, ◌∙◌, subst, ap₂, arith, length-take}
use lib.Bits.{bit_xor, xor_assoc, xor_comm}
use Rattle.std.proofs.lemmas.Bool.Decides.{nat_tests}
use Rattle.std.proofs.lemmas.List.{set_past}
use Rattle.bits.specs.Columns.{picked, units}
use Rattle.bits.proofs.BytesOfNumbers.{length-flip}
use Rattle.family.specs.Meaning.{Meaning}
use Rattle.frames.specs.Findings.{Finding, Clean, Column, UnitColumn, Nowhere, finding, mended, told_place}
use Rattle.frames.specs.Frames.{text_size, pad_of, text_of, tag_of, payload_size, payload_of, tag_bits, syndrome}
use Rattle.account.specs.Questions.{Refusal, first_refusal}
use Rattle.account.specs.Calls.{Pads, word}
use Rattle.account.specs.Opening.{finding_under, payload_under, place_under, read_questions, judge_questions}
use Rattle.framing.specs.Asked.{frame_questions, put_in_front, turned_over}
use Rattle.framing.proofs.PadAnswers.{a_word}
use Rattle.pads.specs.Source.{answer}
use Rattle.pads.specs.declared.source.PadFault.{PadFault}

-- the tag that arrived, ⊕ the tag that is expected, is the syndrome
xor_turn : (t d p : ℕ) → bit_xor t (bit_xor d p) ≡ bit_xor (bit_xor t p) d
xor_turn t d p = ap (bit_xor t) (xor_comm d p) ∙ sym (xor_assoc t p d)

payload-fits : (n : ℕ) (frame : List ℕ) → length (payload_of n frame) ≡ payload_size n frame
payload-fits n frame = length-take (payload_size n frame) frame ∙ omega arith

-- what is known once a frame is read, its pad word is there and its tag was made anew
module _ (k : Meaning) (number c slot : ℕ) (frame : List ℕ) (room : ℕ) (pads : Pads)
    (width : ℕ) (payload : List ℕ) (tag w again expected : ℕ) (ew : width ≡ k.width)
    (read : (first_refusal (read_questions width frame room) ≡ None)
    × ((payload ≡ payload_of width frame) × (tag ≡ picked (tag_bits width frame) (units width)) × (length payload ≤ room)))
    (answered : ◌≡◌ {A = Result ℕ PadFault} (Ok w) (answer (pads slot) slot))
    (made : (text_size (length payload) ≤ k.reach) × (again ≡ k.width)
    × (expected ≡ tag_of (k.columns (text_size (length payload))) (pad_of k.width w) number slot payload)) where
  abbrev found : Finding
  found = finding_under k (word (pads slot)) number slot frame

  abbrev size : ℕ
  size = payload_size k.width frame

  covered : pads slot ≡ Some w
  covered = a_word (pads slot) slot w answered

  pub payload_is : payload ≡ payload_of k.width frame
  payload_is = read.1.0 ∙ ap (λ (n : ℕ). payload_of n frame) ew

  long : length payload ≡ size
  long = ap length payload_is ∙ payload-fits k.width frame

  near_size : text_size size ≤ k.reach
  near_size = subst (λ (n : ℕ). text_size n ≤ k.reach) long made.0

  syndrome-is : bit_xor tag expected ≡ syndrome k.width (k.columns (text_size size)) (pad_of k.width (word (pads slot))) number slot frame
  syndrome-is =
      let sent = payload_of k.width frame in
      ap₂ bit_xor
      (read.1.1 ∙ ap (λ (n : ℕ). picked (tag_bits n frame) (units n)) ew)
      (made.2
      ∙ ap₂ (λ (n : ℕ) (p : List ℕ). tag_of (k.columns (text_size n)) (pad_of k.width w) number slot p) long payload_is
      ∙ ap (λ (o : Option ℕ). tag_of (k.columns (text_size size)) (pad_of k.width (word o)) number slot sent) (sym covered))
      ∙ xor_turn (picked (tag_bits k.width frame) (units k.width)) (picked (text_of number slot sent) (k.columns (text_size size)))
      (pad_of k.width (word (pads slot)))

  finding_is : finding k.width (k.columns (text_size (length payload))) (bit_xor tag expected) ≡ found
  unfolding finding_under
  finding_is = ap₂ (λ (n s : ℕ). finding k.width (k.columns (text_size n)) s) long syndrome-is

  pub judged_so : (v : Option Refusal)
      → first_refusal (judge_questions c (finding k.width (k.columns (text_size (length payload))) (bit_xor tag expected))) ≡ v
      → first_refusal (frame_questions k number c slot frame room pads) ≡ v
  unfolding frame_questions
  judged_so v j =
      let same : first_refusal (judge_questions c found) ≡ v = ap (λ (f : Finding). first_refusal (judge_questions c f)) (sym finding_is) ∙ j in
      grind (arith, nat_tests, ew, read.0, covered, near_size, same)

  pub told_so : (place : Option ℕ)
      → place ≡ told_place (finding k.width (k.columns (text_size (length payload))) (bit_xor tag expected)) (length payload)
      → place ≡ place_under k (word (pads slot)) number slot frame
  unfolding place_under
  told_so place e = e ∙ ap₂ told_place finding_is long

-- ---- what is written

length-mended : (f : Finding) (payload : List ℕ) → length (mended f payload) ≡ length payload
length-mended Clean payload = refl
length-mended (Column p) payload = length-flip payload (p - 64)
length-mended (UnitColumn k) payload = refl
length-mended Nowhere payload = refl

-- turning over the place that is told is mending
mended-is : (f : Finding) (payload : List ℕ) (L : ℕ) → length payload ≡ L → turned_over payload (told_place f L) ≡ mended f payload
mended-is Clean payload L e = refl
mended-is (Column p) payload L e = refl
mended-is (UnitColumn k) payload L e = set_past payload ((8 * L + k) / 8) _ (omega arith)
mended-is Nowhere payload L e = refl

module _ (k : Meaning) (w number slot : ℕ) (frame payload : List ℕ) (ep : payload ≡ payload_of k.width frame) where
  pub payload_length : length payload ≡ length (payload_under k w number slot frame)
  unfolding payload_under
  payload_length =
      ap length ep ∙ sym (length-mended (finding_under k w number slot frame) (payload_of k.width frame))

  pub payload_written : (out out' : List ℕ) (place : Option ℕ) → place ≡ place_under k w number slot frame
      → out' ≡ put_in_front (turned_over payload place) out → out' ≡ put_in_front (payload_under k w number slot frame) out
  unfolding payload_under place_under
  payload_written out out' place e wrote =
      let n = k.width in
      wrote
      ∙ ap₂ (λ (p : List ℕ) (o : Option ℕ). put_in_front (turned_over p o) out) ep e
      ∙ ap (λ (p : List ℕ). put_in_front p out) (mended-is (finding_under k w number slot frame) (payload_of n frame) (payload_size n frame) (payload-fits n frame))
