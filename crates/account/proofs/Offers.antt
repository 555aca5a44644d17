-- What an open makes of a copy of a sealed frame.
use Rattle.std.proofs.Common.{◌≡◌, ℕ, ◌+◌, ◌*◌, ◌^◌, ◌<◌, ◌≤◌, true, false, ◌||◌, eqb, ◌≢◌, List, length, None, Option, sym, refl, ap, ◌∙◌, subst, ap₂, inl, inr, arith}
use Rattle.std.specs.List.{ContainsAt as Has, AllByRecursion}
use Rattle.std.proofs.ByRecursion.{all-has}
use Rattle.std.proofs.lemmas.Bool.{eq-eqb, or_left, or_right, or_from, ne_eqb, cases_lt}
use Rattle.bits.specs.Bits.{Bytes, weight}
use Rattle.frames.specs.Frames.{tag_size, text_size, pad_of, frame_of, payload_size, payload_of, spare_bits, syndrome}
use Rattle.frames.specs.Findings.{Finding, Clean, Column, UnitColumn, Nowhere, finding, mended, told_place, is_clean, is_somewhere, outside_bound}
use Rattle.frames.specs.Changed.{Distant, changed_places, Restores, Shows}
use Rattle.frames.proofs.Copying.{frames_show}
use Rattle.frames.proofs.Parts.{payload_size_is, length_frame, frame_spare}
use Rattle.account.specs.Questions.{Refusal, first_refusal}
use Rattle.account.specs.Calls.{Pads, word, AtDoor, Open}
use Rattle.account.specs.Opening.{open_questions, finding_under, payload_under, place_under}
use Rattle.account.specs.Account.{SealedFrame, Account, Step, governs, last_slot, opens, outcome}
use Rattle.account.specs.Promise.{Copies, changed, HandsOver, IsRefused}
use Rattle.std.proofs.lemmas.Bool.Decides.{nat_tests}
use Rattle.account.proofs.Asking.{SomeNo, refused-by}
use Rattle.account.proofs.Steps.{Genuine, Sound}

same_finding : {n n' : ℕ} {cs cs' : List ℕ} {p p' u u' s s' : ℕ} (frame : List ℕ) → n ≡ n' → cs ≡ cs' → p ≡ p' → u ≡ u' → s ≡ s'
    → finding n cs (syndrome n cs p u s frame) ≡ finding n' cs' (syndrome n' cs' p' u' s' frame)
same_finding frame e₁ e₂ e₃ e₄ e₅ = λ i. finding (e₁ i) (e₂ i) (syndrome (e₁ i) (e₂ i) (e₃ i) (e₄ i) (e₅ i) frame)

not_clean : (f : Finding) → f ≢ Clean → is_clean f ≡ false
not_clean Clean h = absurd (h refl)
not_clean (Column p) h = refl
not_clean (UnitColumn k) h = refl
not_clean Nowhere h = refl

-- the outcome of an open by a key of width n that finds f
abbrev open_by : (a : Account) (slot : ℕ) (frame buffer : List ℕ) (pads : Pads) (n : ℕ) (f : Finding) → Step
open_by a slot frame buffer pads n f =
    opens (first_refusal (open_questions (last_slot a AtDoor) slot n a.allowance frame buffer pads f))
    a
    (record { slot = slot; payload = mended f (payload_of n frame) })
    (told_place f (payload_size n frame))
    buffer

abbrev opened_with : (a : Account) (slot : ℕ) (buffer payload : List ℕ) (place : Option ℕ) → Step
opened_with a slot buffer payload place = opens None a (record { slot = slot; payload = payload }) place buffer

module _ (a : Account) (slot : ℕ) (frame buffer : List ℕ) (pads : Pads) (e : SealedFrame) (v : Sound a) (cp : Copies a slot frame pads e) (hb : Bytes frame) where
  n : ℕ
  n = e.key.width

  L : ℕ
  L = length e.payload

  cs : List ℕ
  cs = e.key.columns (text_size L)

  genuine : Genuine a.used e
  genuine = all-has (Genuine a.used) a.sealed e v.genuine cp.was_sealed

  pub key_used : Has a.used e.key
  key_used = genuine.good.among

  made : e.frame ≡ frame_of n cs e.pad e.number e.slot e.payload
  unfolding n cs L
  made = genuine.made

  size : length frame ≡ L + tag_size n
  unfolding n cs L
  size = sym cp.same_size ∙ ap length genuine.made ∙ length_frame n e.pad e.number e.slot cs e.payload

  in_reach : text_size L ≤ e.key.reach
  unfolding L
  in_reach = omega (arith, genuine.short, genuine.good.reaches)

  count : length cs ≡ text_size L
  unfolding cs
  count = genuine.good.lawful.count (text_size L) (omega arith) in_reach

  below : AllByRecursion (λ c. c < 2 ^ n) cs
  unfolding cs n
  below = genuine.good.lawful.below (text_size L) (omega arith) in_reach

  law : Distant n cs e.key.distance
  unfolding n cs
  law choice l = genuine.good.lawful.law (text_size L) (omega arith) in_reach choice (l ∙ ap (λ (x : ℕ). x + n) count)

  -- ---- the door finds what the key, pad and door number of the seal find

  found : Finding
  found = finding n cs (syndrome n cs e.pad e.number e.slot frame)

  width_is : (governs a.door slot).width ≡ n
  unfolding n
  width_is = sym cp.same_key.width

  size_is : payload_size n frame ≡ L
  size_is = payload_size_is n L frame size

  columns_are : (governs a.door slot).columns (text_size (payload_size (governs a.door slot).width frame)) ≡ cs
  unfolding cs
  columns_are =
      ap (λ (k : ℕ). (governs a.door slot).columns (text_size k)) (ap (λ (k : ℕ). payload_size k frame) width_is ∙ size_is)
      ∙ sym (cp.same_key.columns (text_size L) (omega arith) in_reach)

  finds : finding_under (governs a.door slot) (word (pads slot)) a.door.number slot frame ≡ found
  unfolding found finding_under
  finds =
      same_finding frame width_is columns_are
      (ap (λ (o : Option ℕ). pad_of (governs a.door slot).width (word o)) cp.covered ∙ sym cp.same_pad)
      (sym cp.same_number)
      (sym cp.same_slot)

  outcome-is : outcome a (Open slot frame buffer pads) ≡ open_by a slot frame buffer pads n found
  unfolding payload_under place_under
  outcome-is = ap₂ (open_by a slot frame buffer pads) width_is finds

  -- and that is what the number of changed bits shows
  shows : Shows n e.key.distance e.payload frame (changed e frame) found
  unfolding n L found
  shows =
      subst (λ (f : List ℕ). Shows n e.key.distance e.payload frame (changed_places n f frame) found) (sym made)
      (frames_show n e.key.distance e.pad e.number e.slot cs e.payload frame count below law genuine.pad_below genuine.bytes hb size)

  -- ---- a copy that is restored

  pub fits_from : payload_size (governs a.door slot).width frame ≤ length buffer → length e.payload ≤ length buffer
  unfolding L
  fits_from h = omega (arith, ap (λ (k : ℕ). payload_size k frame) width_is, size_is)

  spare-zero : weight (spare_bits n frame) ≡ 0
  unfolding n
  spare-zero =
      ap weight (sym cp.same_spare ∙ ap (spare_bits n) made) ∙ frame_spare n e.pad e.number e.slot cs e.payload

  all_yes : last_slot a AtDoor < slot → L ≤ length buffer → (is_clean found || eqb a.allowance 1) ≡ true
      → is_somewhere found ≡ true → outside_bound found ≡ true
      → first_refusal (open_questions (last_slot a AtDoor) slot n a.allowance frame buffer pads found) ≡ None
  unfolding L
  all_yes later fits seen somewhere outside =
      grind (arith, nat_tests, size, size_is, spare-zero, cp.covered, genuine.some_bytes, genuine.short)

  restored : last_slot a AtDoor < slot → length e.payload ≤ length buffer → (is_clean found || eqb a.allowance 1) ≡ true
      → Restores found e.payload (payload_of n frame) (changed e frame)
      → HandsOver a (outcome a (Open slot frame buffer pads)) slot e.payload buffer (changed e frame)
  unfolding L
  restored later fits seen r =
      let is : outcome a (Open slot frame buffer pads) ≡ opened_with a slot buffer e.payload (told_place found L) =
      outcome-is
      ∙ ap (λ (o : Option Refusal). opens o a (record { slot = slot; payload = mended found (payload_of n frame) }) (told_place found (payload_size n frame)) buffer)
      (all_yes later fits seen r.somewhere r.outside)
      ∙ ap₂ (λ (p : List ℕ) (k : ℕ). opened_with a slot buffer p (told_place found k)) r.gives_back size_is in
      record {
        place = told_place found L;
        answer = ap (λ (s : Step). s.answer) is;
        names = r.names;
        written = ap (λ (s : Step). s.buffer) is;
        added = ap (λ (s : Step). s.after.handed) is;
      }

  -- ---- a copy that is refused

  refused : SomeNo (open_questions (last_slot a AtDoor) slot n a.allowance frame buffer pads found)
      → IsRefused (outcome a (Open slot frame buffer pads)).answer
  refused nay =
      let (r, h) = refused-by (open_questions (last_slot a AtDoor) slot n a.allowance frame buffer pads found) nay in (
        r,
        ap (λ (s : Step). s.answer)
            (outcome-is
            ∙ ap (λ (o : Option Refusal). opens o a (record { slot = slot; payload = mended found (payload_of n frame) }) (told_place found (payload_size n frame)) buffer) h),
      )

  module _ (d : ℕ) (far : 2 * a.allowance + d + 1 ≤ e.key.distance) where
    pub copy_opens : weight (changed e frame) ≤ a.allowance → last_slot a AtDoor < slot → length e.payload ≤ length buffer
        → HandsOver a (outcome a (Open slot frame buffer pads)) slot e.payload buffer (changed e frame)
    copy_opens few later fits =
        elim (cases_lt 0 (weight (changed e frame))) [
          | inr nil ↦
              let r = shows.unchanged (omega arith) in
              restored later fits (or_left (is_clean found) (eqb a.allowance 1) (ap is_clean r.0)) r.1
          | inl some ↦
              restored later fits (or_right (is_clean found) (eqb a.allowance 1) (eq-eqb a.allowance 1 (omega (arith, v.allowed))))
              (shows.one (omega (arith, v.allowed)) (omega arith))
        ]

    pub copy_refused : a.allowance < weight (changed e frame) → weight (changed e frame) ≤ a.allowance + d
        → IsRefused (outcome a (Open slot frame buffer pads)).answer
    copy_refused many few =
        elim (cases_lt 0 a.allowance) [
          | inr nil ↦
              let c : is_clean found ≡ false = not_clean found (shows.seen (omega arith) (omega arith)) in
              refused (inr (inr (inr (inr (inr (inl (or_from (is_clean found) (eqb a.allowance 1) c (ne_eqb a.allowance 1 (omega arith)))))))))
          | inl one ↦
              let c : found ≡ Nowhere = shows.many (omega arith) (omega (arith, v.allowed)) in
              refused (inr (inr (inr (inr (inr (inr (inl (ap is_somewhere c))))))))
        ]
