-- Whole runs: what stays true along one, and the promise.
use Rattle.std.proofs.Common.{◌≡◌, ℕ, ◌+◌, ◌*◌, ◌≤◌, List, [], ◌∷◌, ◌++◌, map, length, None, Option, sym, refl, ap, ◌∙◌, subst, inl, inr, arith}
use Rattle.std.specs.List.{ContainsAt as Has, AllByRecursion}
use Rattle.std.proofs.lemmas.List.{map_push}
use Rattle.std.proofs.ByRecursion.{all-has, All-push, All-weaker, has_append_left}
use Rattle.std.proofs.lemmas.Bool.{eqb-true, ltb-true, leb-true, cases_lt}
use Rattle.bits.specs.Bits.{Bytes, weight}
use Rattle.family.specs.Meaning.{Meaning}
use Rattle.frames.specs.Limits.{needed_reach}
use Rattle.frames.specs.Frames.{payload_size}
use Rattle.account.specs.Questions.{Refusal, first_refusal}
use Rattle.account.specs.Calls.{Pads, word, Side, AtReader, AtDoor, Call, Open, Opened}
use Rattle.account.specs.Keys.{key_questions, door_questions}
use Rattle.account.specs.Opening.{place_under}
use Rattle.account.specs.Account.{EndKeys, SealedFrame, HandedOver, Account, governs, last_slot, add_sealed, handed_entry, add_handed, opens, with_end, outcome, account_after, Creations, created}
use Rattle.account.specs.Promise.{Accepted, Proper, Copies, changed, StrictlyRising, sealed_payloads, OpensCopies, RefusesCopies, OnlyCopies, EveryRun}
use Rattle.account.proofs.Asking.{passed}
use Rattle.account.proofs.Steps.{Sound, open_asked, step_by, step-sound}
use Rattle.account.proofs.Offers.{key_used, fits_from, copy_opens, copy_refused}
use Rattle.account.proofs.Thinning.{has_map, slots, thinned}

all_front : {X : Type 0} (P : X → Type 0) (xs ys : List X) → AllByRecursion P (xs ++ ys) → AllByRecursion P xs
all_front P [] ys h = tt
all_front P (x ∷ xs) ys h = (h.0, all_front P xs ys h.1)

all_back : {X : Type 0} (P : X → Type 0) (xs ys : List X) → AllByRecursion P (xs ++ ys) → AllByRecursion P ys
all_back P [] ys h = h
all_back P (x ∷ xs) ys h = all_back P xs ys h.1

-- ---- along a run

pub account_append : (a : Account) (xs ys : List Call) → account_after a (xs ++ ys) ≡ account_after (account_after a xs) ys
account_append a [] ys = refl
account_append a (x ∷ xs) ys = account_append (outcome a x).after xs ys

pub run_sound : (a : Account) (cs : List Call) → Sound a → AllByRecursion Proper cs → Sound (account_after a cs)
run_sound a [] v p = v
run_sound a (c ∷ cs) v p = run_sound (outcome a c).after cs (step-sound a c v p.0) p.1

-- two accepted creations
pub created-sound : (c : Creations) → Accepted c → Sound (created c)
created-sound c h =
    let y = passed (key_questions c.reader_key) h.reader_passes in
    let z = passed (door_questions c.door_key c.allowance) h.door_passes in
    record {
      reader_end =
          record {
            now = record { lawful = h.reader_law; reaches = eqb-true c.reader_key.reach needed_reach y.1.0; among = (0, omega arith, λ d. refl) };
            later = tt;
          };
      door_end =
          record {
            now = record { lawful = h.door_law; reaches = eqb-true c.door_key.reach needed_reach z.1.0; among = (1, omega arith, λ d. refl) };
            later = tt;
          };
      genuine = tt;
      sealed_rise = tt;
      handed_rise = tt;
      allowed = leb-true c.allowance 1 z.1.1.0;
    }

-- the allowance stays
with_allowance : (a : Account) (side : Side) (e : EndKeys) (used : List Meaning) → (with_end a side e used).allowance ≡ a.allowance
with_allowance a AtReader e used = refl
with_allowance a AtDoor e used = refl

step-allowance : (a : Account) (c : Call) → (outcome a c).after.allowance ≡ a.allowance
step-allowance a c =
    step_by (λ (b : Account). b.allowance ≡ a.allowance) a c refl
    (λ slot payload buffer pads is accepted. refl)
    (λ slot frame buffer pads is accepted. refl)
    (λ side e more. with_allowance a side e (a.used ++ more))

run_allowance : (a : Account) (cs : List Call) → (account_after a cs).allowance ≡ a.allowance
run_allowance a [] = refl
run_allowance a (c ∷ cs) = run_allowance (outcome a c).after cs ∙ step-allowance a c

-- what holds of all keys used by a run holds of those used so far
module _ (P : Meaning → Type 0) where
  with_used : (a : Account) (side : Side) (e : EndKeys) (more : List Meaning) → AllByRecursion P (with_end a side e (a.used ++ more)).used → AllByRecursion P a.used
  with_used a AtReader e more h = all_front P a.used more h
  with_used a AtDoor e more h = all_front P a.used more h

  step-used : (a : Account) (c : Call) → AllByRecursion P (outcome a c).after.used → AllByRecursion P a.used
  step-used a c =
      step_by (λ (b : Account). AllByRecursion P b.used → AllByRecursion P a.used) a c
      (λ h. h)
      (λ slot payload buffer pads is accepted h. h)
      (λ slot frame buffer pads is accepted h. h)
      (with_used a)

  run_used : (a : Account) (cs : List Call) → AllByRecursion P (account_after a cs).used → AllByRecursion P a.used
  run_used a [] h = h
  run_used a (c ∷ cs) h = step-used a c (run_used (outcome a c).after cs h)

-- ---- at an open of the run

abbrev Far : (c d : ℕ) → Meaning → Type 0
Far c d k = 2 * c + d + 1 ≤ k.distance

module _ (start : Account) (calls : List Call) (d : ℕ) (v : Sound start) (p : AllByRecursion Proper calls) (far : AllByRecursion (Far start.allowance d) (account_after start calls).used) where
  module _ (before after : List Call) (slot : ℕ) (frame buffer : List ℕ) (pads : Pads) (split : calls ≡ before ++ Open slot frame buffer pads ∷ after) where
    here : Account
    here = account_after start before

    proper : AllByRecursion Proper (before ++ Open slot frame buffer pads ∷ after)
    proper = subst (AllByRecursion Proper) split p

    sound_here : Sound here
    unfolding here
    sound_here = run_sound start before v (all_front Proper before (Open slot frame buffer pads ∷ after) proper)

    bytes_here : Bytes frame
    bytes_here = (all_back Proper before (Open slot frame buffer pads ∷ after) proper).0

    allowance_here : here.allowance ≡ start.allowance
    unfolding here
    allowance_here = run_allowance start before

    far_here : (e : SealedFrame) → Copies here slot frame pads e → 2 * here.allowance + d + 1 ≤ e.key.distance
    unfolding here
    far_here e cp =
        let u : AllByRecursion (Far start.allowance d) here.used =
        run_used (Far start.allowance d) here (Open slot frame buffer pads ∷ after)
        (subst (λ (x : Account). AllByRecursion (Far start.allowance d) x.used)
        (ap (account_after start) split ∙ account_append start before (Open slot frame buffer pads ∷ after))
        far) in
        let h : Far start.allowance d e.key =
        all-has (Far start.allowance d) here.used e.key u (key_used here slot frame buffer pads e sound_here cp bytes_here) in
        omega (arith, allowance_here)

  opens-copies : OpensCopies start calls
  opens-copies before after slot frame buffer pads e split cp few later fits =
      unfold here in
      copy_opens (here before after slot frame buffer pads split) slot frame buffer pads e
      (sound_here before after slot frame buffer pads split)
      cp
      (bytes_here before after slot frame buffer pads split)
      d
      (far_here before after slot frame buffer pads split e cp)
      (omega (arith, allowance_here before after slot frame buffer pads split))
      later
      fits

  refuses_copies : RefusesCopies start calls d
  refuses_copies before after slot frame buffer pads e split cp many few =
      unfold here in
      copy_refused (here before after slot frame buffer pads split) slot frame buffer pads e
      (sound_here before after slot frame buffer pads split)
      cp
      (bytes_here before after slot frame buffer pads split)
      d
      (far_here before after slot frame buffer pads split e cp)
      (omega (arith, allowance_here before after slot frame buffer pads split))
      (omega (arith, allowance_here before after slot frame buffer pads split))

-- ---- all that was handed over had been sealed

abbrev AllSealed : Account → Type 0
AllSealed a = AllByRecursion (Has (sealed_payloads a)) a.handed

abbrev shown : SealedFrame → HandedOver
shown e = record { slot = e.slot; payload = e.payload }

add_all_sealed : (a : Account) (e : SealedFrame) → AllSealed a → AllSealed (add_sealed a e)
add_all_sealed a e h =
    subst (λ (l : List HandedOver). AllByRecursion (Has l) a.handed) (sym (map_push shown a.sealed e))
    (All-weaker (Has (sealed_payloads a)) (Has (sealed_payloads a ++ shown e ∷ [])) (λ x. has_append_left (sealed_payloads a) (shown e ∷ []) x)
    a.handed
    h)

with_all_sealed : (a : Account) (side : Side) (e : EndKeys) (used : List Meaning) → AllSealed a → AllSealed (with_end a side e used)
with_all_sealed a AtReader e used h = h
with_all_sealed a AtDoor e used h = h

module _ (d : ℕ) where
  -- an open that is accepted, and only of a copy with few changed bits, hands over what was sealed
  open_all_sealed : (a : Account) (slot : ℕ) (frame buffer : List ℕ) (pads : Pads) → Sound a → Bytes frame → AllByRecursion (Far a.allowance d) a.used
      → ((size : ℕ) (place : Option ℕ) → (outcome a (Open slot frame buffer pads)).answer ≡ Opened size place
      → (e : SealedFrame) × Copies a slot frame pads e × (weight (changed e frame) ≤ a.allowance + d))
      → AllSealed a → first_refusal (open_asked a slot frame buffer pads) ≡ None
      → AllSealed (add_handed a (handed_entry a slot frame (word (pads slot))))
  open_all_sealed a slot frame buffer pads v hb far only h accepted =
      let new = handed_entry a slot frame (word (pads slot)) in
      let place = place_under (governs a.door slot) (word (pads slot)) a.door.number slot frame in
      let answered : (outcome a (Open slot frame buffer pads)).answer ≡ Opened (length new.payload) place =
      ap (λ (o : Option Refusal). (opens o a new place buffer).answer) accepted in
      let y = passed (open_asked a slot frame buffer pads) accepted in
      let (e, cp, few) = only (length new.payload) place answered in
      let fe : Far a.allowance d e.key = all-has (Far a.allowance d) a.used e.key far (key_used a slot frame buffer pads e v cp hb) in
      elim (cases_lt a.allowance (weight (changed e frame))) [
        | inl many ↦
            let (r, k) = copy_refused a slot frame buffer pads e v cp hb d fe many few in absurd (cc)
        | inr small ↦
            let ho =
            copy_opens a slot frame buffer pads e v cp hb d fe small (ltb-true (last_slot a AtDoor) slot y.0)
            (fits_from a slot frame buffer pads e v cp hb
            (leb-true (payload_size (governs a.door slot).width frame) (length buffer) y.1.1.1.0)) in
            let x : HandedOver = record { slot = slot; payload = e.payload } in
            let m : a.handed ++ x ∷ [] ≡ a.handed ++ new ∷ [] =
            sym ho.added ∙ ap (λ (o : Option Refusal). (opens o a new place buffer).after.handed) accepted in
            let hx : Has (sealed_payloads a) x =
            subst (λ (k : ℕ). Has (sealed_payloads a) (record { slot = k; payload = e.payload })) cp.same_slot
            (has_map shown a.sealed e cp.was_sealed) in
            subst (AllByRecursion (Has (sealed_payloads a))) m (All-push (Has (sealed_payloads a)) a.handed x h hx)
      ]

  run_all_sealed : (c : ℕ) (a : Account) (cs : List Call) → a.allowance ≡ c → Sound a → AllByRecursion Proper cs → AllByRecursion (Far c d) (account_after a cs).used
      → OnlyCopies a cs (c + d) → AllSealed a → AllSealed (account_after a cs)
  run_all_sealed c a [] same v p far only h = h
  run_all_sealed c a (x ∷ cs) same v p far only h =
      run_all_sealed c (outcome a x).after cs (step-allowance a x ∙ same) (step-sound a x v p.0) p.1 far
      (λ before after slot frame buffer pads size place split. only (x ∷ before) after slot frame buffer pads size place (ap (λ (r : List Call). x ∷ r) split))
      (step_by AllSealed a x h
      (λ slot payload buffer pads is accepted. add_all_sealed a _ h)
      (λ slot frame buffer pads is accepted.
      open_all_sealed a slot frame buffer pads v (subst Proper is p.0)
      (subst (λ (k : ℕ). AllByRecursion (Far k d) a.used) (sym same) (run_used (Far c d) a (x ∷ cs) far))
      (λ size place answered.
      subst (λ (k : ℕ). (e : SealedFrame) × Copies a slot frame pads e × (weight (changed e frame) ≤ k + d)) (sym same)
      (only [] cs slot frame buffer pads size place (ap (λ (y : Call). y ∷ cs) is) answered))
      h
      accepted)
      (λ side e more. with_all_sealed a side e (a.used ++ more) h))

shown-slots : (xs : List SealedFrame) → slots (map shown xs) ≡ map (λ (e : SealedFrame). e.slot) xs
shown-slots [] = refl
shown-slots (x ∷ xs) = ap (λ (r : List ℕ). x.slot ∷ r) (shown-slots xs)

-- ---- the promise

pub every_run : EveryRun
every_run c calls d h p far =
    let v = created-sound c h in
    let end = account_after (created c) calls in
    let w = run_sound (created c) calls v p in
    record {
      opens = opens-copies (created c) calls d v p far;
      refuses = refuses_copies (created c) calls d v p far;
      once = w.handed_rise;
      in_order = λ only.
          thinned (sealed_payloads end) end.handed 0 0 w.handed_rise
          (subst (StrictlyRising 0) (sym (shown-slots end.sealed)) w.sealed_rise)
          (run_all_sealed d c.allowance (created c) calls refl v p far only tt);
    }
