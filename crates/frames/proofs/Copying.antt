-- A sealed frame, and a frame that arrives for the same slot at the same door: the syndrome is the ⊕ of the columns of the
-- changed places, and the law says which syndromes few changes can have.
use Rattle.std.proofs.Common.{◌≡◌, ℕ, ◌+◌, ◌-◌, ◌*◌, ◌/◌, ◌^◌, ◌<◌, ◌≤◌, Bool, true, false, ◌≢◌, List, ◌++◌, length, get_or, Some, None, sym, refl, ap, ◌∙◌, subst, ap₂, inl, inr, append_assoc, mod-eq_of_lt, arith, length-append}
use lib.Bits.{bit_xor, xor_zero_r, xor_self, xor_comm, xor_assoc, xor_lt}
use Rattle.std.specs.List.{AllByRecursion}
use Rattle.std.proofs.lemmas.List.{get_or_append_left, get_or-append_right}
use Rattle.std.proofs.ByRecursion.{All-take}
use Rattle.std.proofs.lemmas.Bool.{true≢false, cases_lt, le-leb}
use Rattle.bits.specs.Bits.{Bytes, bits, weight, toggle, flip}
use Rattle.bits.specs.Changes.{changes}
use Rattle.bits.specs.Columns.{picked, units}
use Rattle.bits.proofs.BytesOfNumbers.{bytes_from_bits, bytes_flip}
use Rattle.bits.proofs.Changes.{length-changes, changes-append, changes-self, same_from_changes, put_back}
use Rattle.bits.proofs.Linear.{picked-changes, picked-append, xor_from_same}
use Rattle.bits.proofs.Picks.{picked_none, picked-lt, picked-toggle, length-toggle}
use Rattle.bits.proofs.Runs.{length-bits, picked-units, bits-flip, toggle-left, toggle-right}
use Rattle.bits.proofs.UnitColumns.{length-units}
use Rattle.bits.proofs.Weights.{weight-append, weight-toggle, none_at, one_here, no_other, one_place}
use Rattle.bits.proofs.Xors.{same_from_xor}
use Rattle.frames.specs.Frames.{bound_word, text_of, tag_size, frame_of, payload_size, payload_of, tag_bits, places, syndrome}
use Rattle.frames.specs.Findings.{Finding, Clean, Column, UnitColumn, Nowhere, finding}
use Rattle.frames.specs.Changed.{Distant, changed_places, Names, Restores, FramesShow}
use Rattle.frames.proofs.Found.{Found, found}
use Rattle.frames.proofs.Parts.{length-bound_word, length_payload, length_places, length_frame, frame_payload, frame_tag}

-- ---- the syndrome over the whole: bound word, payload and tag

rotate : (t p d : ℕ) → bit_xor (bit_xor t p) d ≡ bit_xor (bit_xor d t) p
rotate t p d = xor_comm (bit_xor t p) d ∙ sym (xor_assoc d t p)

abbrev whole : (n door slot : ℕ) (frame : List ℕ) → List Bool
whole n door slot frame = bound_word door slot ++ places n frame

syndrome_of-whole : (n pad door slot L : ℕ) (cs frame : List ℕ) → length frame ≡ L + tag_size n → length cs ≡ 64 + 8 * L
    → syndrome n cs pad door slot frame ≡ bit_xor (picked (whole n door slot frame) (cs ++ units n)) pad
syndrome_of-whole n pad door slot L cs frame lf lc =
    let text = text_of door slot (payload_of n frame) in
    let lt : length text ≡ length cs =
    length-append (bound_word door slot) (bits (payload_of n frame))
    ∙ omega (arith, length-bound_word door slot, length-bits (payload_of n frame), length_payload n L frame lf) in
    rotate (picked (tag_bits n frame) (units n)) pad (picked text cs)
    ∙ ap (λ (x : ℕ). bit_xor x pad)
    (sym (picked-append text (tag_bits n frame) cs (units n) lt)
    ∙ ap (λ (r : List Bool). picked r (cs ++ units n)) (append_assoc (bound_word door slot) (bits (payload_of n frame)) (tag_bits n frame)))

module _ (n pad door slot : ℕ) (cs payload : List ℕ) (hh : pad < 2 ^ n) (hc : AllByRecursion (λ c. c < 2 ^ n) cs) where
  abbrev sent : List ℕ
  sent = frame_of n cs pad door slot payload

  -- a frame as it was sealed has syndrome zero
  sealed-zero : syndrome n cs pad door slot sent ≡ 0
  sealed-zero =
      let D = picked (text_of door slot payload) cs in
      let t = bit_xor D pad in
      let lt : t < 2 ^ n = xor_lt n D pad (picked-lt n (text_of door slot payload) cs hc) hh in
      ap₂ (λ (b : List Bool) (p : List ℕ). bit_xor (bit_xor (picked b (units n)) pad) (picked (text_of door slot p) cs))
      (frame_tag n pad door slot cs payload)
      (frame_payload n pad door slot cs payload)
      ∙ ap (λ (x : ℕ). bit_xor (bit_xor x pad) D) (picked-units n t ∙ mod-eq_of_lt lt)
      ∙ ap (λ (x : ℕ). bit_xor x D) (xor_assoc D pad pad ∙ ap (bit_xor D) (xor_self pad) ∙ xor_zero_r D)
      ∙ xor_self D

  module _ (lc : length cs ≡ 64 + 8 * length payload) (g : List ℕ) (lg : length g ≡ length payload + tag_size n) where
    -- the changed places, and the bound word's, of which none is changed
    abbrev Δ : List Bool
    Δ = changed_places n sent g

    abbrev Z : List Bool
    Z = changes (bound_word door slot) (bound_word door slot)

    length-Z : length Z ≡ 64
    length-Z = length-changes (bound_word door slot) (bound_word door slot) refl ∙ length-bound_word door slot

    sent-places : length (places n sent) ≡ 8 * length payload + n
    sent-places = length_places n (length payload) sent (length_frame n pad door slot cs payload)

    same_places : length (places n sent) ≡ length (places n g)
    same_places = sent-places ∙ sym (length_places n (length payload) g lg)

    length-Δ : length Δ ≡ 8 * length payload + n
    length-Δ = length-changes (places n sent) (places n g) same_places ∙ sent-places

    length-all : length (Z ++ Δ) ≡ length cs + n
    length-all = length-append Z Δ ∙ omega (arith, length-Z, length-Δ)

    weight-all : weight (Z ++ Δ) ≡ weight Δ
    weight-all = weight-append Z Δ ∙ omega (arith, changes-self (bound_word door slot))

    -- the syndrome is the ⊕ of the columns of the changed places
    syndrome-is : syndrome n cs pad door slot g ≡ picked (Z ++ Δ) (cs ++ units n)
    syndrome-is =
        let C = cs ++ units n in
        let p : picked (whole n door slot sent) C ≡ pad =
        same_from_xor (picked (whole n door slot sent) C) pad
        (sym (syndrome_of-whole n pad door slot (length payload) cs sent (length_frame n pad door slot cs payload) lc) ∙ sealed-zero) in
        syndrome_of-whole n pad door slot (length payload) cs g lg lc
        ∙ xor_comm (picked (whole n door slot g) C) pad
        ∙ ap (λ (x : ℕ). bit_xor x (picked (whole n door slot g) C)) (sym p)
        ∙ sym (picked-changes (whole n door slot sent) (whole n door slot g) C
        (length-append (bound_word door slot) (places n sent)
        ∙ ap (λ (k : ℕ). length (bound_word door slot) + k) same_places
        ∙ sym (length-append (bound_word door slot) (places n g))))
        ∙ ap (λ (r : List Bool). picked r C) (changes-append (bound_word door slot) (places n sent) (bound_word door slot) (places n g) refl)

    -- ---- the changed places, in the payload and in the tag

    payload-changes : List Bool
    payload-changes = changes (bits payload) (bits (payload_of n g))

    tag_changes : List Bool
    tag_changes = changes (tag_bits n sent) (tag_bits n g)

    same_payload_bits : length (bits payload) ≡ length (bits (payload_of n g))
    same_payload_bits =
        length-bits payload ∙ ap (λ (k : ℕ). 8 * k) (sym (length_payload n (length payload) g lg)) ∙ sym (length-bits (payload_of n g))

    Δ_parts : Δ ≡ payload-changes ++ tag_changes
    unfolding payload-changes tag_changes
    Δ_parts =
        ap (λ (p : List ℕ). changes (bits p ++ tag_bits n sent) (places n g)) (frame_payload n pad door slot cs payload)
        ∙ changes-append (bits payload) (tag_bits n sent) (bits (payload_of n g)) (tag_bits n g) same_payload_bits

    length-payload-changes : length payload-changes ≡ 8 * length payload
    unfolding payload-changes
    length-payload-changes = length-changes (bits payload) (bits (payload_of n g)) same_payload_bits ∙ length-bits payload

    weight-parts : weight Δ ≡ weight payload-changes + weight tag_changes
    weight-parts = ap weight Δ_parts ∙ weight-append payload-changes tag_changes

    -- ---- what is given back and named

    payload-unchanged : Bytes payload → Bytes g → weight payload-changes ≡ 0 → payload_of n g ≡ payload
    unfolding payload-changes
    payload-unchanged hb hg h =
        sym (bytes_from_bits payload (payload_of n g) hb (All-take (λ b. b < 256) (payload_size n g) g hg)
        (same_from_changes (bits payload) (bits (payload_of n g)) same_payload_bits h))

    payload-turned : Bytes payload → Bytes g → (q : ℕ) → q < 8 * length payload → weight (toggle payload-changes q) ≡ 0
        → flip (payload_of n g) q ≡ payload
    unfolding payload-changes
    payload-turned hb hg q hq h =
        let p = payload_of n g in
        let hp : Bytes p = All-take (λ b. b < 256) (payload_size n g) g hg in
        let lq : q / 8 < length p = omega (arith, length_payload n (length payload) g lg) in
        bytes_from_bits (flip p q) payload (bytes_flip p q hp lq) hb
        (bits-flip p q hp lq ∙ put_back (bits payload) (bits p) q same_payload_bits h)

    names_none : weight Δ ≡ 0 → Names None Δ
    names_none h q = (λ e. absurd (cc), λ e. absurd (true≢false (sym e ∙ none_at Δ q h)))

    names_one : (q : ℕ) → q < 8 * length payload + n → weight (toggle Δ q) ≡ 0 → Names (Some q) Δ
    names_one q hq h j = (
      λ e. let z : q ≡ j = cc in subst (λ (k : ℕ). get_or Δ k false ≡ true) z (one_here Δ q (omega (arith, length-Δ)) h),
      λ e. ap (λ (k : ℕ). Some k) (sym (no_other Δ q j h e)),
    )

    -- no changed place: syndrome zero, and the payload that was sealed
    finds_clean : weight Δ ≡ 0 → finding n cs (syndrome n cs pad door slot g) ≡ Clean
    finds_clean h = ap (finding n cs) (syndrome-is ∙ picked_none (Z ++ Δ) (cs ++ units n) (weight-all ∙ h))

    clean_restores : Bytes payload → Bytes g → weight Δ ≡ 0 → Restores Clean payload (payload_of n g) Δ
    clean_restores hb hg h =
        record { somewhere = refl; outside = refl; gives_back = payload-unchanged hb hg (omega (arith, weight-parts)); names = names_none h }

    -- ---- with the law at distance D

    module _ (D : ℕ) (law : Distant n cs D) where
      nonzero : 1 ≤ weight Δ → weight Δ < D → syndrome n cs pad door slot g ≢ 0
      nonzero h k e = law (Z ++ Δ) length-all (omega (arith, weight-all)) (omega (arith, weight-all)) (sym syndrome-is ∙ e)

      -- a column that is the syndrome stands where the single change is
      lone : weight Δ + 1 < D → (i : ℕ) → i < length cs + n → get_or (cs ++ units n) i 0 ≡ syndrome n cs pad door slot g
          → weight (toggle (Z ++ Δ) i) ≡ 0
      lone h i hi e =
          let w = weight-toggle (Z ++ Δ) i in
          let z : picked (toggle (Z ++ Δ) i) (cs ++ units n) ≡ 0 =
          picked-toggle (Z ++ Δ) (cs ++ units n) i (omega (arith, length-all))
          ∙ xor_from_same (picked (Z ++ Δ) (cs ++ units n)) (get_or (cs ++ units n) i 0) (sym (e ∙ syndrome-is)) in
          elim (cases_lt 0 (weight (toggle (Z ++ Δ) i))) [
            | inl p ↦ absurd (law (toggle (Z ++ Δ) i) (length-toggle (Z ++ Δ) i ∙ length-all) p (omega (arith, weight-all)) z)
            | inr p ↦ omega arith
          ]

      -- one of the text stands in the payload
      at_column : weight Δ + 1 < D → (p : ℕ) → p < length cs → get_or cs p 0 ≡ syndrome n cs pad door slot g
          → (64 ≤ p) × (p - 64 < 8 * length payload) × (weight (toggle payload-changes (p - 64)) ≡ 0) × (weight (toggle Δ (p - 64)) ≡ 0)
      at_column h p hp e =
          let t : weight (toggle (Z ++ Δ) p) ≡ 0 = lone h p (omega arith) (get_or_append_left cs (units n) 0 p hp ∙ e) in
          let outside : 64 ≤ p =
          elim (cases_lt p 64) [
            | inl k ↦
                absurd
                (let l : p < length Z = omega (arith, length-Z) in
                let u = weight-toggle Z p in
                let v : weight (toggle Z p) ≡ 0 = omega (arith, ap weight (sym (toggle-left Z Δ p l)) ∙ t, weight-append (toggle Z p) Δ) in
                true≢false (sym (one_here Z p l v) ∙ none_at Z p (changes-self (bound_word door slot))))
            | inr k ↦ k
          ] in
          let eq : p ≡ length Z + (p - 64) = omega (arith, length-Z) in
          let r : toggle (Z ++ Δ) p ≡ Z ++ toggle Δ (p - 64) = ap (toggle (Z ++ Δ)) eq ∙ toggle-right Z Δ (p - 64) in
          let wΔ : weight (toggle Δ (p - 64)) ≡ 0 = omega (arith, ap weight (sym r) ∙ t, weight-append Z (toggle Δ (p - 64))) in
          let inside : p - 64 < 8 * length payload = omega arith in
          let r2 : toggle Δ (p - 64) ≡ toggle payload-changes (p - 64) ++ tag_changes =
          ap (λ (x : List Bool). toggle x (p - 64)) Δ_parts
          ∙ toggle-left payload-changes tag_changes (p - 64) (omega (arith, length-payload-changes)) in
          (outside, inside, omega (arith, ap weight (sym r2) ∙ wΔ, weight-append (toggle payload-changes (p - 64)) tag_changes), wΔ)

      -- a unit column stands in the tag
      at_unit : weight Δ + 1 < D → (k : ℕ) → k < n → get_or (units n) k 0 ≡ syndrome n cs pad door slot g
          → (weight payload-changes ≡ 0) × (weight (toggle Δ (8 * length payload + k)) ≡ 0)
      at_unit h k hk e =
          let q = 8 * length payload + k in
          let i = length cs + k in
          let le : length cs ≤ i = omega arith in
          let t : weight (toggle (Z ++ Δ) i) ≡ 0 =
          lone h i (omega arith)
          (get_or-append_right cs (units n) (length cs) i 0 refl le ∙ ap (λ (x : ℕ). get_or (units n) x 0) (omega arith) ∙ e) in
          let r : toggle (Z ++ Δ) i ≡ Z ++ toggle Δ q = ap (toggle (Z ++ Δ)) (omega (arith, length-Z)) ∙ toggle-right Z Δ q in
          let wΔ : weight (toggle Δ q) ≡ 0 = omega (arith, ap weight (sym r) ∙ t, weight-append Z (toggle Δ q)) in
          let r2 : toggle Δ q ≡ payload-changes ++ toggle tag_changes k =
          ap (λ (x : List Bool). toggle x q) Δ_parts
          ∙ ap (toggle (payload-changes ++ tag_changes)) (omega (arith, length-payload-changes))
          ∙ toggle-right payload-changes tag_changes k in
          (omega (arith, ap weight (sym r2) ∙ wΔ, weight-append payload-changes (toggle tag_changes k)), wΔ)

      seen : 1 ≤ weight Δ → weight Δ < D → finding n cs (syndrome n cs pad door slot g) ≢ Clean
      seen h k e =
          nonzero h k (subst (Found n cs (syndrome n cs pad door slot g)) e (found n cs (syndrome n cs pad door slot g)))

      -- two changes and more are neither a column nor a unit column
      many_nowhere : 2 ≤ weight Δ → weight Δ + 1 < D → finding n cs (syndrome n cs pad door slot g) ≡ Nowhere
      many_nowhere h k = go (finding n cs (syndrome n cs pad door slot g)) (found n cs (syndrome n cs pad door slot g))
        where
          go : (f : Finding) → Found n cs (syndrome n cs pad door slot g) f → f ≡ Nowhere
          go Clean z = absurd (nonzero (omega arith) (omega arith) z)
          go (Column p) (_, hp, e) =
              absurd (let r = at_column k p hp e in let w = weight-toggle Δ (p - 64) in omega arith)
          go (UnitColumn j) (_, hj, e) =
              absurd
              (let r = at_unit k j (omega (arith, length-units n)) e in let w = weight-toggle Δ (8 * length payload + j) in omega arith)
          go Nowhere z = refl

      -- a single change is mended, and its place is told
      one_restored : Bytes payload → Bytes g → weight Δ ≡ 1 → 2 < D
          → Restores (finding n cs (syndrome n cs pad door slot g)) payload (payload_of n g) Δ
      one_restored hb hg h k = go (finding n cs (syndrome n cs pad door slot g)) (found n cs (syndrome n cs pad door slot g))
        where
          go : (f : Finding) → Found n cs (syndrome n cs pad door slot g) f → Restores f payload (payload_of n g) Δ
          go Clean z = absurd (nonzero (omega arith) (omega arith) z)
          go (Column p) (_, hp, e) =
              let r = at_column (omega arith) p hp e in
              record {
                somewhere = refl;
                outside = le-leb 64 p r.0;
                gives_back = payload-turned hb hg (p - 64) r.1 r.2;
                names = names_one (p - 64) (omega arith) r.3;
              }
          go (UnitColumn j) (_, hj, e) =
              let l : j < n = omega (arith, length-units n) in
              let r = at_unit (omega arith) j l e in
              record {
                somewhere = refl;
                outside = refl;
                gives_back = payload-unchanged hb hg r.0;
                names = names_one (8 * length payload + j) (omega arith) r.1;
              }
          go Nowhere (_, no-column, no_unit) =
              let (i, hi, w) = one_place (Z ++ Δ) (weight-all ∙ h) in
              let z : picked (toggle (Z ++ Δ) i) (cs ++ units n) ≡ 0 = picked_none (toggle (Z ++ Δ) i) (cs ++ units n) w in
              let e : get_or (cs ++ units n) i 0 ≡ syndrome n cs pad door slot g =
              sym (syndrome-is
              ∙ same_from_xor (picked (Z ++ Δ) (cs ++ units n)) (get_or (cs ++ units n) i 0)
              (sym (picked-toggle (Z ++ Δ) (cs ++ units n) i hi) ∙ z)) in
              elim (cases_lt i (length cs)) [
                | inl l ↦ absurd (no-column i l (sym (get_or_append_left cs (units n) 0 i l) ∙ e))
                | inr l ↦
                    absurd
                    (no_unit (i - length cs) (omega (arith, length-all, length-units n))
                    (sym (get_or-append_right cs (units n) (length cs) i 0 refl l) ∙ e))
              ]

pub frames_show : FramesShow
frames_show n D pad door slot cs payload g lc hc law hh hb hg lg =
    record {
      unchanged = λ h.
          let clean = finds_clean n pad door slot cs payload hh hc lc g lg h in (
            clean,
            subst (λ (f : Finding). Restores f payload (payload_of n g) (changed_places n (frame_of n cs pad door slot payload) g)) (sym clean)
                (clean_restores n pad door slot cs payload hh hc lc g lg hb hg h),
          );
      seen = λ h k. seen n pad door slot cs payload hh hc lc g lg D law h k;
      one = λ h k. one_restored n pad door slot cs payload hh hc lc g lg D law hb hg h k;
      many = λ h k. many_nowhere n pad door slot cs payload hh hc lc g lg D law h k;
    }
