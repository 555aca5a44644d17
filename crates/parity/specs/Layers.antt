-- The layer over a lawful key.
use Rattle.std.specs.Prelude.{◌≡◌, ℕ, suc, ◌+◌, ◌*◌, ◌%◌, ◌^◌, ◌<◌, ◌≤◌, List, ◌++◌, map, take, count_ones, nat_le, refl}
use Rattle.std.proofs.Common.{sym, ap, ap₂, subst, ◌∙◌, ⊎_elim, arith, lt_of_lt_of_le, add-one, pow_mono}
use Rattle.std.proofs.lemmas.List.{length-map}
use Rattle.std.proofs.lemmas.Bool.{cases_lt, cond-true, cond-false, le-leb, lt-leb}
use Rattle.bits.specs.Bits.{bits, weight}
use Rattle.bits.specs.Columns.{units}
use Rattle.bits.proofs.Picks.{picked-lt}
use Rattle.family.specs.Meaning.{Meaning, Lawful, Separate, digest_of}
use Rattle.family.proofs.LawSeparates.{lawful_separate}
use Rattle.family.proofs.OddColumns.{lawful_at_4}
use Rattle.parity.specs.Layered.{odded, with_parity, layered, widest_below}
use Rattle.parity.specs.OddedColumns.{all_odded, odded-below, separate_odded, picked-odded}

pub layered-narrow : (k : Meaning) → k.width ≤ widest_below → layered k ≡ with_parity k
layered-narrow k h = cond-true (nat_le k.width widest_below) (with_parity k) k (le-leb k.width widest_below h)

pub layered-full : (k : Meaning) → widest_below < k.width → layered k ≡ k
layered-full k h = cond-false (nat_le k.width widest_below) (with_parity k) k (lt-leb k.width widest_below h)

with_parity-lawful : (k : Meaning) → k.width ≤ widest_below → Lawful k → Lawful (with_parity k)
with_parity-lawful k room lawful =
    lawful_at_4 (with_parity k) refl
    (λ m low high. length-map (k.columns m) odded ∙ lawful.count m low high)
    (λ m low high.
    let s : Separate (map odded (k.columns m) ++ units (suc k.width)) = separate_odded k.width (k.columns m) (lawful_separate k lawful m low high) in
    subst (λ w. Separate (map odded (k.columns m) ++ units w)) (sym (add-one k.width)) s)
    (λ m low high. all_odded (k.columns m))
    (omega (arith, lawful.wide)) (omega arith) lawful.some_reach lawful.near
    (λ m low high. odded-below k.width (k.columns m) (lawful.below m low high))

pub layered-lawful : (k : Meaning) → Lawful k → Lawful (layered k)
layered-lawful k lawful =
    ⊎_elim
    (λ (full : widest_below < k.width). subst Lawful (sym (layered-full k full)) lawful)
    (λ (room : k.width ≤ widest_below). subst Lawful (sym (layered-narrow k room)) (with_parity-lawful k room lawful))
    (cases_lt widest_below k.width)

-- the digest below leaves room for one more bit
pub digest_room : (k : Meaning) → Lawful k → k.width ≤ widest_below → (m : ℕ) (text : List ℕ) → 1 ≤ m → m ≤ k.reach → digest_of k m text < 2 ^ 63
digest_room k lawful room m text low high =
    lt_of_lt_of_le (picked-lt k.width (bits text) (k.columns m) (lawful.below m low high)) (pow_mono room)

-- the layer's digest, from the digest below and the parity of the text
pub digest_layered : (k : Meaning) → Lawful k → k.width ≤ widest_below → (m d p : ℕ) (text : List ℕ) → 1 ≤ m → m ≤ k.reach
    → d ≡ digest_of k m text → p ≡ weight (take m (bits text)) % 2
    → d * 2 + (count_ones d + p) % 2 ≡ digest_of (layered k) m text
digest_layered k lawful room m d p text low high e f =
    let cs = k.columns m in
    let w : ℕ = weight (take m (bits text)) in
    let even : (count_ones d + p) % 2 ≡ (count_ones d + w) % 2 = omega arith in
    ap (λ x. d * 2 + x) even
    ∙ ap₂ (λ x n. x * 2 + (count_ones x + weight (take n (bits text))) % 2) e (sym (lawful.count m low high))
    ∙ sym (picked-odded (bits text) cs)
    ∙ ap (λ l. digest_of l m text) (sym (layered-narrow k room))

-- the layer reaches as far as the key below
pub reach_layered : (k : Meaning) (m : ℕ) → m ≤ k.reach → m ≤ (layered k).reach
reach_layered k m h =
    ⊎_elim
    (λ (full : widest_below < k.width). subst (λ (l : Meaning). m ≤ l.reach) (sym (layered-full k full)) h)
    (λ (room : k.width ≤ widest_below). subst (λ (l : Meaning). m ≤ l.reach) (sym (layered-narrow k room)) h)
    (cases_lt widest_below k.width)
