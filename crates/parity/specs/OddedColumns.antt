-- Columns that are followed by the bit that makes their ones odd.
use Rattle.std.specs.Prelude.{◌≡◌, ℕ, suc, ◌+◌, ◌-◌, ◌*◌, ◌/◌, ◌%◌, ◌^◌, ◌<◌, ◌≤◌, Bool, true, false, cond, ◌≢◌, List, [], ◌∷◌, ◌++◌, map, length, take, Some, None, ◌==◌, bit_xor, count_ones, slice_index, refl}
use Rattle.std.proofs.Common.{sym, ap, ap₂, subst, ◌∙◌, ⊎_elim, arith, pow-suc, mul-div_cancel, zero-add, add-one}
use Rattle.std.proofs.lemmas.Nat.{xor_block, ones_cat}
use Rattle.std.specs.Int.Bits.{xor_zero_l}
use Rattle.std.specs.Int.Count.{ones_step}
use Rattle.std.specs.List.{AllByRecursion}
use Rattle.std.proofs.lemmas.List.{length-map, get_or-map}
use Rattle.std.proofs.lemmas.Bool.{cases_lt, cases_eq, eq-eqb, ne_eqb}
use Rattle.bits.specs.Bits.{weight}
use Rattle.bits.specs.Columns.{picked, units, place, one_on}
use Rattle.bits.proofs.UnitColumns.{length-units, get_or-units}
use Rattle.bits.proofs.Xors.{xor_digit, ones_zero, ones_digit, ones_xor}
use Rattle.family.specs.Meaning.{Separate}
use Rattle.family.proofs.OddColumns.{Odd}
use Rattle.bits.proofs.Locating.{place_none}
use Rattle.family.proofs.Separates.{separate_append, separate_left, separate_across, separate-units}
use Rattle.parity.specs.Layered.{odded}

odded-half : (a : ℕ) → odded a / 2 ≡ a
unfolding odded
odded-half a = omega arith

ones_odded : (a : ℕ) → count_ones (odded a) % 2 ≡ 1
unfolding odded
ones_odded a = omega (arith, ones_cat 1 a ((count_ones a + 1) % 2) (omega arith), ones_digit ((count_ones a + 1) % 2) (omega arith))

-- a number with odd ones is its upper bits with their parity bit
odded-of : (x : ℕ) → count_ones x % 2 ≡ 1 → odded (x / 2) ≡ x
unfolding odded
odded-of x h = omega (arith, ones_step x)

pub all_odded : (cs : List ℕ) → Odd (map odded cs)
all_odded [] = tt
all_odded (c ∷ cs) = (ones_odded c, all_odded cs)

odded-lt : (n c : ℕ) → c < 2 ^ n → odded c < 2 ^ (n + 1)
unfolding odded
odded-lt n c h = subst (λ k. c * 2 + (count_ones c + 1) % 2 < 2 ^ k) (sym (add-one n)) (omega (arith, pow-suc 2 n))

pub odded-below : (n : ℕ) (cs : List ℕ) → AllByRecursion (λ c. c < 2 ^ n) cs → AllByRecursion (λ c. c < 2 ^ (n + 1)) (map odded cs)
odded-below n [] h = tt
odded-below n (c ∷ cs) h = (odded-lt n c h.0, odded-below n cs h.1)

-- ---- separate columns stay separate

module _ (n : ℕ) (cs : List ℕ) (s : Separate (cs ++ units n)) where
  at : (i : ℕ) → i < length cs → slice_index (map odded cs) i ≡ odded (slice_index cs i)
  at i h = get_or-map odded cs i 0 0 h

  half : (i x : ℕ) → i < length cs → slice_index (map odded cs) i ≡ x → slice_index cs i ≡ x / 2
  half i x h e = sym (odded-half (slice_index cs i)) ∙ ap (λ y. y / 2) (sym (at i h) ∙ e)

  -- a column that became a unit column was zero or a unit column below
  no_unit : (i j : ℕ) → i < length cs → j < suc n → slice_index cs i ≢ 2 ^ (suc n - 1 - j) / 2
  no_unit i j hi hj e =
      ⊎_elim
      (λ (l : j < n).
      let x : ℕ = n - 1 - j in
      let deep : suc n - 1 - j ≡ suc x = omega arith in
      let unit : 2 ^ (suc n - 1 - j) / 2 ≡ 2 ^ x = ap (λ y. 2 ^ y / 2) deep ∙ ap (λ y. y / 2) (pow-suc 2 x) ∙ mul-div_cancel (2 ^ x) (omega arith) in
      separate_across cs (units n) s i j hi (omega (arith, length-units n)) (e ∙ unit ∙ sym (get_or-units n j l)))
      (λ (g : n ≤ j). let low : suc n - 1 - j ≡ 0 = omega arith in (separate_left cs (units n) s).0 i hi (e ∙ ap (λ y. 2 ^ y / 2) low))
      (cases_lt j n)

  pub separate_odded : Separate (map odded cs ++ units (suc n))
  separate_odded =
      let long = length-map cs odded in
      let left = separate_left cs (units n) s in
      separate_append (map odded cs) (units (suc n)) (
        (λ i h e. left.0 i (omega arith) (half i 0 (omega arith) e)),
        (λ i j ij h e. left.1 i j ij (omega arith)
            (half i (odded (slice_index cs j)) (omega arith) (e ∙ at j (omega arith)) ∙ odded-half (slice_index cs j))),
      )
      (separate-units (suc n))
      (λ i j hi hj e.
      let few = length-units (suc n) in
      no_unit i j (omega arith) (omega arith) (half i (2 ^ (suc n - 1 - j)) (omega arith) (e ∙ get_or-units (suc n) j (omega arith))))

-- ---- what a text picks, from what it picks below and the number of its ones

joined_odded : (c p w : ℕ) → bit_xor (odded c) (p * 2 + (count_ones p + w) % 2) ≡ bit_xor c p * 2 + bit_xor ((count_ones c + 1) % 2) ((count_ones p + w) % 2)
unfolding odded
joined_odded c p w = xor_block 1 c p ((count_ones c + 1) % 2) ((count_ones p + w) % 2) (omega arith) (omega arith)

none_odded : 0 ≡ 0 * 2 + (count_ones 0 + 0) % 2
none_odded = omega (arith, ones_zero)

pub picked-odded : (bs : List Bool) (cs : List ℕ)
    → picked bs (map odded cs) ≡ picked bs cs * 2 + (count_ones (picked bs cs) + weight (take (length cs) bs)) % 2
picked-odded [] [] = none_odded
picked-odded [] (c ∷ cs) = none_odded
picked-odded (b ∷ bs) [] = none_odded
picked-odded (false ∷ bs) (c ∷ cs) =
    let p : ℕ = picked bs cs in
    let zero-first : bit_xor 0 p ≡ p = xor_zero_l p in
    xor_zero_l (picked bs (map odded cs)) ∙ picked-odded bs cs
    ∙ ap₂ (λ x y. x * 2 + (count_ones x + y) % 2) (sym zero-first) (sym (zero-add (weight (take (length cs) bs))))
picked-odded (true ∷ bs) (c ∷ cs) =
    let p : ℕ = picked bs cs in
    let w : ℕ = weight (take (length cs) bs) in
    let low : bit_xor ((count_ones c + 1) % 2) ((count_ones p + w) % 2) ≡ (count_ones (bit_xor c p) + (1 + w)) % 2 =
    xor_digit ((count_ones c + 1) % 2) ((count_ones p + w) % 2) (omega arith) (omega arith) ∙ omega (arith, ones_xor c p) in
    ap (bit_xor (odded c)) (picked-odded bs cs) ∙ joined_odded c p w ∙ ap (λ x. bit_xor c p * 2 + x) low

-- ---- the place of a number

same_test : (x c : ℕ) → count_ones x % 2 ≡ 1 → (x == odded c) ≡ (x / 2 == c)
same_test x c odd =
    ⊎_elim
    (λ (e : x / 2 ≡ c). eq-eqb x (odded c) (sym (odded-of x odd) ∙ ap odded e) ∙ sym (eq-eqb (x / 2) c e))
    (λ (ne : x / 2 ≡ c → ⊥). ne_eqb x (odded c) (λ e. ne (ap (λ y. y / 2) e ∙ odded-half c)) ∙ sym (ne_eqb (x / 2) c ne))
    (cases_eq (x / 2) c)

-- of one with odd ones it is the place of its upper bits below
pub place-odd : (x : ℕ) (cs : List ℕ) → count_ones x % 2 ≡ 1 → place (x / 2) cs ≡ place x (map odded cs)
place-odd x [] odd = refl
place-odd x (c ∷ cs) odd =
    sym (ap₂ (λ b p. cond b (Some 0) (one_on p)) (same_test x c odd) (sym (place-odd x cs odd)))

-- and one with even ones has none
pub place-even : (x : ℕ) (cs : List ℕ) → count_ones x % 2 ≢ 1 → None ≡ place x (map odded cs)
place-even x cs even =
    sym (place_none x (map odded cs)
    (λ j h e. even (ap (λ y. count_ones y % 2) (sym e ∙ get_or-map odded cs j 0 0 (omega (arith, length-map cs odded))) ∙ ones_odded (slice_index cs j))))
