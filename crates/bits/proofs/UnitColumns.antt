-- The unit columns: the numbers of n bits with a single one.
use Rattle.std.proofs.Common.{◌≡◌, ℕ, zero, suc, ◌+◌, ◌-◌, ◌*◌, ◌/◌, ◌%◌, ◌^◌, ◌<◌, ◌≤◌, eqb, ◌≢◌, length, get_or, Some, None, sym, refl, ap, ◌∙◌, subst, ap₂, ⊎_elim, mod-lt, one-add, arith, w64, pow_pos, shr_lt}
use lib.Count.{ones, ones_cat}
use lib.Pow.{pow-lt, split}
use Rattle.std.specs.List.{AllByRecursion}
use Rattle.std.proofs.lemmas.Nat.{le-div}
use Rattle.std.proofs.lemmas.Bool.{cases_lt, cases_eq, cond-true, cond-false, eq-eqb, ne_eqb}
use Rattle.bits.specs.Columns.{units, place, one_on}
use Rattle.std.specs.Int.{bit_at, trailing_zeros}
use Rattle.std.proofs.lemmas.Nat.Bits.{bit_at-trailing_zeros, bit_at-pow_other}
use Rattle.bits.proofs.Xors.{ones_zero, ones_one, zero_from_ones}

pub length-units : (n : ℕ) → length (units n) ≡ n
length-units zero = refl
length-units (suc n) = ap suc (length-units n)

pub get_or-units : (n i : ℕ) → i < n → get_or (units n) i 0 ≡ 2 ^ (n - 1 - i)
get_or-units zero i h = absurd (omega arith)
get_or-units (suc n) zero h = ap (λ k. 2 ^ k) (omega arith)
get_or-units (suc n) (suc i) h = get_or-units n i (omega arith) ∙ ap (λ k. 2 ^ k) (omega arith)

pub units-below : (n k : ℕ) → n ≤ k → AllByRecursion (λ c. c < 2 ^ k) (units n)
units-below zero k h = tt
units-below (suc n) k h = (pow-lt h, units-below n k (omega arith))

pub ones_power : (k : ℕ) → ones (2 ^ k) ≡ 1
ones_power k =
    let e : 2 ^ k ≡ 1 * 2 ^ k + 0 = omega arith in
    ap ones e ∙ ones_cat k 1 0 (pow_pos k) ∙ ap₂ (λ x y. x + y) ones_one ones_zero

-- a number of n bits with a single one is a unit column
pub unit_from_ones : (n a : ℕ) → a < 2 ^ n → ones a ≡ 1 → (i : ℕ) × (i < n) × (get_or (units n) i 0 ≡ a)
unit_from_ones zero a h e = let z : a ≡ 0 = omega arith in absurd (omega (arith, ap ones z, ones_zero))
unit_from_ones (suc k) a h e =
    ⊎_elim
    (λ below. let r = unit_from_ones k a below e in (suc r.0, omega (arith, r.1), r.2))
    (λ above.
    let low : 1 ≤ a / 2 ^ k = le-div 1 a (2 ^ k) (pow_pos k) (omega arith) in
    let top : a / 2 ^ k < 2 = shr_lt 1 k (subst (λ n. a < 2 ^ n) (sym (one-add k)) h) in
    let high : a / 2 ^ k ≡ 1 = omega arith in
    let sum : a ≡ 1 * 2 ^ k + a % 2 ^ k = sym (split a k) ∙ ap (λ q. q * 2 ^ k + a % 2 ^ k) high in
    let count : ones a ≡ 1 + ones (a % 2 ^ k) = ap ones sum ∙ ones_cat k 1 (a % 2 ^ k) (mod-lt a (pow_pos k)) ∙ ap (λ x. x + ones (a % 2 ^ k)) ones_one in
    let rest : a % 2 ^ k ≡ 0 = zero_from_ones (a % 2 ^ k) (omega arith) in
    (0, omega arith, omega arith))
    (cases_lt a (2 ^ k))

-- the place of a unit column, and of a number that is none
pub place-unit : (n w : ℕ) → w < n → place (2 ^ w) (units n) ≡ Some (n - 1 - w)
place-unit zero w h = absurd (omega arith)
place-unit (suc k) w h =
    ⊎_elim
    (λ (e : w ≡ k).
    cond-true (eqb (2 ^ w) (2 ^ k)) (Some 0) (one_on (place (2 ^ w) (units k))) (eq-eqb (2 ^ w) (2 ^ k) (ap (λ n. 2 ^ n) e))
    ∙ ap Some (omega arith))
    (λ (e : w ≡ k → ⊥).
    let below : w < k = omega arith in
    let lower : 2 ^ w < 2 ^ k = pow-lt below in
    cond-false (eqb (2 ^ w) (2 ^ k)) (Some 0) (one_on (place (2 ^ w) (units k))) (ne_eqb (2 ^ w) (2 ^ k) (λ q. omega arith))
    ∙ ap one_on (place-unit k w below) ∙ ap Some (omega arith))
    (cases_eq w k)

pub place-no_unit : (n x : ℕ) → ((w : ℕ) → w < n → 2 ^ w ≢ x) → place x (units n) ≡ None
place-no_unit zero x f = refl
place-no_unit (suc k) x f =
    cond-false (eqb x (2 ^ k)) (Some 0) (one_on (place x (units k))) (ne_eqb x (2 ^ k) (λ e. f k (omega arith) (sym e)))
    ∙ ap one_on (place-no_unit k x (λ w h. f w (omega arith)))

-- a number of 64 bits with a single one weighs what its lowest one does
pub weight_of_one : (x : ℕ) → x < 2 ^ 64 → ones x ≡ 1 → 2 ^ trailing_zeros w64 x ≡ x
weight_of_one x h e =
    let r = unit_from_ones 64 x h e in
    let w : ℕ = 64 - 1 - r.0 in
    let is : 2 ^ w ≡ x = sym (get_or-units 64 r.0 r.1) ∙ r.2 in
    let some : 0 < x = subst (λ n. 0 < n) is (pow_pos w) in
    let low = (bit_at-trailing_zeros w64 x some h).1 in
    ⊎_elim
    (λ (at : trailing_zeros w64 x ≡ w). ap (λ n. 2 ^ n) at ∙ is)
    (λ (off : trailing_zeros w64 x ≡ w → ⊥).
    absurd (omega (arith, low, ap (λ n. bit_at n (trailing_zeros w64 x)) is, bit_at-pow_other w (trailing_zeros w64 x) off)))
    (cases_eq (trailing_zeros w64 x) w)
