-- How many of the bits are ones: of a run of bits, of a number and of the first bits of bytes.
use Rattle.std.proofs.Common.{◌≡◌, ℕ, zero, suc, ◌+◌, ◌-◌, ◌*◌, ◌/◌, ◌%◌, ◌^◌, ◌<◌, ◌≤◌, Bool, cond, eqb, List, [], ◌∷◌, ◌++◌, length, get_or, take, sym, refl, ap, ◌∙◌, subst, ap₂, mod-lt, mod-eq_of_lt, suc-add, zero-add, one-add, arith}
use lib.Count.{ones, ones_cat}
use Rattle.std.proofs.lemmas.Nat.{pow_pos, mod-pow-add, shr-shr, shr_below}
use Rattle.std.proofs.lemmas.List.{take-append-le}
use Rattle.bits.specs.Bits.{bits, bits_of, weight}
use Rattle.bits.proofs.Runs.{length-bits_of, bits-append}
use Rattle.bits.proofs.Weights.{weight-append}
use Rattle.bits.proofs.Xors.{ones_zero, ones_digit}

digit_weight : (d : ℕ) → d < 2 → cond (eqb d 1) 1 0 ≡ d
digit_weight zero h = refl
digit_weight (suc zero) h = refl
digit_weight (suc (suc d)) h = absurd (omega arith)

pub weight-bits_of : (n x : ℕ) → weight (bits_of n x) ≡ ones (x % 2 ^ n)
unfolding bits_of
weight-bits_of zero x = sym (ap ones (omega arith) ∙ ones_zero)
weight-bits_of (suc k) x =
    let d : ℕ = x / 2 ^ k % 2 in
    let low : x / 2 ^ k % 2 ^ 1 ≡ d = omega arith in
    ap₂ (λ a b. a + b) (digit_weight d (omega arith) ∙ sym (ones_digit d (omega arith))) (weight-bits_of k x)
    ∙ sym (ones_cat k d (x % 2 ^ k) (mod-lt x (pow_pos k)))
    ∙ ap (λ a. ones (a * 2 ^ k + x % 2 ^ k)) (sym low)
    ∙ ap ones (sym (mod-pow-add x 1 k)) ∙ ap (λ n. ones (x % 2 ^ n)) (one-add k)

-- the first bits of a number are those of the number shifted down
pub take-bits_of : (j k x : ℕ) → take j (bits_of (j + k) x) ≡ bits_of j (x / 2 ^ k)
unfolding bits_of
take-bits_of zero k x = refl
take-bits_of (suc j) k x =
    let e : suc j + k ≡ suc (j + k) = omega arith in
    let sum : k + j ≡ j + k = omega arith in
    ap (λ n. take (suc j) (bits_of n x)) e
    ∙ ap₂ (λ (a : ℕ) (r : List Bool). eqb (a % 2) 1 ∷ r) (sym (shr-shr x k j ∙ ap (λ n. x / 2 ^ n) sum)) (take-bits_of j k x)

-- the ones of the first r bits of a byte
pub front_byte : (b r : ℕ) → b < 2 ^ 8 → r ≤ 8 → weight (take r (bits_of 8 b)) ≡ ones (b / 2 ^ (8 - r))
front_byte b r h l =
    let k : ℕ = 8 - r in
    let sum : 8 ≡ r + k = omega arith in
    let small : b / 2 ^ k < 2 ^ r = shr_below b r k (subst (λ n. b < 2 ^ n) sum h) in
    ap (λ n. weight (take r (bits_of n b))) sum ∙ ap weight (take-bits_of r k b) ∙ weight-bits_of r (b / 2 ^ k)
    ∙ ap ones (mod-eq_of_lt small)

-- taking all of the first and some of the second
take_past : (xs ys : List Bool) (n : ℕ) → take (length xs + n) (xs ++ ys) ≡ xs ++ take n ys
take_past [] ys n = ap (λ k. take k ys) (zero-add n)
take_past (x ∷ xs) ys n = ap (λ k. take k (x ∷ (xs ++ ys))) (suc-add (length xs) n) ∙ ap (λ (r : List Bool). x ∷ r) (take_past xs ys n)

-- the ones of the first 8 q + r bits of bytes: those of q whole bytes, and of r bits of the next
pub front_weight : (text : List ℕ) (q r : ℕ) → r < 8 → 8 * q + r ≤ 8 * length text
    → weight (take (8 * q + r) (bits text)) ≡ weight (bits (take q text)) + weight (take r (bits_of 8 (get_or text q 0)))
front_weight [] zero zero h l = omega arith
front_weight [] zero (suc r) h l = absurd (omega arith)
front_weight [] (suc q) r h l = absurd (omega arith)
front_weight (b ∷ bs) zero r h l =
    let e : 8 * 0 + r ≡ r = omega arith in
    ap (λ n. weight (take n (bits (b ∷ bs)))) e
    ∙ ap weight (take-append-le r (bits_of 8 b) (bits bs) (omega (arith, length-bits_of 8 b)))
    ∙ sym (zero-add (weight (take r (bits_of 8 b))))
front_weight (b ∷ bs) (suc q) r h l =
    let e : 8 * suc q + r ≡ length (bits_of 8 b) + (8 * q + r) = omega (arith, length-bits_of 8 b) in
    ap (λ n. weight (take n (bits (b ∷ bs)))) e
    ∙ ap weight (take_past (bits_of 8 b) (bits bs) (8 * q + r))
    ∙ weight-append (bits_of 8 b) (take (8 * q + r) (bits bs))
    ∙ omega (arith, front_weight bs q r h (omega arith), weight-append (bits_of 8 b) (bits (take q bs)))

-- one byte more
pub weight-push : (bs : List ℕ) (b : ℕ) → b < 2 ^ 8 → weight (bits (bs ++ b ∷ [])) ≡ weight (bits bs) + ones b
weight-push bs b h =
    ap weight (bits-append bs (b ∷ [])) ∙ weight-append (bits bs) (bits (b ∷ []))
    ∙ ap (λ n. weight (bits bs) + n) (weight-append (bits_of 8 b) [] ∙ ap₂ (λ x y. x + y) (weight-bits_of 8 b ∙ ap ones (mod-eq_of_lt h)) refl ∙ omega arith)
