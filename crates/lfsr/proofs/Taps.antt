-- The coefficients in the opposite order, and the step as shift, mask and count of ones give it.
use Rattle.std.proofs.Common.{◌≡◌, ℕ, zero, suc, ◌+◌, ◌-◌, ◌*◌, ◌/◌, ◌%◌, ◌^◌, ◌<◌, ◌≤◌, sym, ap, ◌∙◌, subst, ap₂, mod-lt, mul_assoc, mul_comm, add-mul, suc-add, one-mul, pow-suc, zero-add, zero-mul, div-one, one-add, arith, pow_pos, pow-add, shr-shr}
use native.Mathlib.Nat.{mod-mod}
use lib.Bits.{bit_and, bit_or, and_block, and_lt, and_mask, and_zero_r, or_shifted}
use lib.Count.{ones, ones_cat}
use lib.Pow.{split, high, mod-mod-pow}
use Rattle.std.specs.Int.{reverse_bits_onto}
use Rattle.std.proofs.lemmas.Nat.{one_shl}
use Rattle.lfsr.specs.Register.{feedback, step, mirrored}
use Rattle.lfsr.specs.Stepping.{bit_mul, feedback-lt, feedback-low, shifted, step_is}
use Rattle.bits.proofs.Xors.{xor_digit, ones_zero, ones_digit}

digit_le : (x p : ℕ) → x < 2 → x * p ≤ p
digit_le zero p h = subst (λ n. n ≤ p) (sym (zero-mul p)) (omega arith)
digit_le (suc zero) p h = subst (λ n. n ≤ p) (sym (one-mul p)) (omega arith)
digit_le (suc (suc x)) p h = absurd (omega arith)

pub mirrored-lt : (n c : ℕ) → mirrored n c < 2 ^ n
unfolding mirrored
mirrored-lt zero c = omega arith
mirrored-lt (suc k) c =
    omega (arith, mirrored-lt k (c / 2), digit_le (c % 2) (2 ^ k) (omega arith), pow-suc 2 k)

pub mirrored-add : (n r c : ℕ) → mirrored (n + r) c ≡ mirrored n c * 2 ^ r + mirrored r (c / 2 ^ n)
unfolding mirrored
mirrored-add zero r c =
    ap (λ k. mirrored k c) (zero-add r)
    ∙ sym (ap₂ (λ x y. x + mirrored r y) (zero-mul (2 ^ r)) (div-one c) ∙ zero-add (mirrored r c))
mirrored-add (suc n) r c =
    ap (λ k. mirrored k c) (suc-add n r)
    ∙ ap₂ (λ x y. c % 2 * x + y) (pow-add 2 n r) (mirrored-add n r (c / 2))
    ∙ omega (
      arith,
      mul_assoc (c % 2) (2 ^ n) (2 ^ r),
      add-mul (c % 2 * 2 ^ n) (mirrored n (c / 2)) (2 ^ r),
      ap (mirrored r) (shr-shr c 1 n ∙ ap (λ k. c / 2 ^ k) (one-add n)),
    )

pub reversed_is : (k c a : ℕ) → reverse_bits_onto k c a ≡ a * 2 ^ k + mirrored k c
unfolding mirrored reverse_bits_onto
reversed_is zero c a = omega arith
reversed_is (suc k) c a = reversed_is k (c / 2) (a * 2 + c % 2)
    ∙ omega (arith, add-mul (a * 2) (c % 2) (2 ^ k), mul_assoc a 2 (2 ^ k), ap (λ x. a * x) (pow-suc 2 k ∙ mul_comm (2 ^ k) 2))

pub taps_are : (n c : ℕ) → n ≤ 64 → reverse_bits_onto 64 c 0 / 2 ^ (64 - n) ≡ mirrored n c
taps_are n c h =
    let sum : 64 ≡ n + (64 - n) = omega arith in
    let all : reverse_bits_onto 64 c 0 ≡ mirrored n c * 2 ^ (64 - n) + mirrored (64 - n) (c / 2 ^ n) =
    reversed_is 64 c 0 ∙ zero-add (mirrored 64 c) ∙ ap (λ k. mirrored k c) sum ∙ mirrored-add n (64 - n) c in
    ap (λ x. x / 2 ^ (64 - n)) all ∙ high (mirrored n c) (64 - n) (mirrored-lt (64 - n) (c / 2 ^ n))

and_bit : (x o : ℕ) → o < 2 → bit_and x o ≡ o * (x % 2)
and_bit x zero h = and_zero_r x ∙ sym (zero-mul (x % 2))
and_bit x (suc zero) h = and_mask x 1 ∙ sym (one-mul (x % 2))
and_bit x (suc (suc o)) h = absurd (omega arith)

-- the ones that the taps leave of a state are as odd as the feedback
pub feedback-taps : (n c s : ℕ) → ones (bit_and s (mirrored n c)) % 2 ≡ feedback n c s
unfolding mirrored
feedback-taps zero c s = ap (λ x. ones x % 2) (and_zero_r s) ∙ ap (λ x. x % 2) ones_zero
feedback-taps (suc k) c s =
    let d : ℕ = c % 2 * (s / 2 ^ k % 2) in
    let f : ℕ = feedback k (c / 2) s in
    let d2 : d < 2 = bit_mul (c % 2) (s / 2 ^ k % 2) (omega arith) (omega arith) in
    let f2 : f < 2 = feedback-lt k (c / 2) s in
    let low : ℕ = bit_and (s % 2 ^ k) (mirrored k (c / 2)) in
    let cut : bit_and s (mirrored (suc k) c) ≡ bit_and (s / 2 ^ k) (c % 2) * 2 ^ k + low =
    ap (λ x. bit_and x (mirrored (suc k) c)) (sym (split s k))
    ∙ and_block k (s / 2 ^ k) (c % 2) (s % 2 ^ k) (mirrored k (c / 2)) (mod-lt s (pow_pos k)) (mirrored-lt k (c / 2)) in
    let lowLt : low < 2 ^ k = and_lt k (s % 2 ^ k) (mirrored k (c / 2)) (mod-lt s (pow_pos k)) (mirrored-lt k (c / 2)) in
    let count : ones (bit_and s (mirrored (suc k) c)) ≡ d + ones low =
    ap ones cut ∙ ones_cat k (bit_and (s / 2 ^ k) (c % 2)) low lowLt
    ∙ ap (λ x. ones x + ones low) (and_bit (s / 2 ^ k) (c % 2) (omega arith)) ∙ ap (λ x. x + ones low) (ones_digit d d2) in
    let ih : ones low % 2 ≡ f = feedback-taps k (c / 2) (s % 2 ^ k) ∙ feedback-low k (c / 2) (s % 2 ^ k) s (mod-mod s (2 ^ k)) in
    omega (arith, count, ih, xor_digit d f d2 f2)

-- shift, mask and the new bit
pub step-by_mask : (n c s : ℕ) → 1 ≤ n → n ≤ 63
    → bit_or (bit_and (s * 2 % 2 ^ 64) ((1 * 2 ^ n) % 2 ^ 64 - 1)) (feedback n c s) ≡ step n c s
step-by_mask zero c s h g = absurd (omega arith)
step-by_mask (suc k) c s h g =
    let n : ℕ = suc k in
    let sum : 64 ≡ (64 - n) + n = omega arith in
    let masked : bit_and (s * 2 % 2 ^ 64) ((1 * 2 ^ n) % 2 ^ 64 - 1) ≡ s % 2 ^ k * 2 =
    ap (λ x. bit_and (s * 2 % 2 ^ 64) (x - 1)) (one_shl n 64 (omega arith)) ∙ and_mask (s * 2 % 2 ^ 64) n
    ∙ ap (λ w. s * 2 % 2 ^ w % 2 ^ n) sum ∙ mod-mod-pow (s * 2) (64 - n) n ∙ shifted k s in
    ap (λ x. bit_or x (feedback n c s)) masked ∙ or_shifted (s % 2 ^ k) 1 (feedback n c s) (feedback-lt n c s) ∙ sym (step_is k c s)
