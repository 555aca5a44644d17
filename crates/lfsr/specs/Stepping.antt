-- The register's step: it stays within n bits, keeps different states different, and leaves zero where it is.
use Rattle.std.specs.Prelude.{◌≡◌, ℕ, zero, suc, ◌+◌, ◌*◌, ◌/◌, ◌%◌, ◌^◌, ◌<◌, ◌≤◌, [], ◌∷◌, ◌++◌, drop, ◌==◌, bit_xor, refl}
use Rattle.std.proofs.Common.{sym, ap, ap₂, ◌∙◌, subst, arith, mod-lt, mod-eq_of_lt, mul-div_cancel, pow-suc, one-mul, zero-mul, mul-zero, zero-add, div-one, one-add, add-one, pow_pos, shr_lt}
use Rattle.std.proofs.Math.Nat.{mul-mod_left, zero-div, zero-mod}
use Rattle.std.proofs.Math.Arith.{mod-mul}
use Rattle.std.proofs.Math.Pow.{split, field, mod-mod-pow}
use Rattle.lfsr.specs.Register.{feedback, step}
use Rattle.std.proofs.lemmas.Nat.{shr_high, xor_comm, xor_lt}
use Rattle.bits.specs.Bits.{bits_of}
use Rattle.bits.proofs.Runs.{bits_of-add, bits_of-mod, bits_of-low}
use Rattle.bits.proofs.Xors.{xor_cancel}

pub bit_mul : (x y : ℕ) → x < 2 → y < 2 → x * y < 2
bit_mul zero y hx hy = subst (λ n. n < 2) (sym (zero-mul y)) (omega arith)
bit_mul (suc zero) y hx hy = subst (λ n. n < 2) (sym (one-mul y)) hy
bit_mul (suc (suc x)) y hx hy = absurd (omega arith)

pub feedback-lt : (n c s : ℕ) → feedback n c s < 2
feedback-lt zero c s = omega arith
feedback-lt (suc k) c s =
    xor_lt 1 (c % 2 * (s / 2 ^ k % 2)) (feedback k (c / 2) s) (bit_mul (c % 2) (s / 2 ^ k % 2) (omega arith) (omega arith)) (feedback-lt k (c / 2) s)

-- the bit at place k, and the bits below it, are those of the k + 1 low bits
bit_of_low : (k s : ℕ) → s % 2 ^ suc k / 2 ^ k ≡ s / 2 ^ k % 2
bit_of_low k s = ap (λ n. s % 2 ^ n / 2 ^ k) (sym (one-add k)) ∙ field s 1 k

low_of_low : (k s : ℕ) → s % 2 ^ suc k % 2 ^ k ≡ s % 2 ^ k
low_of_low k s = ap (λ n. s % 2 ^ n % 2 ^ k) (sym (one-add k)) ∙ mod-mod-pow s 1 k

-- the feedback reads no more than the n low bits
pub feedback-low : (n c s t : ℕ) → s % 2 ^ n ≡ t % 2 ^ n → feedback n c s ≡ feedback n c t
feedback-low zero c s t e = refl
feedback-low (suc k) c s t e =
    let here : s / 2 ^ k % 2 ≡ t / 2 ^ k % 2 = sym (bit_of_low k s) ∙ ap (λ n. n / 2 ^ k) e ∙ bit_of_low k t in
    let below : s % 2 ^ k ≡ t % 2 ^ k = sym (low_of_low k s) ∙ ap (λ n. n % 2 ^ k) e ∙ low_of_low k t in
    ap₂ (λ x y. bit_xor (c % 2 * x) y) here (feedback-low k (c / 2) s t below)

-- to shift left within k + 1 bits drops the highest
pub shifted : (k s : ℕ) → s * 2 % 2 ^ suc k ≡ s % 2 ^ k * 2
shifted k s =
    ap (λ m. s * 2 % m) (pow-suc 2 k) ∙ mod-mul (s * 2) (pow_pos k) (omega arith)
    ∙ ap₂ (λ x y. x % 2 ^ k * 2 + y) (mul-div_cancel s (omega arith)) (mul-mod_left s 2) ∙ omega arith

pub step_is : (k c s : ℕ) → step (suc k) c s ≡ s % 2 ^ k * 2 + feedback (suc k) c s
unfolding step
step_is k c s = ap (λ x. x + feedback (suc k) c s) (shifted k s)

pub step-lt : (k c s : ℕ) → step (suc k) c s < 2 ^ suc k
step-lt k c s =
    omega (arith, step_is k c s, feedback-lt (suc k) c s, mod-lt s (pow_pos k), pow-suc 2 k)

-- where a term with the coefficient one is added to equal rests
term_same : (o x y r q : ℕ) → o ≡ 1 → r ≡ q → bit_xor (o * x) r ≡ bit_xor (o * y) q → x ≡ y
term_same o x y r q one rest e =
    let turned : bit_xor r (o * x) ≡ bit_xor r (o * y) = xor_comm r (o * x) ∙ e ∙ ap (bit_xor (o * y)) (sym rest) ∙ xor_comm (o * y) r in
    sym (ap (λ n. n * x) one ∙ one-mul x) ∙ xor_cancel r (o * x) (o * y) turned ∙ (ap (λ n. n * y) one ∙ one-mul y)

-- with the coefficient of x^0 one, the step keeps states of n bits apart
pub step-apart : (k c s t : ℕ) → c % 2 ≡ 1 → s < 2 ^ suc k → t < 2 ^ suc k → step (suc k) c s ≡ step (suc k) c t → s ≡ t
step-apart k c s t odd hs ht e =
    let sums : s % 2 ^ k * 2 + feedback (suc k) c s ≡ t % 2 ^ k * 2 + feedback (suc k) c t = sym (step_is k c s) ∙ e ∙ step_is k c t in
    let fs = feedback-lt (suc k) c s in
    let ft = feedback-lt (suc k) c t in
    let low : s % 2 ^ k ≡ t % 2 ^ k = omega arith in
    let news : feedback (suc k) c s ≡ feedback (suc k) c t = omega arith in
    let rest : feedback k (c / 2) s ≡ feedback k (c / 2) t = feedback-low k (c / 2) s t low in
    let oldest : s / 2 ^ k % 2 ≡ t / 2 ^ k % 2 = term_same (c % 2) (s / 2 ^ k % 2) (t / 2 ^ k % 2) _ _ odd rest news in
    let s2 : s / 2 ^ k < 2 = shr_lt 1 k (subst (λ n. s < 2 ^ n) (sym (one-add k)) hs) in
    let t2 : t / 2 ^ k < 2 = shr_lt 1 k (subst (λ n. t < 2 ^ n) (sym (one-add k)) ht) in
    let high : s / 2 ^ k ≡ t / 2 ^ k = omega arith in
    sym (split s k) ∙ ap₂ (λ x y. x * 2 ^ k + y) high low ∙ split t k

pub feedback-zero : (n c : ℕ) → feedback n c 0 ≡ 0
feedback-zero zero c = refl
feedback-zero (suc k) c =
    ap (λ q. bit_xor (c % 2 * (q % 2)) (feedback k (c / 2) 0)) (zero-div (2 ^ k))
    ∙ ap (λ p. bit_xor p (feedback k (c / 2) 0)) (mul-zero (c % 2)) ∙ feedback-zero k (c / 2)

pub step-zero : (n c : ℕ) → step n c 0 ≡ 0
unfolding step
step-zero n c = ap₂ (λ x y. x + y) (zero-mod (2 ^ n)) (feedback-zero n c)

pub step-below : (n c s : ℕ) → 1 ≤ n → step n c s < 2 ^ n
step-below zero c s h = absurd (omega arith)
step-below (suc k) c s h = step-lt k c s

pub states-apart : (n c s t : ℕ) → 1 ≤ n → c % 2 ≡ 1 → s < 2 ^ n → t < 2 ^ n → step n c s ≡ step n c t → s ≡ t
states-apart zero c s t h = absurd (omega arith)
states-apart (suc k) c s t h = step-apart k c s t

-- in bits: the oldest goes, the others move up, and the new one comes last
pub step-bits : (n c s : ℕ) → 1 ≤ n → bits_of n (step n c s) ≡ drop 1 (bits_of n s) ++ (feedback n c s == 1) ∷ []
unfolding bits_of
step-bits zero c s h = absurd (omega arith)
step-bits (suc k) c s h =
    let b : ℕ = feedback (suc k) c s in
    let b2 : b < 2 = feedback-lt (suc k) c s in
    let new : bits_of 1 (step (suc k) c s) ≡ (b == 1) ∷ [] =
    ap (bits_of 1) (step_is k c s) ∙ bits_of-low 1 (s % 2 ^ k) b b2 ∙ ap (λ x. (x % 2 == 1) ∷ []) (div-one b) ∙ ap (λ x. (x == 1) ∷ []) (mod-eq_of_lt b2) in
    let old : bits_of k (step (suc k) c s / 2 ^ 1) ≡ bits_of k s =
    ap (λ x. bits_of k (x / 2 ^ 1)) (step_is k c s) ∙ ap (bits_of k) (shr_high (s % 2 ^ k) 1 b b2)
    ∙ ap (λ n. bits_of k (s % 2 ^ n)) (sym (zero-add k)) ∙ bits_of-mod 0 k s in
    ap (λ n. bits_of n (step (suc k) c s)) (sym (add-one k)) ∙ bits_of-add k 1 (step (suc k) c s) ∙ ap₂ (λ x y. x ++ y) old new
