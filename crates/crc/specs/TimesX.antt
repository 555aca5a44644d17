-- One multiplication by x modulo a generator.
use Rattle.std.specs.Prelude.{◌≡◌, ℕ, zero, suc, ◌+◌, ◌-◌, ◌*◌, ◌/◌, ◌%◌, ◌^◌, ◌<◌, ◌≤◌, cond, ◌==◌, bit_and, bit_xor, count_ones}
use Rattle.std.proofs.Common.{sym, ap, ap₂, subst, ◌∙◌, arith, mod-lt, mod-eq_of_lt, pow-suc, one-mul, zero-mul, one-add, pow_pos, shr_lt}
use Rattle.std.proofs.Math.Nat.{div-eq_of_lt, mod_self, div_self}
use Rattle.std.proofs.lemmas.Nat.{xor_lt, xor_mod, xor_shr, xor_comm, ones_cat}
use Rattle.std.specs.Int.Bits.{xor_assoc, xor_zero_r, xor_self}
use Rattle.std.proofs.Math.Pow.{split}
use Rattle.bits.proofs.Shifts.{shifted_low, shifted_out, out_is_top, shift_masked, xor_twice, ones_twice, mask_product}
use Rattle.bits.proofs.Xors.{xor_cancel, xor_digit, ones_zero, ones_digit, ones_xor}
use Rattle.crc.specs.Powers.{times_x}

-- the shift, and under the mask of the bit that goes out, the rest of g
pub times_x-masked : (n c a word : ℕ) → 1 ≤ n → n ≤ 63 → word ≡ cond (a / 2 ^ (n - 1) % 2 == 1) c 0
    → bit_xor (bit_and (a * 2 % 2 ^ 64) ((1 * 2 ^ n) % 2 ^ 64 - 1)) word ≡ times_x n c a
unfolding times_x
times_x-masked n c a word h g e =
    let bit : a / 2 ^ (n - 1) % 2 ≡ a * 2 / 2 ^ n % 2 = ap (λ x. x % 2) (sym (out_is_top n a h)) in
    ap₂ bit_xor (shift_masked n a g) (e ∙ mask_product (a / 2 ^ (n - 1) % 2) c (omega arith) ∙ ap (λ x. x * c) bit)

-- ---- at degree k + 1

pub times_x-is : (k c a : ℕ) → times_x (suc k) c a ≡ bit_xor (a % 2 ^ k * 2) (a / 2 ^ k % 2 * c)
unfolding times_x
times_x-is k c a = ap₂ (λ x y. bit_xor x (y % 2 * c)) (shifted_low k a) (shifted_out k a)

term_lt : (o c m : ℕ) → o < 2 → c < m → o * c < m
term_lt zero c m h g = subst (λ x. x < m) (sym (zero-mul c)) (omega arith)
term_lt (suc zero) c m h g = subst (λ x. x < m) (sym (one-mul c)) g
term_lt (suc (suc o)) c m h g = absurd (omega arith)

pub times_x-lt : (k c a : ℕ) → c < 2 ^ suc k → times_x (suc k) c a < 2 ^ suc k
times_x-lt k c a h =
    let P : ℕ → Type 0 = λ x. x < 2 ^ suc k in
    subst P (sym (times_x-is k c a))
    (xor_lt (suc k) (a % 2 ^ k * 2) (a / 2 ^ k % 2 * c) (omega (arith, mod-lt a (pow_pos k), pow-suc 2 k)) (term_lt (a / 2 ^ k % 2) c (2 ^ suc k) (omega arith) h))

pub times_x-zero : (k c : ℕ) → times_x (suc k) c 0 ≡ 0
times_x-zero k c =
    times_x-is k c 0
    ∙ ap₂ (λ x y. bit_xor (x * 2) (y % 2 * c)) (mod-eq_of_lt (pow_pos k)) (div-eq_of_lt (pow_pos k)) ∙ zero-mul c

-- where no term goes out
pub times_x-small : (k c a : ℕ) → a < 2 ^ k → times_x (suc k) c a ≡ a * 2
times_x-small k c a h =
    times_x-is k c a ∙ ap₂ (λ x y. bit_xor (x * 2) (y % 2 * c)) (mod-eq_of_lt h) (div-eq_of_lt h)
    ∙ ap (bit_xor (a * 2)) (zero-mul c) ∙ xor_zero_r (a * 2)

-- the term x^k becomes the rest of g
pub times_x-top : (k c : ℕ) → times_x (suc k) c (2 ^ k) ≡ c
times_x-top k c =
    times_x-is k c (2 ^ k) ∙ ap₂ (λ x y. bit_xor (x * 2) (y % 2 * c)) (mod_self (2 ^ k)) (div_self (pow_pos k)) ∙ one-mul c

-- ---- the step keeps polynomials apart where g has a constant term: x has an inverse

term_low : (o c : ℕ) → o < 2 → c % 2 ≡ 1 → o * c % 2 ≡ o
term_low zero c h g = ap (λ x. x % 2) (zero-mul c)
term_low (suc zero) c h g = ap (λ x. x % 2) (one-mul c) ∙ g
term_low (suc (suc o)) c h g = absurd (omega arith)

-- the constant term of x * a is the term that went out
low_is_top : (k c a : ℕ) → c % 2 ≡ 1 → times_x (suc k) c a % 2 ≡ a / 2 ^ k % 2
low_is_top k c a odd =
    let t = term_low (a / 2 ^ k % 2) c (omega arith) odd in
    ap (λ x. x % 2) (times_x-is k c a) ∙ xor_mod (a % 2 ^ k * 2) (a / 2 ^ k % 2 * c) 1
    ∙ xor_digit (a % 2 ^ k * 2 % 2) (a / 2 ^ k % 2 * c % 2) (omega arith) (omega arith) ∙ omega arith

pub times_x-apart : (k c a b : ℕ) → c % 2 ≡ 1 → a < 2 ^ suc k → b < 2 ^ suc k → times_x (suc k) c a ≡ times_x (suc k) c b → a ≡ b
times_x-apart k c a b odd ha hb e =
    let tops : a / 2 ^ k % 2 ≡ b / 2 ^ k % 2 = sym (low_is_top k c a odd) ∙ ap (λ x. x % 2) e ∙ low_is_top k c b odd in
    let sums : bit_xor (a / 2 ^ k % 2 * c) (a % 2 ^ k * 2) ≡ bit_xor (a / 2 ^ k % 2 * c) (b % 2 ^ k * 2) =
    xor_comm (a / 2 ^ k % 2 * c) (a % 2 ^ k * 2) ∙ sym (times_x-is k c a) ∙ e ∙ times_x-is k c b
    ∙ ap (λ t. bit_xor (b % 2 ^ k * 2) (t * c)) (sym tops) ∙ xor_comm (b % 2 ^ k * 2) (a / 2 ^ k % 2 * c) in
    let twice : a % 2 ^ k * 2 ≡ b % 2 ^ k * 2 = xor_cancel (a / 2 ^ k % 2 * c) (a % 2 ^ k * 2) (b % 2 ^ k * 2) sums in
    let low : a % 2 ^ k ≡ b % 2 ^ k = omega arith in
    let a2 : a / 2 ^ k < 2 = shr_lt 1 k (subst (λ n. a < 2 ^ n) (sym (one-add k)) ha) in
    let b2 : b / 2 ^ k < 2 = shr_lt 1 k (subst (λ n. b < 2 ^ n) (sym (one-add k)) hb) in
    let high : a / 2 ^ k ≡ b / 2 ^ k = omega arith in
    sym (split a k) ∙ ap₂ (λ x y. x * 2 ^ k + y) high low ∙ split b k

-- ---- the step is linear

terms_xor : (u v c : ℕ) → u < 2 → v < 2 → bit_xor u v * c ≡ bit_xor (u * c) (v * c)
terms_xor zero v c hu hv = sym (ap (λ x. bit_xor x (v * c)) (zero-mul c))
terms_xor (suc zero) zero c hu hv = sym (ap (bit_xor (1 * c)) (zero-mul c) ∙ xor_zero_r (1 * c))
terms_xor (suc zero) (suc zero) c hu hv = zero-mul c ∙ sym (xor_self (1 * c))
terms_xor (suc zero) (suc (suc v)) c hu hv = absurd (omega arith)
terms_xor (suc (suc u)) v c hu hv = absurd (omega arith)

pub xor_swap : (a b c d : ℕ) → bit_xor (bit_xor a b) (bit_xor c d) ≡ bit_xor (bit_xor a c) (bit_xor b d)
xor_swap a b c d =
    xor_assoc a b (bit_xor c d) ∙ ap (bit_xor a) (sym (xor_assoc b c d) ∙ ap (λ x. bit_xor x d) (xor_comm b c) ∙ xor_assoc c b d)
    ∙ sym (xor_assoc a c (bit_xor b d))

pub times_x-xor : (k c a b : ℕ) → times_x (suc k) c (bit_xor a b) ≡ bit_xor (times_x (suc k) c a) (times_x (suc k) c b)
times_x-xor k c a b =
    times_x-is k c (bit_xor a b)
    ∙ ap₂ (λ x y. bit_xor (x * 2) (y * c)) (xor_mod a b k) (ap (λ x. x % 2) (xor_shr a b k) ∙ xor_mod (a / 2 ^ k) (b / 2 ^ k) 1)
    ∙ ap₂ bit_xor (sym (xor_twice (a % 2 ^ k) (b % 2 ^ k))) (terms_xor (a / 2 ^ k % 2) (b / 2 ^ k % 2) c (omega arith) (omega arith))
    ∙ xor_swap (a % 2 ^ k * 2) (b % 2 ^ k * 2) (a / 2 ^ k % 2 * c) (b / 2 ^ k % 2 * c)
    ∙ ap₂ bit_xor (sym (times_x-is k c a)) (sym (times_x-is k c b))

-- ---- the parity of the number of terms

ones_term : (o c : ℕ) → o < 2 → count_ones c % 2 ≡ 1 → count_ones (o * c) % 2 ≡ o
ones_term zero c h odd = ap (λ x. count_ones x % 2) (zero-mul c) ∙ ap (λ x. x % 2) ones_zero
ones_term (suc zero) c h odd = ap (λ x. count_ones x % 2) (one-mul c) ∙ odd
ones_term (suc (suc o)) c h odd = absurd (omega arith)

-- where g has an even number of terms, x * a mod g has an odd number of them just where a has
pub times_x-parity : (k c a : ℕ) → count_ones c % 2 ≡ 1 → a < 2 ^ suc k → count_ones (times_x (suc k) c a) % 2 ≡ count_ones a % 2
times_x-parity k c a odd h =
    let low : ℕ = a % 2 ^ k in
    let high : ℕ = a / 2 ^ k in
    let top : high < 2 = shr_lt 1 k (subst (λ n. a < 2 ^ n) (sym (one-add k)) h) in
    let count : count_ones a ≡ high + count_ones low =
    ap count_ones (sym (split a k)) ∙ ones_cat k high low (mod-lt a (pow_pos k)) ∙ ap (λ x. x + count_ones low) (ones_digit high top) in
    omega (arith, ap count_ones (times_x-is k c a), ones_xor (low * 2) (high % 2 * c), ones_twice low, ones_term (high % 2) c (omega arith) odd, count)
