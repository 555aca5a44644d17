-- The powers of x are what they are called: remainders of polynomial division.
use Rattle.std.proofs.Common.{◌≡◌, ℕ, zero, suc, ◌+◌, ◌*◌, ◌/◌, ◌%◌, ◌^◌, ◌<◌, ◌≤◌, sym, refl, ap, ◌∙◌, subst, ap₂, mod-lt, mul_assoc, one-mul, pow-suc, zero-mul, one-add, arith, pow_pos, shr_lt}
use lib.Bits.{bit_xor, xor_assoc, xor_comm, xor_self, xor_shifted}
use lib.Pow.{split}
use Rattle.bits.proofs.Shifts.{xor_twice}
use Rattle.family.proofs.OrbitColumns.{iterate_suc, iterate_stays}
use Rattle.crc.specs.Polynomials.{clmul, clmul_terms}
use Rattle.crc.specs.Powers.{times_x, power, PowersAreRemainders}
use Rattle.crc.specs.TimesX.{times_x-is, times_x-lt, xor_swap}

-- ---- products

terms_none : (terms b : ℕ) → clmul_terms terms 0 b ≡ 0
unfolding clmul_terms
terms_none zero b = refl
terms_none (suc terms) b = ap₂ (λ x y. bit_xor x (y * 2)) (zero-mul b) (terms_none terms b)

-- any count that a number has not more terms than gives the product
terms_enough : (j k a b : ℕ) → a ≤ j → a ≤ k → clmul_terms j a b ≡ clmul_terms k a b
unfolding clmul_terms
terms_enough zero k a b hj hk = let z : a ≡ 0 = omega arith in sym (ap (λ x. clmul_terms k x b) z ∙ terms_none k b)
terms_enough (suc j) zero a b hj hk = let z : a ≡ 0 = omega arith in ap (λ x. clmul_terms (suc j) x b) z ∙ terms_none (suc j) b
terms_enough (suc j) (suc k) a b hj hk = ap (λ x. bit_xor (a % 2 * b) (x * 2)) (terms_enough j k (a / 2) b (omega arith) (omega arith))

-- a multiple of g times x, with or without g once more
clmul-more : (q t g : ℕ) → t < 2 → clmul (q * 2 + t) g ≡ bit_xor (t * g) (clmul q g * 2)
unfolding clmul_terms
clmul-more q t g h =
    let a : ℕ = q * 2 + t in
    let half : a / 2 ≡ q = omega arith in
    let rest : a % 2 ≡ t = omega arith in
    terms_enough a (suc a) a g (omega arith) (omega arith)
    ∙ ap₂ (λ x y. bit_xor (x * g) (y * 2)) rest (ap (λ x. clmul_terms a x g) half ∙ terms_enough a q q g (omega arith) (omega arith))

-- ---- one step of the division

term_split : (t m c : ℕ) → t < 2 → bit_xor m c ≡ m + c → t * (m + c) ≡ bit_xor (t * m) (t * c)
term_split zero m c h e = zero-mul (m + c) ∙ sym (ap₂ bit_xor (zero-mul m) (zero-mul c))
term_split (suc zero) m c h e = one-mul (m + c) ∙ sym e ∙ sym (ap₂ bit_xor (one-mul m) (one-mul c))
term_split (suc (suc t)) m c h e = absurd (omega arith)

-- x * r is x * r mod g, plus g where a term goes out
step-divides : (k c r : ℕ) → c < 2 ^ suc k → r < 2 ^ suc k → r * 2 ≡ bit_xor (r / 2 ^ k * (2 ^ suc k + c)) (times_x (suc k) c r)
step-divides k c r hc hr =
    let t : ℕ = r / 2 ^ k in
    let low : ℕ = r % 2 ^ k * 2 in
    let top : t < 2 = shr_lt 1 k (subst (λ n. r < 2 ^ n) (sym (one-add k)) hr) in
    let same : t % 2 ≡ t = omega arith in
    let small : low < 2 ^ suc k = omega (arith, mod-lt r (pow_pos k), pow-suc 2 k) in
    let one : bit_xor (2 ^ suc k) c ≡ 2 ^ suc k + c =
    ap (λ x. bit_xor x c) (sym (one-mul (2 ^ suc k))) ∙ xor_shifted 1 (suc k) c hc ∙ ap (λ x. x + c) (one-mul (2 ^ suc k)) in
    let twice : t * 2 ^ suc k ≡ t * 2 ^ k * 2 = ap (λ x. t * x) (pow-suc 2 k) ∙ sym (mul_assoc t (2 ^ k) 2) in
    let sum : r * 2 ≡ t * 2 ^ suc k + low = ap (λ x. x * 2) (sym (split r k)) ∙ omega arith in
    sum ∙ sym (xor_shifted t (suc k) low small)
    ∙ sym
    (ap₂ bit_xor (term_split t (2 ^ suc k) c top one ∙ xor_comm (t * 2 ^ suc k) (t * c)) (times_x-is k c r ∙ ap (λ x. bit_xor low (x * c)) same ∙ xor_comm low (t * c))
    ∙ xor_swap (t * c) (t * 2 ^ suc k) (t * c) low
    ∙ ap (λ x. bit_xor x (bit_xor (t * 2 ^ suc k) low)) (xor_self (t * c)))

pub powers_are_remainders : PowersAreRemainders
unfolding clmul_terms
powers_are_remainders zero c j h small = absurd (omega arith)
powers_are_remainders (suc k) c j h small = (divides j, below j)
  where
    below : (j : ℕ) → power (suc k) c j < 2 ^ suc k
    below j = iterate_stays (times_x (suc k) c) (suc k) (λ a l. times_x-lt k c a small) j 1 (omega (arith, pow-suc 2 k, pow_pos k))

    divides : (j : ℕ) → (q : ℕ) × (2 ^ j ≡ bit_xor (clmul q (2 ^ suc k + c)) (power (suc k) c j))
    divides zero = (0, refl)
    divides (suc j) =
        let before = divides j in
        let q = before.0 in
        let r = power (suc k) c j in
        let g = 2 ^ suc k + c in
        let t : ℕ = r / 2 ^ k in
        let top : t < 2 = shr_lt 1 k (subst (λ n. r < 2 ^ n) (sym (one-add k)) (below j)) in (
          q * 2 + t,
          pow-suc 2 j ∙ ap (λ x. x * 2) before.1 ∙ sym (xor_twice (clmul q g) r)
              ∙ ap (bit_xor (clmul q g * 2)) (step-divides k c r small (below j))
              ∙ sym (xor_assoc (clmul q g * 2) (t * g) (times_x (suc k) c r))
              ∙ ap₂ bit_xor (xor_comm (clmul q g * 2) (t * g) ∙ sym (clmul-more q t g top)) (sym (iterate_suc (times_x (suc k) c) j 1)),
        )
