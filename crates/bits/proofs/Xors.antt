-- Exclusive-or, and the parity of the number of ones.
use Rattle.std.proofs.Common.{◌≡◌, ℕ, zero, suc, ◌+◌, ◌/◌, ◌%◌, ◌<◌, sym, refl, ap, ◌∙◌, arith}
use lib.Arith.{bin_ind}
use lib.Bits.{bit_xor, xor_assoc, xor_self, xor_shr, xor_mod}
use lib.Count.{ones, ones_in, ones_step}

pub xor_cancel : (a b c : ℕ) → bit_xor a b ≡ bit_xor a c → b ≡ c
xor_cancel a b c e =
    ap (λ x. bit_xor x b) (sym (xor_self a)) ∙ xor_assoc a a b ∙ ap (bit_xor a) e ∙ sym (xor_assoc a a c)
    ∙ ap (λ x. bit_xor x c) (xor_self a)

pub same_from_xor : (a b : ℕ) → bit_xor a b ≡ 0 → a ≡ b
same_from_xor a b e = sym (xor_cancel a b a (e ∙ sym (xor_self a)))

-- on single bits ⊕ is the sum without its carry
pub xor_digit : (x y : ℕ) → x < 2 → y < 2 → bit_xor x y ≡ (x + y) % 2
xor_digit zero zero hx hy = refl
xor_digit zero (suc zero) hx hy = refl
xor_digit (suc zero) zero hx hy = refl
xor_digit (suc zero) (suc zero) hx hy = refl
xor_digit zero (suc (suc y)) hx hy = absurd (omega arith)
xor_digit (suc zero) (suc (suc y)) hx hy = absurd (omega arith)
xor_digit (suc (suc x)) y hx hy = absurd (omega arith)

pub ones_zero : ones 0 ≡ 0
unfolding ones ones_in
ones_zero = refl

pub ones_one : ones 1 ≡ 1
unfolding ones ones_in
ones_one = refl

pub ones_digit : (x : ℕ) → x < 2 → ones x ≡ x
ones_digit zero h = ones_zero
ones_digit (suc zero) h = ones_one
ones_digit (suc (suc x)) h = absurd (omega arith)

pub zero_from_ones : (a : ℕ) → ones a ≡ 0 → a ≡ 0
zero_from_ones = bin_ind (λ n. ones n ≡ 0 → n ≡ 0) (λ e. refl)
    (λ n ih e. let half : n / 2 ≡ 0 = ih (omega (arith, ones_step n)) in omega (arith, ones_step n))

-- the ones of a ⊕ b are as odd as those of a and of b together
pub ones_xor : (a b : ℕ) → ones (bit_xor a b) % 2 ≡ (ones a + ones b) % 2
ones_xor =
    bin_ind (λ n. (b : ℕ) → ones (bit_xor n b) % 2 ≡ (ones n + ones b) % 2) (λ b. omega (arith, ones_zero))
    (λ n ih b.
    let low : bit_xor n b % 2 ≡ (n % 2 + b % 2) % 2 = xor_mod n b 1 ∙ xor_digit (n % 2) (b % 2) (omega arith) (omega arith) in
    let rest : ones (bit_xor n b / 2) ≡ ones (bit_xor (n / 2) (b / 2)) = ap ones (xor_shr n b 1) in
    omega (arith, low, rest, ih (b / 2), ones_step (bit_xor n b), ones_step n, ones_step b))
