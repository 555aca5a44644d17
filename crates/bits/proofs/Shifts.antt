-- A number shifted up by one within a width, and a word under the mask of one bit.
use Rattle.std.proofs.Common.{◌≡◌, ℕ, zero, suc, ◌+◌, ◌-◌, ◌*◌, ◌/◌, ◌%◌, ◌^◌, ◌<◌, ◌≤◌, cond, eqb, sym, ap, ◌∙◌, ap₂, one-mul, pow-suc, zero-mul, mul-div_cancel, sub-one, arith, pow_pos}
use native.Mathlib.Nat.{mul-mod_left, mul-div-mul_right}
use lib.Bits.{bit_and, bit_xor, and_mask, xor_block}
use lib.Arith.{mod-mul}
use lib.Count.{ones, ones_cat}
use lib.Pow.{mod-mod-pow}
use Rattle.std.proofs.lemmas.Nat.{one_shl}
use Rattle.bits.proofs.Xors.{ones_zero}

-- what stays below 2 ^ (k + 1), and the bit that goes out
pub shifted_low : (k a : ℕ) → a * 2 % 2 ^ suc k ≡ a % 2 ^ k * 2
shifted_low k a =
    ap (λ m. a * 2 % m) (pow-suc 2 k) ∙ mod-mul (a * 2) (pow_pos k) (omega arith)
    ∙ ap₂ (λ x y. x % 2 ^ k * 2 + y) (mul-div_cancel a (omega arith)) (mul-mod_left a 2) ∙ omega arith

pub shifted_out : (k a : ℕ) → a * 2 / 2 ^ suc k ≡ a / 2 ^ k
shifted_out k a = ap (λ m. a * 2 / m) (pow-suc 2 k) ∙ mul-div-mul_right a (2 ^ k) (omega arith)

-- the same bit at any width from 1
pub out_is_top : (n a : ℕ) → 1 ≤ n → a * 2 / 2 ^ n ≡ a / 2 ^ (n - 1)
out_is_top zero a h = absurd (omega arith)
out_is_top (suc k) a h = shifted_out k a ∙ ap (λ j. a / 2 ^ j) (sym (sub-one (suc k)))

-- `(a << 1) & ((1 << n) - 1)`
pub shift_masked : (n a : ℕ) → n ≤ 63 → bit_and (a * 2 % 2 ^ 64) ((1 * 2 ^ n) % 2 ^ 64 - 1) ≡ a * 2 % 2 ^ n
shift_masked n a h =
    let sum : 64 ≡ (64 - n) + n = omega arith in
    ap (λ x. bit_and (a * 2 % 2 ^ 64) (x - 1)) (one_shl n 64 (omega arith)) ∙ and_mask (a * 2 % 2 ^ 64) n
    ∙ ap (λ w. a * 2 % 2 ^ w % 2 ^ n) sum ∙ mod-mod-pow (a * 2) (64 - n) n

pub xor_twice : (a b : ℕ) → bit_xor (a * 2) (b * 2) ≡ bit_xor a b * 2
xor_twice a b =
    let ea : a * 2 ≡ a * 2 ^ 1 + 0 = omega arith in
    let eb : b * 2 ≡ b * 2 ^ 1 + 0 = omega arith in
    ap₂ bit_xor ea eb ∙ xor_block 1 a b 0 0 (omega arith) (omega arith) ∙ omega arith

pub ones_twice : (a : ℕ) → ones (a * 2) ≡ ones a
ones_twice a = let e : a * 2 ≡ a * 2 ^ 1 + 0 = omega arith in ap ones e ∙ ones_cat 1 a 0 (omega arith) ∙ omega (arith, ones_zero)

-- a word under the mask of a bit is the product with the bit
pub mask_product : (b word : ℕ) → b < 2 → cond (eqb b 1) word 0 ≡ b * word
mask_product zero word h = sym (zero-mul word)
mask_product (suc zero) word h = sym (one-mul word)
mask_product (suc (suc b)) word h = absurd (omega arith)
