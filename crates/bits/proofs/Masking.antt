-- A mask made of one bit.
use Rattle.std.proofs.Common.{◌≡◌, ℕ, zero, suc, ◌+◌, ◌-◌, ◌%◌, ◌^◌, ◌<◌, cond, eqb, ap, ◌∙◌, mod-eq_of_lt, arith}
use lib.Bits.{bit_and, and_mask, and_zero_r}

-- the mask w of a bit b has all ones where b is one, and none where it is not
pub masked : (a b w : ℕ) → a < 2 ^ 64 → b < 2 → w < 2 ^ 64 → (w + b) % 2 ^ 64 ≡ 0 → bit_and a w ≡ cond (eqb b 1) a 0
masked a zero w ha hb hw e = let z : w ≡ 0 = omega arith in ap (bit_and a) z ∙ and_zero_r a
masked a (suc zero) w ha hb hw e = let f : w ≡ 2 ^ 64 - 1 = omega arith in ap (bit_and a) f ∙ and_mask a 64 ∙ mod-eq_of_lt ha
masked a (suc (suc b)) w ha hb hw e = absurd (omega arith)
