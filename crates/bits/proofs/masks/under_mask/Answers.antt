-- `under_mask`: the negated bit is a mask of all ones or of none.
use Rattle.std.proofs.Common.{◌≡◌, ℕ, ◌%◌, ◌<◌, cond, eqb, ap, ◌∙◌, arith}
use lib.Bits.{bit_and, and_mask}
use Rattle.bits.proofs.Masking.{masked}
use Rattle.bits.proofs.masks.under_mask.Goals as goal

pub returns : goal.returns
returns c =
    let word = c.args.word in
    let bit : ℕ = bit_and c.args.bits 1 in
    let is : bit ≡ c.args.bits % 2 = and_mask c.args.bits 1 in
    let small : bit < 2 = omega arith in
    masked word bit c.wrapping_neg.result (omega arith) small (omega arith) c.wrapping_neg.ensures ∙ ap (λ x. cond (eqb x 1) word 0) is
