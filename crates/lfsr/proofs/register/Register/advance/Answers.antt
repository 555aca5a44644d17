-- `advance`: shift, mask and the parity of the tapped bits give the step.
use Rattle.std.proofs.Common.{◌≡◌, ℕ, ◌-◌, ◌*◌, ◌%◌, ◌^◌, ◌<◌, ◌≤◌, sym, ap, ◌∙◌, subst, arith}
use lib.Bits.{bit_and, bit_or, and_mask}
use lib.Count.{ones}
use Rattle.bits.specs.Bits.{bits_of}
use Rattle.lfsr.specs.Register.{feedback, step}
use Rattle.lfsr.specs.Stepping.{step-below, step-bits}
use Rattle.lfsr.proofs.Taps.{feedback-taps, step-by_mask}
use Rattle.lfsr.proofs.register.Register.advance.Goals as goal

pub returns : goal.returns
returns c =
    let self = c.args.self.now in
    let s = c.args.state in
    let n = self.raw.degree in
    let k = self.raw.coefficients in
    let some : 1 ≤ n = omega arith in
    let fresh : c.from.result ≡ feedback n k s =
    c.from.ensures ∙ and_mask (ones (bit_and s self.taps)) 1 ∙ ap (λ t. ones (bit_and s t) % 2) self.tapped ∙ feedback-taps n k s in
    let is : bit_or (bit_and (s * 2 % 2 ^ 64) ((1 * 2 ^ n) % 2 ^ 64 - 1)) c.from.result ≡ step n k s =
    ap (bit_or (bit_and (s * 2 % 2 ^ 64) ((1 * 2 ^ n) % 2 ^ 64 - 1))) fresh ∙ step-by_mask n k s some self.formed.1 in
    let P : ℕ → Type 0 = λ x. x < 2 ^ n in
    record { value = is; within = subst P (sym is) (step-below n k s some); shifts = ap (bits_of n) is ∙ step-bits n k s some }
