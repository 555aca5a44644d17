-- `new`: what `check_form` asked, and that the reversed coefficients are the taps.
use Rattle.std.proofs.Common.{◌/◌, ◌^◌, ◌-◌, ap, ◌∙◌, arith}
use Rattle.lfsr.proofs.Taps.{taps_are}
use Rattle.lfsr.proofs.register.Register.new.Goals as goal

pub invariant_of-result : goal.invariant_of-result
invariant_of-result c =
    let raw = c.args.raw in
    let yes = c.in_ok-check_form.ensures.0 in
    record {
      formed = yes.0;
      odd = yes.1.1.0;
      started = yes.1.1.1.0;
      reached = yes.1.1.1.1.0;
      tapped = ap (λ x. x / 2 ^ (64 - raw.degree)) c.reverse_bits.ensures ∙ taps_are raw.degree raw.coefficients (omega arith);
    }
