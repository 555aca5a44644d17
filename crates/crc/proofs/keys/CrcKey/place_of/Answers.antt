-- The walk back from the last column meets the number at its first place, since no column comes twice.
use Rattle.std.proofs.Common.{sym, ap, ◌∙◌, arith}
use Rattle.bits.specs.Columns.{place}
use Rattle.crc.specs.PowersLemmas.{columns_fewer}
use Rattle.crc.proofs.Locating.{none_back, within_back, place_back}
use Rattle.crc.proofs.keys.CrcKey.place_of.Goals as goal

pub returns-in_err-back : goal.returns-in_err-back
returns-in_err-back c =
    let raw = c.args.self.now.generator.raw in
    c.from_residual.ensures ∙ sym (none_back raw.degree raw.coefficients c.args.m (omega arith) c.args.number (sym (c.in_err-back.ensures ∙ ap (place c.args.number) c.new.ensures)))

pub overflow_sub-result-2 : goal.overflow_sub-result-2
overflow_sub-result-2 c =
    let raw = c.args.self.now.generator.raw in
    let within = within_back raw.degree raw.coefficients c.args.m (omega arith) c.args.number c.in_ok-back.back (sym (c.in_ok-back.ensures ∙ ap (place c.args.number) c.new.ensures)) in
    omega (arith, within)

pub returns : goal.returns
returns c =
    let key = c.args.self.now in
    let raw = key.generator.raw in
    let separate = columns_fewer raw.degree raw.coefficients c.args.m raw.reach (omega arith) c.requires (key.nonzero, key.different) in
    sym (place_back raw.degree raw.coefficients c.args.m (omega arith) c.args.number separate c.in_ok-back.back (sym (c.in_ok-back.ensures ∙ ap (place c.args.number) c.new.ensures)))
