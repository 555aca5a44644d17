use Rattle.std.proofs.Common.{◌∙◌}
use Rattle.linefile.specs.File.{up_to}
use Rattle.linefile.proofs.Bytes.{be2, numbered}
use Rattle.linefile.proofs.Stages.{passed_on, value_past, value_wrong, value_cut, within, beyond}
use Rattle.linefile.proofs.sections.count.Goals as goal

pub returns-in_err-take : goal.returns-in_err-take
returns-in_err-take c = passed_on _ _ _ _ c.from_residual.ensures.1 (value_cut (up_to c.args.most) c.in_err-take.ensures)

pub returns-then-count-most : goal.returns-then-count-most
returns-then-count-most c =
    let t = c.in_ok-take.ensures in
    rw c.at.ensures (value_wrong (up_to c.args.most) t (c.from-count.ensures ∙ numbered t (be2 _) c.from_be_bytes.ensures) (beyond _ _ c.if-count-most.true))

pub returns : goal.returns
returns c =
    let t = c.in_ok-take.ensures in
    (value_past (up_to c.args.most) t (c.from-count.ensures ∙ numbered t (be2 _) c.from_be_bytes.ensures) (within _ _ c.if-count-most.false), c.if-count-most.false)
