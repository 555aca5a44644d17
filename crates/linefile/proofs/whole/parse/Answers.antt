use Rattle.std.proofs.Common.{rules}
use Rattle.std.proofs.lemmas.Bool.{eqb-true, eqb-false}
use Rattle.linefile.proofs.Stages.{passed_on}
use Rattle.linefile.proofs.WholeFile.{key-faulty, pads-faulty, frames_faulty, trailing, finished}
use Rattle.linefile.proofs.whole.parse.Goals as goal

pub returns-in_err-key : goal.returns-in_err-key
returns-in_err-key c =
    passed_on _ _ _ _ c.from_residual.ensures.1 (key-faulty c.args.file.now _ c.in_err-key.ensures)

pub returns-in_err-fill : goal.returns-in_err-fill
returns-in_err-fill c =
    passed_on _ _ _ _ c.from_residual-in_err-fill.ensures.1 (pads-faulty c.args.file.now _ c.in_ok-key.ensures c.in_err-fill.ensures)

pub returns-in_err-frames : goal.returns-in_err-frames
returns-in_err-frames c =
    passed_on _ _ _ _ c.from_residual-in_err-frames.ensures.1 (frames_faulty c.args.file.now _ c.in_ok-key.ensures c.in_ok-fill.ensures c.in_err-frames.ensures)

pub returns-then-not-ends : goal.returns-then-not-ends
returns-then-not-ends c =
    rw c.at.ensures (trailing c.args.file.now c.in_ok-key.ensures c.in_ok-fill.ensures c.in_ok-frames.ensures (eqb-false _ 0 (search rules)))

pub returns : goal.returns
returns c = finished c.args.file.now c.in_ok-key.ensures c.in_ok-fill.ensures c.in_ok-frames.ensures (eqb-true _ 0 (search rules))
