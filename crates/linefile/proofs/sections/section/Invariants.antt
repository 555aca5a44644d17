use Rattle.std.proofs.Common.{length}
use Rattle.linefile.proofs.Stages.{Filled}
use Rattle.linefile.proofs.sections.section.Given as goal

abbrev pub invariant-loop-i : goal.invariant-loop-i
invariant-loop-i g l =
    Filled g.T.Item.part g.T.Item.sense l.count l.initial.left.at l.initial.left.bytes.now (length l.initial.kept) l.i l.left.at l.left.bytes.now l.kept
