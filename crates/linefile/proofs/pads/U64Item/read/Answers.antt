use Rattle.std.proofs.Common.{refl}
use Rattle.linefile.specs.File.{any, pad_word}
use Rattle.linefile.proofs.Bytes.{be8, numbered}
use Rattle.linefile.proofs.Stages.{passed_on, value_past, value_cut}
use Rattle.linefile.proofs.pads.U64Item.read.Goals as goal

pub returns-in_err-take : goal.returns-in_err-take
unfolding pad_word
returns-in_err-take c = passed_on _ _ _ _ c.from_residual.ensures.1 (value_cut any c.in_err-take.ensures)

pub returns : goal.returns
unfolding pad_word
returns c = let t = c.in_ok-take.ensures in value_past any t (numbered t (be8 _) c.from_be_bytes.ensures) refl
