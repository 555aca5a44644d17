-- No double round at the start, and one more with each turn.
use Rattle.std.proofs.Common.{add-one}
use Rattle.chacha20.specs.Block.{double_rounds}
use Rattle.chacha20.proofs.cipher.twenty_rounds.Goals as goal

pub loop-i-init : goal.loop-i-init
unfolding double_rounds
loop-i-init c = cc

pub loop-i-preserved : goal.loop-i-preserved
unfolding double_rounds
loop-i-preserved c = rw add-one (cc)
