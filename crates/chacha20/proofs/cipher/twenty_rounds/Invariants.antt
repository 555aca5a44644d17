-- After i turns the state has gone through i double rounds.
use Rattle.std.proofs.Common.{◌≡◌}
use Rattle.chacha20.specs.Block.{double_rounds}
use Rattle.chacha20.proofs.cipher.twenty_rounds.Given as goal

abbrev pub invariant-loop-i : goal.invariant-loop-i
invariant-loop-i l = l.state ≡ double_rounds l._i l.initial.state
