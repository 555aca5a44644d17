-- After i turns the first i words are sums.
use Rattle.std.proofs.Common.{◌≡◌}
use Rattle.chacha20.proofs.Sums.{summed}
use Rattle.chacha20.proofs.cipher.add_words.Given as goal

abbrev pub invariant-loop-i : goal.invariant-loop-i
invariant-loop-i l = l.state ≡ summed l.i l.initial.state l.fn.initial
