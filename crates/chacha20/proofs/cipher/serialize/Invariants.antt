-- After i turns the bytes of the first i words stand in front.
use Rattle.std.proofs.Common.{◌≡◌, length, replicate}
use Rattle.chacha20.proofs.Serializing.{written}
use Rattle.chacha20.proofs.cipher.serialize.Given as goal

abbrev pub invariant-loop-i : goal.invariant-loop-i
invariant-loop-i l = (l.out ≡ written l.i l.state (replicate 64 0)) × (length l.out ≡ 64)
