-- What the bytes of a text keep true, one after another.
use Rattle.std.proofs.Common.{◌≡◌, ◌%◌, take}
use lib.Count.{ones}
use Rattle.bits.specs.Bits.{bits, weight}
use Rattle.parity.proofs.ones.text_parity.Given as goal

-- the ⊕ of the bytes so far is as odd as they are together
abbrev pub invariant-loop-byte : goal.invariant-loop-byte
invariant-loop-byte l = ones l.folded % 2 ≡ weight (bits (take l.byte-index l.whole)) % 2
