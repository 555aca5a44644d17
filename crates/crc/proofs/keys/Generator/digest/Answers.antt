-- With all bytes taken in, the digest is complete.
use Rattle.std.proofs.Common.{arith}
use Rattle.bits.specs.Bits.{bits}
use Rattle.crc.proofs.Digests.{all_completed}
use Rattle.crc.proofs.keys.Generator.digest.Goals as goal

pub loop-byte-init : goal.loop-byte-init
loop-byte-init c =
    let raw = c.args.self.now.raw in
    (omega arith, omega arith, all_completed raw.degree raw.coefficients c.args.m (bits c.args.text.now) (omega arith))
