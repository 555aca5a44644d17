-- What the bytes of a text keep true, one after another.
use Rattle.std.proofs.Common.{◌≡◌, ◌-◌, ◌*◌, ◌≤◌, length, drop}
use Rattle.bits.specs.Bits.{bits}
use Rattle.bits.specs.Columns.{picked}
use Rattle.crc.specs.Horner.{completed}
use Rattle.crc.specs.Powers.{crc_columns}
use Rattle.crc.proofs.keys.Generator.digest.Given as goal

-- the bytes to come complete the digest
abbrev pub invariant-loop-byte : goal.invariant-loop-byte
invariant-loop-byte l =
    let n = l.self.raw.degree in
    let c = l.self.raw.coefficients in
    (l.byte-index ≤ length l.text)
    × (l.left ≡ l.m - 8 * l.byte-index)
    × (completed n c l.digest l.left (bits (drop l.byte-index l.text)) ≡ picked (bits l.text) (crc_columns n c l.m))
