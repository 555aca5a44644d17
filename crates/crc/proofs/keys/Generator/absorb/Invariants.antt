-- What the bits of a byte keep true, one after another.
use Rattle.std.proofs.Common.{◌≡◌, ◌-◌, Bool, List, ◌++◌}
use Rattle.bits.specs.Bits.{bits_of}
use Rattle.crc.specs.Horner.{completed}
use Rattle.crc.proofs.keys.Generator.absorb.Given as goal

-- what is left of the byte, and what comes after it, completes the digest
abbrev pub invariant-loop-place : goal.invariant-loop-place
invariant-loop-place l =
    let n = l.self.raw.degree in
    let c = l.self.raw.coefficients in
    (rest : List Bool)
    → completed n c l.digest (l.left - l.place) (bits_of (8 - l.place) l.byte ++ rest) ≡ completed n c l.initial.digest l.left (bits_of 8 l.byte ++ rest)
