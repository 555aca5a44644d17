-- `digest`: what its loops keep.
use Rattle.std.proofs.Common.{◌≡◌, ◌+◌, ◌≤◌, ◌++◌, length, drop}
use Rattle.bits.specs.Bits.{bits, bits_of}
use Rattle.bits.specs.Columns.{picked}
use Rattle.family.specs.Stepped.{left_of}
use Rattle.lfsr.specs.declared.register.Register.{Register}
use Rattle.lfsr.specs.Digests.{comes_to}
use Rattle.lfsr.specs.Keys.{states}
use Rattle.lfsr.specs.Register.{step}
use Rattle.lfsr.proofs.digests.digest.Given as goal

-- the bytes that are left still make the digest of the whole text
abbrev pub invariant-loop-byte : goal.invariant-loop-byte
invariant-loop-byte l =
    (l.byte-index ≤ length l.text)
    × (comes_to l.digest (left_of (λ (g : Register). step g.raw.degree g.raw.coefficients) l.states) (bits (drop l.byte-index l.text))
    ≡ picked (bits l.text) (states l.register.raw l.m))

-- and so do the bits that are left of this byte with the bytes after it
abbrev pub invariant-loop-k : goal.invariant-loop-k
invariant-loop-k l =
    comes_to l.digest (left_of (λ (g : Register). step g.raw.degree g.raw.coefficients) l.states) (bits_of l.k l.byte ++ bits (drop (l.byte-index + 1) l.text))
    ≡ picked (bits l.text) (states l.register.raw l.m)
