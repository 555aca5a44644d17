-- `flip_bit`: one byte of the slice changes, in one bit; past the end nothing does.
use Rattle.std.proofs.Common.{◌-◌, ◌/◌, ◌%◌, ◌^◌, ◌<◌, get_or, set, sym, ap, ◌∙◌, arith, rules}
use lib.Bits.{bit_xor}
use Rattle.std.proofs.lemmas.Nat.{one_shl}
use Rattle.std.proofs.ByRecursion.{All-from_get_or}
use Rattle.std.proofs.lemmas.List.{set_past}
use Rattle.bits.specs.Bits.{Bytes, bits}
use Rattle.bits.proofs.Runs.{length-bits, bits-flip, toggle-past}
use Rattle.bits.proofs.places.flip_bit.Goals as goal

pub returns-then-at-bytes : goal.returns-then-at-bytes
returns-then-at-bytes c =
    let bs = c.args.bytes.now in
    let q = c.args.place in
    let fit : Bytes bs = All-from_get_or (λ b. b < 256) bs 0 (λ i h. search rules) in
    let is = ap (λ x. set bs (q / 8) (bit_xor (get_or bs (q / 8) 0) x)) (one_shl (7 - q % 8) 8 (omega arith)) in
    record { bytes = is; bits = ap bits is ∙ bits-flip bs q fit c.if-at-bytes.true }

pub returns-else-at-bytes : goal.returns-else-at-bytes
returns-else-at-bytes c =
    let bs = c.args.bytes.now in
    let q = c.args.place in
    record {
      bytes = sym (set_past bs (q / 8) (bit_xor (get_or bs (q / 8) 0) (2 ^ (7 - q % 8))) c.if-at-bytes.false);
      bits = sym (toggle-past (bits bs) q (omega (arith, length-bits bs)));
    }
