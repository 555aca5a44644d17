-- `with_even_ones`: the shifted state and the parity of its ones stand side by side.
use Rattle.std.proofs.Common.{◌≡◌, ◌*◌, ◌%◌, ◌^◌, ◌<◌, ap, ◌∙◌, ap₂, mod-eq_of_lt, arith}
use lib.Bits.{bit_or, and_mask, or_shifted}
use lib.Count.{ones}
use Rattle.lfsr.specs.Keys.{evened}
use Rattle.lfsr.specs.EvenOnes.{even_ones}
use Rattle.lfsr.proofs.evening.with_even_ones.Goals as goal

pub returns : goal.returns
unfolding evened
returns c =
    let s = c.args.state in
    let small : s * 2 < 2 ^ 64 = omega arith in
    let is : bit_or (s * 2 % 2 ^ 64) c.from.result ≡ evened s =
    ap₂ bit_or (mod-eq_of_lt small) (c.from.ensures ∙ and_mask (ones s) 1) ∙ or_shifted s 1 (ones s % 2) (omega arith) in
    record { value = is; even = ap (λ x. ones x % 2) is ∙ even_ones s }
