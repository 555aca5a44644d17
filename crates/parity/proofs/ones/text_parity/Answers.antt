-- The folded byte is as odd as the first bits of the text.
use Rattle.std.proofs.Common.{◌≡◌, ℕ, ◌+◌, ◌-◌, ◌*◌, ◌/◌, ◌%◌, ◌^◌, ◌<◌, get_or, take, ap, ◌∙◌, arith, rules}
use lib.Bits.{bit_xor}
use lib.Count.{ones}
use Rattle.std.proofs.lemmas.List.{take_more, take_all}
use Rattle.bits.specs.Bits.{bits, bits_of, weight}
use Rattle.bits.proofs.OnesOfBits.{front_byte, front_weight, weight-push}
use Rattle.bits.proofs.Xors.{ones_xor}
use Rattle.parity.proofs.ones.text_parity.Goals as goal
use Rattle.parity.proofs.ones.text_parity.Goals.{then-m-gt0, else-m-gt0}

pub loop-byte-preserved : goal.loop-byte-preserved
loop-byte-preserved c =
    let whole = take (c.args.m / 8) c.args.text.now in
    let l = c.loop-byte in
    let i : ℕ = l.byte-index in
    let byte : ℕ = get_or whole i 0 in
    let small : byte < 2 ^ 8 = search rules in
    let more : weight (bits (take (i + 1) whole)) ≡ weight (bits (take i whole)) + ones byte =
    ap (λ bs. weight (bits bs)) (take_more whole i 0 c.loop-byte-test.true) ∙ weight-push (take i whole) byte small in
    let inv : ones l.folded % 2 ≡ weight (bits (take i whole)) % 2 = l.invariant in
    omega (arith, ones_xor l.folded byte)

pub returns : goal.returns
returns c =
    let text = c.args.text.now in
    let m : ℕ = c.args.m in
    let q : ℕ = m / 8 in
    let r : ℕ = m % 8 in
    let l = c.loop-byte in
    let inv : ones l.folded % 2 ≡ weight (bits (take l.byte-index (take q text))) % 2 = l.invariant in
    let all : weight (bits (take l.byte-index (take q text))) ≡ weight (bits (take q text)) =
    ap (λ bs. weight (bits bs)) (take_all l.byte-index (take q text) c.loop-byte-test.false) in
    let sum : m ≡ 8 * q + r = omega arith in
    let front : weight (take m (bits text)) ≡ weight (bits (take q text)) + weight (take r (bits_of 8 (get_or text q 0))) =
    ap (λ n. weight (take n (bits text))) sum ∙ front_weight text q r (omega arith) (omega arith) in
    elim c.if-m-gt0.branch [
      | then-m-gt0 w ↦
          let small : get_or text q 0 < 2 ^ 8 = search rules in
          let last : c.if-m-gt0.folded ≡ bit_xor l.folded (get_or text q 0 / 2 ^ (8 - r)) = w.folded-is in
          omega (arith, ap ones last, ones_xor l.folded (get_or text q 0 / 2 ^ (8 - r)), front_byte (get_or text q 0) r small (omega arith))
      | else-m-gt0 w ↦
          let none : r ≡ 0 = omega (arith, w.if-m-gt0.false) in
          omega (arith, ap ones w.folded-is, ap (λ n. weight (take n (bits_of 8 (get_or text q 0)))) none)
    ]
