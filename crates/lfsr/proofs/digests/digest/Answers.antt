-- `digest`: one bit more, a byte more, and no column left.
use Rattle.std.proofs.Common.{◌≡◌, ℕ, ◌+◌, ◌-◌, ◌/◌, ◌%◌, ◌^◌, cond, eqb, ◌++◌, get_or, drop, ap, ◌∙◌, arith}
use lib.Bits.{bit_xor}
use Rattle.bits.specs.Bits.{bits, bits_of}
use Rattle.family.specs.Stepped.{left_of}
use Rattle.lfsr.specs.declared.register.Register.{Register}
use Rattle.lfsr.specs.Digests.{comes_to}
use Rattle.lfsr.specs.Register.{step}
use Rattle.lfsr.proofs.Absorbing.{bit_absorbed, none_left}
use Rattle.lfsr.proofs.digests.digest.Goals as goal

pub loop-k-preserved : goal.loop-k-preserved
loop-k-preserved c =
    let l = c.loop-k in
    let f = λ (g : Register). step g.raw.degree g.raw.coefficients in
    let byte : ℕ = get_or c.args.text.now c.loop-byte.byte-index 0 in
    let x : ℕ = c.in-Some.state in
    let bit : ℕ = byte / 2 ^ (l.k - 1) in
    let chosen : c.under_mask-digest.result ≡ cond (eqb (bit % 2) 1) x 0 =
    c.under_mask-digest.ensures ∙ ap (λ y. cond (eqb (y % 2) 1) x 0) c.from.ensures in
    bit_absorbed byte l.k l.digest _ x (left_of f l.states) (left_of f c.next.new.self) (bits (drop (c.loop-byte.byte-index + 1) c.args.text.now)) (omega arith)
    c.in-Some.ensures.steps (ap (bit_xor l.digest) chosen)
    ∙ l.invariant

pub loop-byte-preserved : goal.loop-byte-preserved
unfolding bits_of
loop-byte-preserved c =
    let l = c.loop-k in
    let f = λ (g : Register). step g.raw.degree g.raw.coefficients in
    let rest = bits (drop (c.loop-byte.byte-index + 1) c.args.text.now) in
    let byte : ℕ = get_or c.args.text.now c.loop-byte.byte-index 0 in
    let none : 0 ≡ l.k = omega arith in
    (omega arith, ap (λ k. comes_to l.digest (left_of f l.states) (bits_of k byte ++ rest)) none ∙ l.invariant)

pub returns-in_default : goal.returns-in_default
returns-in_default c =
    let l = c.loop-k in
    let f = λ (g : Register). step g.raw.degree g.raw.coefficients in
    let byte : ℕ = get_or c.args.text.now c.loop-byte.byte-index 0 in
    none_left l.digest (left_of f l.states) (bits_of l.k byte ++ bits (drop (c.loop-byte.byte-index + 1) c.args.text.now)) c.in_default.ensures.steps.0
    ∙ l.invariant
