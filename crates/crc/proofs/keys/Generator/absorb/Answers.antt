-- A byte taken in leaves the completed digest as it was.
use Rattle.std.proofs.Common.{◌≡◌, ℕ, ◌+◌, ◌-◌, ◌/◌, ◌%◌, ◌^◌, ◌≤◌, cond, eqb, ◌⊎◌, ◌++◌, ap, ◌∙◌, ap₂, inl, inr, ⊎_elim, arith}
use lib.Bits.{bit_xor}
use Rattle.std.proofs.lemmas.Bool.{cases_lt}
use Rattle.bits.specs.Bits.{bits_of}
use Rattle.crc.specs.Horner.{completed}
use Rattle.crc.proofs.Digests.{place-completed, byte_completed}
use Rattle.crc.proofs.keys.Generator.absorb.Goals as goal

pub loop-place-preserved : goal.loop-place-preserved
loop-place-preserved c rest =
    let raw = c.args.self.now.raw in
    let l = c.loop-place in
    let p : ℕ = l.place in
    let byte : ℕ = c.args.byte in
    let word : c.under_mask.result ≡ cond (eqb (byte / 2 ^ (7 - p) % 2) 1) raw.coefficients 0 =
    c.under_mask.ensures ∙ ap (λ y. cond (eqb (y % 2) 1) raw.coefficients 0) c.from-bit.ensures in
    let fewer : c.args.left - (p + 1) ≡ c.args.left - p - 1 = omega arith in
    ap₂ (λ x y. completed raw.degree raw.coefficients (bit_xor x c.under_mask.result) y (bits_of (8 - (p + 1)) byte ++ rest)) c.times_x.ensures fewer
    ∙ place-completed raw.degree raw.coefficients byte p (c.args.left - p) l.digest c.under_mask.result rest
    (omega arith) (omega arith) (omega arith) word
    ∙ l.invariant rest

pub returns : goal.returns
returns c rest =
    let raw = c.args.self.now.raw in
    let l = c.loop-place in
    let end : (c.args.left ≤ l.place) ⊎ (8 ≤ l.place) = ⊎_elim (λ h. inl (omega arith)) (λ h. inr (omega arith)) (cases_lt c.args.left 8) in
    byte_completed raw.degree raw.coefficients c.args.byte l.digest c.args.left l.place rest (omega arith) (omega arith) end
    ∙ l.invariant rest
