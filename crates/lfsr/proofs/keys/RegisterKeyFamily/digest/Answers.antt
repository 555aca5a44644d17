-- The column of the digest of states is the digest of their columns.
use Rattle.std.proofs.Common.{ℕ, ◌^◌, ◌<◌, ◌≤◌, sym, ap, ◌∙◌, subst, lt_of_lt_of_le, arith, pow_mono}
use Rattle.bits.specs.Bits.{bits}
use Rattle.bits.specs.Columns.{picked}
use Rattle.bits.proofs.Picks.{picked-lt}
use Rattle.family.specs.Admission.{text_questions}
use Rattle.family.specs.Questions.{AllYes}
use Rattle.family.proofs.OrbitColumns.{orbit_below}
use Rattle.lfsr.specs.ColumnsOfStates.{picked-column}
use Rattle.lfsr.specs.Keys.{states}
use Rattle.lfsr.specs.Register.{step}
use Rattle.lfsr.specs.Stepping.{step-below}
use Rattle.lfsr.proofs.keys.RegisterKeyFamily.digest.Goals as goal

pub column-requires : goal.column-requires
column-requires g c =
    let register = c.args.self.now.register in
    let n = register.raw.degree in
    let k = register.raw.coefficients in
    let some : 1 ≤ n = omega arith in
    let low = picked-lt n (bits c.args.text.now) (states register.raw c.args.m) (orbit_below (step n k) n (λ a _. step-below n k a some) c.args.m register.raw.state register.started.1) in
    let P : ℕ → Type 0 = λ x. x < 2 ^ 63 in
    subst P (sym c.digest.ensures) (lt_of_lt_of_le low (pow_mono register.formed.1))

pub returns : goal.returns
returns g c =
    let raw = c.args.self.now.register.raw in
    let laws = g.C.Column.laws in
    let text = bits c.args.text.now in (
      subst (λ n. AllYes (text_questions n c.args.m c.args.text.now)) (sym (laws.reach raw)) c.in_ok-check_text.ensures.0,
      c.column.ensures ∙ ap g.C.Column.column c.digest.ensures ∙ sym (picked-column g.C.Column.column laws.of_zero laws.of_xor text (states raw c.args.m))
          ∙ sym (ap (picked text) (laws.columns raw c.args.m)),
    )
