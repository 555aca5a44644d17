-- A number that is no state's column has no place; any other has its state's.
use Rattle.std.proofs.Common.{ℕ, List, map, sym, ap, ◌∙◌, subst}
use Rattle.bits.specs.Columns.{place}
use Rattle.family.specs.Admission.{length_questions}
use Rattle.family.specs.Questions.{AllYes}
use Rattle.lfsr.specs.Keys.{states}
use Rattle.lfsr.specs.ColumnsOfStates.{place-column, place-no_column}
use Rattle.lfsr.proofs.keys.RegisterKeyFamily.locate.Goals as goal

pub returns-in_default : goal.returns-in_default
returns-in_default g c =
    let raw = c.args.self.now.register.raw in
    let column = g.C.Column.column in (
      subst (λ n. AllYes (length_questions n c.args.m)) (sym (g.C.Column.laws.reach raw)) c.in_ok-check_length.ensures.0,
      sym (ap (place c.args.number) (g.C.Column.laws.columns raw c.args.m)
          ∙ place-no_column column c.args.number c.in_default.ensures (states raw c.args.m)),
    )

pub returns : goal.returns
returns g c =
    let raw = c.args.self.now.register.raw in
    let column = g.C.Column.column in
    let cs : List ℕ = states raw c.args.m in (
      subst (λ n. AllYes (length_questions n c.args.m)) (sym (g.C.Column.laws.reach raw)) c.in_ok-check_length.ensures.0,
      c.find.ensures ∙ sym (place-column column g.C.Column.laws.apart c.in-Some.state cs)
          ∙ ap (λ x. place x (map column cs)) c.in-Some.ensures
          ∙ sym (ap (place c.args.number) (g.C.Column.laws.columns raw c.args.m)),
    )
