-- The place below is the layer's, where the number has odd ones.
use Rattle.std.proofs.Common.{◌≤◌, sym, ap, ◌∙◌, arith}
use Rattle.bits.specs.Columns.{place}
use Rattle.family.specs.Meaning.{Meaning}
use Rattle.parity.specs.Layered.{widest_below}
use Rattle.parity.specs.OddedColumns.{place-odd, place-even}
use Rattle.parity.specs.Layers.{layered-narrow, reach_layered}
use Rattle.parity.proofs.layer.ParityFamily.locate.Goals as goal

pub returns-then-number-eq1 : goal.returns-then-number-eq1
returns-then-number-eq1 g c =
    let k = g.F.Family.meaning c.args.self.now.below in
    let m = c.args.m in
    let x = c.args.number in
    let room : k.width ≤ widest_below = omega arith in
    let found = c.in_ok-place.ensures in (
      ((found.0.0.0, reach_layered k m found.0.0.1), tt),
      found.1 ∙ place-odd x (k.columns m) c.if-number-eq1.true ∙ ap (λ (l : Meaning). place x (l.columns m)) (sym (layered-narrow k room)),
    )

pub returns-else-number-eq1 : goal.returns-else-number-eq1
returns-else-number-eq1 g c =
    let k = g.F.Family.meaning c.args.self.now.below in
    let m = c.args.m in
    let x = c.args.number in
    let room : k.width ≤ widest_below = omega arith in
    let found = c.in_ok-place.ensures in (
      ((found.0.0.0, reach_layered k m found.0.0.1), tt),
      place-even x (k.columns m) c.if-number-eq1.false ∙ ap (λ (l : Meaning). place x (l.columns m)) (sym (layered-narrow k room)),
    )
