-- States as columns are separate just where they are and none is a unit column.
use Rattle.std.proofs.Common.{◌^◌, ◌<◌, ◌≤◌, not, sym, ap, ◌∙◌, arith}
use Rattle.std.proofs.ByRecursion.{All-get_or}
use Rattle.std.proofs.lemmas.Bool.{false≢true, both_ways}
use Rattle.bits.specs.Columns.{units}
use Rattle.family.proofs.Separates.{separate_left}
use Rattle.family.proofs.OrbitColumns.{orbit_below, separate-from_units, unit_separate}
use Rattle.lfsr.specs.Keys.{states}
use Rattle.lfsr.specs.Register.{step}
use Rattle.lfsr.specs.Stepping.{step-below}
use Rattle.lfsr.proofs.column.PlainColumn.differ.Goals as goal

pub returns-then-not-meets_unit : goal.returns-then-not-meets_unit
returns-then-not-meets_unit c =
    let g = c.args.register.now in
    let n = g.raw.degree in
    let cs = states g.raw g.raw.reach in (
      (λ e. separate-from_units n cs (c.keeps_apart.ensures.0 e) (λ i h u. both_ways c.meets_unit.result c.if-not-meets_unit.true (c.meets_unit.ensures.1 (i, h, u)))),
      (λ s. c.keeps_apart.ensures.1 (separate_left cs (units n) s)),
    )

pub returns-else-not-meets_unit : goal.returns-else-not-meets_unit
returns-else-not-meets_unit c =
    let g = c.args.register.now in
    let n = g.raw.degree in
    let k = g.raw.coefficients in
    let cs = states g.raw g.raw.reach in
    let some : 1 ≤ n = omega arith in
    let unit = c.meets_unit.ensures.0 c.if-not-meets_unit.false in
    let low = orbit_below (step n k) n (λ a _. step-below n k a some) g.raw.reach g.raw.state g.started.1 in (
      (λ e. absurd (false≢true (sym (ap not c.if-not-meets_unit.false) ∙ e))),
      (λ s. absurd (unit_separate n cs unit.0 unit.1 (All-get_or (λ x. x < 2 ^ n) cs unit.0 0 unit.1 low) unit.2 s)),
    )
