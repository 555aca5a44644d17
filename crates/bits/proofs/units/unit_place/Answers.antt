-- `unit_place`: only a number with a single one is a unit column, and the place of that one tells which.
use Rattle.std.proofs.Common.{◌≡◌, ℕ, ◌+◌, ◌-◌, ◌^◌, ◌<◌, ◌≤◌, Option, Some, None, sym, ap, ◌∙◌, ⊎_elim, arith, w64, count_ones}
use lib.Pow.{pow-lt}
use Rattle.std.specs.Int.{trailing_zeros}
use Rattle.std.specs.Option.{SomeIff}
use Rattle.std.proofs.lemmas.Bool.{cases_lt, eqb-true, eqb-false}
use Rattle.bits.specs.Columns.{place, units}
use Rattle.bits.proofs.UnitColumns.{place-unit, place-no_unit, ones_power, weight_of_one}
use Rattle.bits.proofs.units.unit_place.Goals as goal

pub returns-then-not-is_power_of_two : goal.returns-then-not-is_power_of_two
returns-then-not-is_power_of_two c =
    let x = c.args.number in
    sym (place-no_unit c.args.width x (λ w h e. eqb-false (count_ones x) 1 (sym c.if-not-is_power_of_two.ensures) (sym (ap count_ones e) ∙ ones_power w)))

-- the weight w of the one, and its place among n unit columns, if it is below 2 ^ n
placed : (n x w : ℕ) → 2 ^ w ≡ x → (o : Option ℕ) → SomeIff o (w + 1 ≤ n) (n - (w + 1)) → o ≡ place x (units n)
placed n x w is None told =
    sym (place-no_unit n x (λ v h e.
    told (⊎_elim
    (λ (low : w < n). omega arith)
    (λ (high : n ≤ w). let larger : 2 ^ v < 2 ^ w = pow-lt (omega arith) in absurd (omega arith))
    (cases_lt w n))))
placed n x w is (Some i) told =
    let at : i ≡ n - 1 - w = omega arith in
    ap Some at ∙ sym (place-unit n w (omega arith)) ∙ ap (λ y. place y (units n)) is

pub returns : goal.returns
returns c =
    let x = c.args.number in
    placed c.args.width x (trailing_zeros w64 x) (weight_of_one x c.ranges.number.fits (eqb-true (count_ones x) 1 (sym c.if-not-is_power_of_two.ensures)))
    c.checked_sub.result c.checked_sub.ensures
