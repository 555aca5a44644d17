-- `find_place`: as many numbers are there as are left, and the first that is the one asked for has its place.
use Rattle.std.proofs.Common.{eqb, inl, refl, ◌∙◌, arith, rules, tests}
use Rattle.std.proofs.lemmas.Iterator.Consumers.{YieldsList-from_first}
use Rattle.std.proofs.lemmas.Iterator.Search.{position_from_yields_List}
use Rattle.bits.proofs.Locating.{position_place}
use Rattle.family.specs.Stepped.{left_of}
use Rattle.family.proofs.OrbitColumns.{length_orbit}
use Rattle.family.proofs.orbit.Orbit.find_place.Goals as goal

pub position-requires-clause-fits : goal.position-requires-clause-fits
position-requires-clause-fits g c =
    let o = c.args.self in
    inl (omega (arith, length_orbit (g.S.Step.stepped o.maker.now) o.left o.next))

pub returns : goal.returns
returns g c =
    let numbers = left_of g.S.Step.stepped c.args.self in
    position_from_yields_List (λ x. eqb x c.args.number) c.position.new.self _ _ c.position.ensures.ran
    (YieldsList-from_first (λ x. x) (left_of g.S.Step.stepped) numbers refl) (λ x b q k. search (rules, tests))
    ∙ position_place c.args.number numbers
