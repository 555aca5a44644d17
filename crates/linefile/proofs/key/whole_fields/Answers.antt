use Rattle.std.proofs.Common.{◌≡◌, ℕ, ◌≤◌, ap, ◌∙◌, nat_le, unwrap_or, rules, tests, arith}
use Rattle.std.proofs.lemmas.Iterator.{YieldsList-from_slice}
use Rattle.std.proofs.lemmas.Iterator.Search.{find_from_yields_List}
use Rattle.std.proofs.lemmas.Bool.Decides.{nat_tests}
use Rattle.linefile.specs.Parsed.{field_places, whole_fields}
use Rattle.linefile.proofs.key.whole_fields.Goals as goal

le-whole_fields : (n : ℕ) → whole_fields n ≤ n
le-whole_fields n = grind (arith, nat_tests)

pub returns : goal.returns
returns c =
    let found = find_from_yields_List (λ place. nat_le place c.args.there) _ _ c.find.result c.find.ensures.ran (YieldsList-from_slice field_places cc) (λ x b q k. search (rules, tests)) in
    let e : c.unwrap_or.result ≡ whole_fields c.args.there = c.unwrap_or.ensures ∙ ap (λ o. unwrap_or o 0) (c.copied.ensures ∙ found) in
    (e, omega (arith, e, le-whole_fields c.args.there))
