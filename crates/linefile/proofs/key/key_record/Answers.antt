use Rattle.std.proofs.Common.{◌≡◌, ◌≤◌, length, get_or, drop, Ok, MatchResult, ap, ◌∙◌, arith, length-drop, rules}
use Rattle.std.proofs.lemmas.List.{get_or-drop}
use Rattle.std.proofs.lemmas.Bool.{cond-true, cond-false, le-leb, lt-leb}
use Rattle.std.proofs.lemmas.Result.{MatchResult-weaker}
use Rattle.linefile.specs.declared.faults.Flaw.TheVariants.{Unknown}
use Rattle.linefile.specs.File.{a_kind, an_allowance}
use Rattle.linefile.proofs.Bytes.{be1}
use Rattle.linefile.proofs.Keys.{told-wrong_kind, told-kind, wrong_allowance, key-past}
use Rattle.linefile.proofs.Stages.{passed_on}
use Rattle.linefile.proofs.key.key_record.Goals as goal

pub returns-in_err-kind : goal.returns-in_err-kind
returns-in_err-kind c =
    let h : 23 ≤ length c.args.left.now.bytes.now = search rules in
    let m : MatchResult c.try_from.result (λ _. ⊥) (λ flaw. c.in_err-kind.field-0.0 ≡ record { flaw = flaw; place = c.args.left.now.at }) =
    MatchResult-weaker c.try_from.result c.in_err-kind.ensures.cases (λ k q. cc) (λ flaw q. search rules) in
    passed_on _ _ _ _ c.from_residual.ensures.1 (told-wrong_kind c.args.left.now.at c.args.left.now.bytes.now c.try_from.result _ (omega arith) c.try_from.ensures m)

pub returns-then-allowance-gt1 : goal.returns-then-allowance-gt1
returns-then-allowance-gt1 c =
    let h : 23 ≤ length c.args.left.now.bytes.now = search rules in
    let m : MatchResult c.try_from.result (λ k. c.in_ok-kind.kind ≡ k) (λ _. ⊥) =
    MatchResult-weaker c.try_from.result c.in_ok-kind.ensures.cases (λ k q. cc) (λ flaw q. q) in
    let l = length-drop 22 c.args.left.now.bytes.now in
    rw c.at.ensures (λ next.
    wrong_allowance next c.args.left.now.at c.args.left.now.bytes.now _ Unknown h (ap a_kind (be1 c.args.left.now.bytes.now (omega arith)) ∙ told-kind _ (get_or c.args.left.now.bytes.now 0 0) _ c.try_from.ensures m)
    (ap an_allowance (be1 (drop 22 c.args.left.now.bytes.now) (omega arith) ∙ get_or-drop 22 c.args.left.now.bytes.now 0 0) ∙ cond-false _ _ _ (lt-leb _ 1 c.if-allowance-gt1.true)))

pub returns : goal.returns
returns c =
    let h : 23 ≤ length c.args.left.now.bytes.now = search rules in
    let m : MatchResult c.try_from.result (λ k. c.in_ok-kind.kind ≡ k) (λ _. ⊥) =
    MatchResult-weaker c.try_from.result c.in_ok-kind.ensures.cases (λ k q. cc) (λ flaw q. q) in
    let a : an_allowance (get_or c.args.left.now.bytes.now 22 0) ≡ Ok (get_or c.args.left.now.bytes.now 22 0) = cond-true _ _ _ (le-leb _ 1 c.if-allowance-gt1.false) in
    key-past c.args.left.now.at c.args.left.now.bytes.now _ _ h (told-kind _ (get_or c.args.left.now.bytes.now 0 0) _ c.try_from.ensures m) a _ c.from_be_bytes.ensures _ c.from_be_bytes-2.ensures _ c.from_be_bytes-3.ensures
