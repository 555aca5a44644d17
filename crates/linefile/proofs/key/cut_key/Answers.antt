use Rattle.std.proofs.Common.{◌≡◌, ◌≤◌, length, get_or, Ok, Err, sym, ap, ◌∙◌, rules}
use Rattle.linefile.specs.File.{a_kind}
use Rattle.linefile.proofs.Bytes.{be1}
use Rattle.linefile.proofs.Keys.{no_key, wrong_kind, cut_key}
use Rattle.linefile.proofs.key.cut_key.Goals as goal

pub returns-in_default : goal.returns-in_default
returns-in_default c = rw c.at.ensures (λ next. no_key next c.args.left.now.at c.args.left.now.bytes.now (search rules))

pub returns-in-Err : goal.returns-in-Err
returns-in-Err c =
    let h : 1 ≤ length c.args.left.now.bytes.now = search rules in
    let k : a_kind (get_or c.args.left.now.bytes.now 0 0) ≡ Err c.in-Err.flaw = sym c.in-Err.ensures in
    rw c.at-in-Err.ensures (λ next. wrong_kind next c.args.left.now.at c.args.left.now.bytes.now _ h (ap a_kind (be1 c.args.left.now.bytes.now h) ∙ k))

pub returns-in-Ok : goal.returns-in-Ok
returns-in-Ok c =
    let h : 1 ≤ length c.args.left.now.bytes.now = search rules in
    let k : a_kind (get_or c.args.left.now.bytes.now 0 0) ≡ Ok c.in-Ok.field-0 = sym c.in-Ok.ensures in
    rw (c.at-in-Ok.ensures, c.whole_fields.ensures.0) (λ next. cut_key next c.args.left.now.at c.args.left.now.bytes.now _ h c.requires (ap a_kind (be1 c.args.left.now.bytes.now h) ∙ k))
