use Rattle.std.proofs.Common.{◌≡◌, take, ap, sym, ◌∙◌, arith}
use Rattle.linefile.specs.Layout.{repeated}
use Rattle.linefile.specs.File.{number_field, up_to}
use Rattle.linefile.proofs.Stages.{filled_none, filled_kept, filled_full, passed_on, so_faulty, so_all, then_past, then_faulty}
use Rattle.linefile.proofs.sections.section.Goals as goal
use Rattle.linefile.proofs.sections.section.Goals.{then-i-kept, else-i-kept}

pub returns-in_err-item : goal.returns-in_err-item
returns-in_err-item g c =
    passed_on _ _ _ _ c.from_residual-in_err-item.ensures.1
    (then_faulty (number_field 2 (up_to c.args.most)) (repeated g.T.Item.part) _ c.in_ok-count.ensures.0 (so_faulty _ c.loop-i.invariant.so_far c.loop-i-test.true c.in_err-item.ensures))

pub loop-i-init : goal.loop-i-init
loop-i-init g c = filled_none _ _ _ _ _ _

pub loop-i-preserved : goal.loop-i-preserved
loop-i-preserved g c =
    elim c.if-i-kept.branch [
      | then-i-kept w ↦ rw w.kept-is (filled_kept c.loop-i.invariant c.loop-i-test.true c.in_ok-item.ensures (let s = c.loop-i.invariant.size in omega arith))
      | else-i-kept w ↦ rw w.kept-is (filled_full c.in_ok-item.item c.loop-i.invariant c.loop-i-test.true c.in_ok-item.ensures (let s = c.loop-i.invariant.size in omega arith))
    ]

pub returns : goal.returns
returns g c =
    let f = c.loop-i.invariant in
    let e : c.loop-i.i ≡ c.in_ok-count.count = (let h = c.loop-i.auto.i-end in omega arith) in
    let past = so_all f.so_far c.loop-i-test.false in
    record {
      items = f.items;
      many = f.many ∙ e;
      few = c.in_ok-count.ensures.1;
      place = _;
      past = past;
      passes = then_past (number_field 2 (up_to c.args.most)) (repeated g.T.Item.part) c.in_ok-count.ensures.0 past;
      held = ap (λ n. take n c.loop-i.kept) (sym e) ∙ f.held;
    }
