use Rattle.std.proofs.Common.{refl}
use Rattle.std.proofs.lemmas.Result.{MatchResult-weaker}
use Rattle.linefile.specs.File.{just, key_count, key_record, key_section, number_field}
use Rattle.linefile.proofs.Bytes.{be1, numbered}
use Rattle.linefile.proofs.Stages.{passed_on, value_past, value_wrong, value_cut, is_only, not_only, first_faulty, then_past, then_faulty}
use Rattle.linefile.proofs.key.key_section.Goals as goal

pub returns-in_err-count : goal.returns-in_err-count
unfolding key_section
returns-in_err-count c =
    passed_on _ _ _ _ c.from_residual.ensures.1 (first_faulty (number_field 1 (just key_count)) (λ _. key_record) _ _ _ (value_cut (just key_count) c.in_err-count.ensures))

pub returns-then-count-ne-KEY_COUNT : goal.returns-then-count-ne-KEY_COUNT
unfolding key_section
returns-then-count-ne-KEY_COUNT c =
    let t = c.in_ok-count.ensures in
    rw c.at.ensures
    (first_faulty (number_field 1 (just key_count)) (λ _. key_record) _ _ _ (value_wrong (just key_count) t (numbered t (be1 _) refl) (not_only key_count _ c.if-count-ne-KEY_COUNT.true)))

pub returns : goal.returns
unfolding key_section
returns c =
    let t = c.in_ok-count.ensures in
    let one = value_past (just key_count) t (numbered t (be1 _) refl) (is_only key_count _ c.if-count-ne-KEY_COUNT.false) in
    MatchResult-weaker c.key_record.result c.key_record.ensures
    (λ _ h. then_past (number_field 1 (just key_count)) (λ _. key_record) one h)
    (λ _ h. then_faulty (number_field 1 (just key_count)) (λ _. key_record) _ one h)
