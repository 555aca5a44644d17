-- Admission answers its questions in order.
use Rattle.std.proofs.Common.{refl, inl}
use Rattle.std.proofs.lemmas.Result.{err_from_is_err_and}
use Rattle.std.proofs.lemmas.Bool.{false≢true}
use Rattle.family.specs.declared.raw.Start.TheVariants.{Zero}
use Rattle.family.specs.Admission.{form_questions, columns_questions}
use Rattle.family.proofs.Asking.{yes_append, no_early, no_late}
use Rattle.crc.specs.Crc.{crc}
use Rattle.crc.proofs.Remainders.{powers_are_remainders}
use Rattle.crc.proofs.keys.CrcKey.admit.Goals as goal

pub returns-in_err-check_form : goal.returns-in_err-check_form
returns-in_err-check_form c =
    let raw = c.args.raw in
    let p = err_from_is_err_and c.from_residual.result c.from_residual.ensures.1 in
    record {
      asked = rw (p.1, p.2) (no_early (form_questions Zero raw) (columns_questions (crc raw)) _ c.in_err-check_form.ensures);
      remainders = powers_are_remainders;
    }

pub returns-then-not-keeps_apart : goal.returns-then-not-keeps_apart
returns-then-not-keeps_apart c =
    let raw = c.args.raw in
    record {
      asked = no_late (form_questions Zero raw) (columns_questions (crc raw)) 6 c.in_ok-check_form.ensures.0
          (inl ((λ s. false≢true (c.if-not-keeps_apart.ensures.1 s)), refl));
      remainders = powers_are_remainders;
    }

pub returns : goal.returns
returns c =
    let raw = c.args.raw in
    record {
      asked = (
        yes_append (form_questions Zero raw) (columns_questions (crc raw)) c.in_ok-check_form.ensures.0 (c.keeps_apart.ensures.0 c.if-not-keeps_apart.false, tt),
        refl,
      );
      remainders = powers_are_remainders;
    }
