-- A raw key in form is decided by its columns: it is admitted if they pass the test, and refused with 6 if they do not.
use Rattle.std.proofs.Common.{◌≡◌, true, false, ◌++◌, refl, inl}
use Rattle.bits.specs.Columns.{units}
use Rattle.family.specs.declared.raw.RawKey.{RawKey}
use Rattle.family.specs.declared.raw.Start.{Start}
use Rattle.family.specs.Admission.{form_questions, columns_questions, admission_questions}
use Rattle.family.specs.Meaning.{Meaning}
use Rattle.family.specs.Questions.{AllYes, FirstNo}
use Rattle.family.proofs.Asking.{yes_append, no_late}
use Rattle.family.proofs.Deciding.{separate, separate-true, separate-false}

module _ (start : Start) (raw : RawKey) (key : Meaning) (formed : AllYes (form_questions start raw)) where
  pub admitted : separate (key.columns key.reach ++ units key.width) ≡ true → AllYes (admission_questions start raw key)
  admitted e = yes_append (form_questions start raw) (columns_questions key) formed (separate-true (key.columns key.reach ++ units key.width) e, tt)

  pub refused : separate (key.columns key.reach ++ units key.width) ≡ false → FirstNo (admission_questions start raw key) 6
  refused e = no_late (form_questions start raw) (columns_questions key) 6 formed (inl (separate-false (key.columns key.reach ++ units key.width) e, refl))
