-- The refusals of a report and of a file's key: the number of each.
use Rattle.std.specs.Prelude.{ℕ}
use Rattle.family.specs.Admission.{admission_number}
use Rattle.account.specs.Questions.{Refusal}
use Rattle.framing.specs.Refusals.{plain}
use Rattle.ends.specs.Refusals.{door_refusal}
use Rattle.linereport.specs.declared.check.ReportRefusal.{ReportRefusal}
use Rattle.linereport.specs.declared.check.ReportRefusal.TheVariants.{NoRoom}
use Rattle.linereport.specs.declared.keys.RefusedKey.{RefusedKey}
use Rattle.linereport.specs.declared.keys.RefusedKey.TheVariants.{NotAdmitted, TooWide, NoEnd}

abbrev pub report_refusal : ReportRefusal → Refusal
report_refusal NoRoom = plain 55

-- each has the number of the refusal that it passes on
abbrev pub key_number : RefusedKey → ℕ
key_number (NotAdmitted refusal) = admission_number refusal
key_number TooWide = 7
key_number (NoEnd refusal) = (door_refusal refusal).number
