-- A file has one report.
use Rattle.std.proofs.Common.{◌≡◌, ℕ, List, sym, ap, ◌∙◌, inl, inr}
use Rattle.linefile.specs.Layout.{Read, Good, Bad}
use Rattle.linefile.specs.File.{Contents, decode}
use Rattle.linewriter.specs.Lines.{key_line}
use Rattle.linereport.specs.Keys.{record_questions}
use Rattle.linereport.specs.Report.{Told}
use Rattle.linereport.specs.Laws.{OneReport}
use Rattle.linereport.proofs.Questions.{never_both, first_once}

one_telling : (r : Read Contents) (text other : List ℕ) → Told r text → Told r other → text ≡ other
one_telling (Bad flaw place) text other t u = t ∙ sym u
one_telling (Good c) text other (inl t) (inl u) = t.2 ∙ ap key_line (first_once (record_questions c.key) t.0 u.0 t.1 u.1) ∙ sym u.2
one_telling (Good c) text other (inl t) (inr u) = absurd (never_both (record_questions c.key) t.0 u.0 t.1)
one_telling (Good c) text other (inr t) (inl u) = absurd (never_both (record_questions c.key) u.0 t.0 u.1)
one_telling (Good c) text other (inr t) (inr u) = t.1 ∙ sym u.1

pub one_report : OneReport
one_report file text other = one_telling (decode file) text other
