use Rattle.std.proofs.Common.{◌≡◌, ◌+◌, length, ap, ◌∙◌, arith}
use Rattle.linefile.specs.declared.faults.Flaw.TheVariants.{Trailing}
use Rattle.linefile.specs.Encoded.{encode}
use Rattle.linefile.specs.File.{decode}
use Rattle.linefile.specs.Layout.{Bad}
use Rattle.linelaws.proofs.Written.{reads_file}
use Rattle.linelaws.proofs.other_lengths_are_refused.Goals as goal

pub returns : goal.returns
unfolding decode
returns c =
    record {
      cut = λ x n f h. let q = (reads_file x f).short 0 n h in (q.0, omega (arith, q.1), q.2);
      trailing = λ x b more f.
          let e : 0 + length (encode x) ≡ length (encode x) = omega arith in
          (reads_file x f).long 0 b more ∙ ap (λ p. Bad Trailing p) e;
    }
