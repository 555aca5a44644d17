-- Columns and unit columns are separate unless a power of x after the first is 1.
use Rattle.std.proofs.Common.{◌+◌, arith}
use Rattle.family.proofs.Again.{unless_again}
use Rattle.crc.specs.Powers.{times_x}
use Rattle.crc.specs.PowersLemmas.{columns_separate, columns_meet}
use Rattle.crc.proofs.keys.Generator.keeps_apart.Goals as goal

pub returns : goal.returns
returns c =
    let raw = c.args.self.now.raw in
    unless_again (times_x raw.degree raw.coefficients) (raw.reach + raw.degree) 1
    (columns_separate raw.degree raw.coefficients raw.reach (omega arith) (omega arith) (omega arith))
    (λ j. columns_meet raw.degree raw.coefficients raw.reach j (omega arith))
    c.new.ensures c.comes_again.ensures
