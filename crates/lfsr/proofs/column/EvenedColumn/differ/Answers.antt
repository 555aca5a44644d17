-- Columns with even ones are separate just where the states are.
use Rattle.std.proofs.Common.{◌+◌}
use Rattle.lfsr.specs.Keys.{states}
use Rattle.lfsr.specs.EvenOnes.{separate_evened, separate_from_evened}
use Rattle.lfsr.proofs.column.EvenedColumn.differ.Goals as goal

pub returns : goal.returns
returns c =
    let raw = c.args.register.now.raw in
    let cs = states raw raw.reach in (
      (λ e. separate_evened (raw.degree + 1) cs (c.keeps_apart.ensures.0 e)),
      (λ s. c.keeps_apart.ensures.1 (separate_from_evened (raw.degree + 1) cs s)),
    )
