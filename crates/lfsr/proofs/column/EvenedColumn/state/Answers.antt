-- A number that is no state with even ones is no column.
use Rattle.std.proofs.Common.{◌∙◌}
use Rattle.lfsr.specs.EvenOnes.{uneven-none}
use Rattle.lfsr.proofs.column.EvenedColumn.state.Goals as goal

pub returns-else-with_even_ones-number : goal.returns-else-with_even_ones-number
returns-else-with_even_ones-number c = uneven-none c.args.number (λ e. c.if-with_even_ones-number.false (c.with_even_ones.ensures.value ∙ e))
