-- The shift under its masks is the multiplication by x.
use Rattle.std.proofs.Common.{arith}
use Rattle.crc.specs.TimesX.{times_x-masked}
use Rattle.crc.proofs.keys.Generator.times_x.Goals as goal

pub returns : goal.returns
returns c =
    let raw = c.args.self.now.raw in
    times_x-masked raw.degree raw.coefficients c.args.a _ (omega arith) (omega arith) c.under_mask.ensures
