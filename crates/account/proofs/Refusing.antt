-- A refused call leaves its buffer and the account.
use Rattle.std.proofs.Common.{arith}
use Rattle.account.specs.Calls.{Seal, Open, Appoint, Strike, Withdraw}
use Rattle.account.specs.Account.{RefusalsChangeNothing}

pub refusals_change_nothing : RefusalsChangeNothing
refusals_change_nothing a (Seal slot payload buffer pads) r is = (grind arith, grind arith)
refusals_change_nothing a (Open slot frame buffer pads) r is = (grind arith, grind arith)
refusals_change_nothing a (Appoint side key start) r is = (grind arith, grind arith)
refusals_change_nothing a (Strike side) r is = (grind arith, grind arith)
refusals_change_nothing a (Withdraw side) r is = (grind arith, grind arith)
