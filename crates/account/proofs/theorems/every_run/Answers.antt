-- Every run keeps the promise.
use Rattle.account.proofs.Running.{every_run}
use Rattle.account.proofs.theorems.every_run.Goals as goal

pub returns : goal.returns
returns c = every_run
