-- The ends follow the account.
use Rattle.account.proofs.Following.{ends-follow}
use Rattle.account.proofs.theorems.ends_follow.Goals as goal

pub returns : goal.returns
returns c = ends-follow
