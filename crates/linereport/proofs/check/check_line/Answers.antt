-- The lines of every report follow the account.
use Rattle.linereport.proofs.Accounting.{lines_follow_the_account}
use Rattle.linereport.proofs.check.check_line.Goals as goal

pub returns-clause-accounted : goal.returns-clause-accounted
returns-clause-accounted c = lines_follow_the_account
