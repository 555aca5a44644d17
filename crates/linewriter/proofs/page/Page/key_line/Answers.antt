-- The one part of the line has nothing behind it but the line feed.
use Rattle.std.proofs.Common.{decimal}
use Rattle.std.proofs.lemmas.List.{append-nil}
use Rattle.linewriter.proofs.page.Page.key_line.Goals as goal

pub returns-clause-adds : goal.returns-clause-adds
returns-clause-adds c = rw (← c.from.ensures, ← append-nil (decimal c.from.result)) c.write_line.ensures
