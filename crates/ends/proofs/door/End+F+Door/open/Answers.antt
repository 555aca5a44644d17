-- A reply of an end whose keys reach is the account's.
use Rattle.std.proofs.Common.{◌∙◌, rules}
use Rattle.ends.proofs.Reach.{end_opens}
use Rattle.ends.proofs.door.End+F+Door.open.Goals as goal

pub returns-in_err-opened-clause-replies : goal.returns-in_err-opened-clause-replies
returns-in_err-opened-clause-replies g c = search rules

pub returns-in_err-opened-clause-follows : goal.returns-in_err-opened-clause-follows
returns-in_err-opened-clause-follows g c =
    returns-in_err-opened-clause-replies g c ∙ end_opens c.args.self.now c.args.slot c.args.frame.now c.args.out.now (g.P.PadSource.words c.args.pads.now)

pub returns-clause-replies : goal.returns-clause-replies
returns-clause-replies g c = search rules

pub returns-clause-follows : goal.returns-clause-follows
returns-clause-follows g c =
    returns-clause-replies g c ∙ end_opens c.args.self.now c.args.slot c.args.frame.now c.args.out.now (g.P.PadSource.words c.args.pads.now)
