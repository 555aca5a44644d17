-- A reply of an end whose keys reach is the account's.
use Rattle.std.proofs.Common.{◌∙◌, rules}
use Rattle.framing.specs.Asked.{payload_questions}
use Rattle.ends.proofs.Reach.{end_seals}
use Rattle.ends.proofs.reader.End+F+Reader.seal.Goals as goal

pub returns-in_err-size-clause-replies : goal.returns-in_err-size-clause-replies
unfolding payload_questions
returns-in_err-size-clause-replies g c = search rules

pub returns-in_err-size-clause-follows : goal.returns-in_err-size-clause-follows
returns-in_err-size-clause-follows g c =
    returns-in_err-size-clause-replies g c ∙ end_seals c.args.self.now c.args.slot c.args.payload.now c.args.out.now (g.P.PadSource.words c.args.pads.now)

pub returns-clause-replies : goal.returns-clause-replies
unfolding payload_questions
returns-clause-replies g c = search rules

pub returns-clause-follows : goal.returns-clause-follows
returns-clause-follows g c =
    returns-clause-replies g c ∙ end_seals c.args.self.now c.args.slot c.args.payload.now c.args.out.now (g.P.PadSource.words c.args.pads.now)
