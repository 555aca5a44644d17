-- One entry: a call is a run of one, and an entry that asks for nothing is a run of none.
use Rattle.account.proofs.Sequences.{in_sequence}
use Rattle.runs.proofs.entries.answer.Goals as goal

pub returns-in-Asked-clause-kept : goal.returns-in-Asked-clause-kept
returns-in-Asked-clause-kept g c = rw c.in-Asked.is (in_sequence.one _ _ _ _ c.look_at.ensures (λ _ _. c.step.ensures))

pub returns-in-Told-clause-kept : goal.returns-in-Told-clause-kept
returns-in-Told-clause-kept g c = rw c.in-Told.is (in_sequence.none _)

pub returns-in-Blank-clause-kept : goal.returns-in-Blank-clause-kept
returns-in-Blank-clause-kept g c = rw c.in-Blank.is (in_sequence.none _)
