-- `run`: what its loop keeps.
use Rattle.ends.specs.States.{reader_state, door_state}
use Rattle.runs.specs.Calls.{both}
use Rattle.runs.proofs.Answering.{Answering}
use Rattle.runs.proofs.entries.run.Given as goal

abbrev pub invariant-loop-entry : goal.invariant-loop-entry
invariant-loop-entry g l =
    let m = g.F.Family.meaning in
    let m' = g.G.Family.meaning in
    Answering m m' g.P.PadSource.words (both (reader_state m l.initial.reader) (door_state m' l.initial.door))
    l.initial.entries l.entries l.entry-index (both (reader_state m l.reader) (door_state m' l.door))
