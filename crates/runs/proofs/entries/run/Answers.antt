-- `run`: no entry answered, and one more.
use Rattle.std.proofs.Common.{◌<◌, length, get_or, sym, ap, ◌∙◌, arith}
use Rattle.ends.specs.States.{reader_state, door_state}
use Rattle.runs.specs.Calls.{both}
use Rattle.runs.proofs.Answering.{none_yet, one_more}
use Rattle.runs.proofs.entries.run.Goals as goal

pub loop-entry-init : goal.loop-entry-init
loop-entry-init g c = none_yet g.F.Family.meaning g.G.Family.meaning g.P.PadSource.words _ c.args.entries.now

pub loop-entry-preserved : goal.loop-entry-preserved
loop-entry-preserved g c =
    let l = c.loop-entry in
    let within : l.entry-index < length l.entries = omega arith in
    let m = g.F.Family.meaning in
    let m' = g.G.Family.meaning in
    one_more m m' g.P.PadSource.words (both (reader_state m c.args.reader.now) (door_state m' c.args.door.now)) _ _ c.args.entries.now l.entries l.entry-index c.replace-was.result c.answer.result within
    (c.replace-was.ensures.value ∙ ap (get_or l.entries l.entry-index) (c.entry-item.is ∙ sym c.replace-was.ensures.value))
    c.answer.ensures.becomes c.answer.ensures.kept l.invariant
