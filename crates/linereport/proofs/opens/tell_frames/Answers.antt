-- Every frame is told.
use Rattle.std.proofs.Common.{rules}
use Rattle.ends.specs.States.{door_state}
use Rattle.linefile.specs.Parsed.{frames_of, sent_of}
use Rattle.linefile.proofs.FramesInBytes.{frames_few}
use Rattle.linewriter.specs.Counting.{open_answer}
use Rattle.linewriter.specs.Pages.{written}
use Rattle.linereport.proofs.Telling.{so_far_more, told-whole}
use Rattle.linereport.proofs.opens.tell_frames.Goals as goal

pub loop-frame-init : goal.loop-frame-init
loop-frame-init g c =
    let count = c.args.frames.few in
    let few = frames_few c.args.frames.count c.args.frames.bytes.now in
    search (rules, count, few)

pub loop-frame-preserved : goal.loop-frame-preserved
loop-frame-preserved g c =
    so_far_more (g.P.PadSource.words c.args.pads.now) (door_state g.F.Family.meaning c.args.door.now) (frames_of c.args.frames)
    (door_state g.F.Family.meaning c.loop-frame.door) (sent_of c.in-Some.frame) (frames_of c.loop-frame.left) (frames_of c.in-Some.rest)
    (written c.loop-frame.page) c.loop-frame.totals (open_answer c.open-answer.result) (door_state g.F.Family.meaning c.open-answer.new.door) _ _
    c.loop-frame.invariant c.in-Some.ensures.0 c.open-answer.ensures.answer c.open-answer.ensures.after
    (search rules) c.frame_line.ensures.short c.count.ensures

pub returns : goal.returns
returns g c =
    told-whole (g.P.PadSource.words c.args.pads.now) (door_state g.F.Family.meaning c.args.door.now) (frames_of c.args.frames)
    (door_state g.F.Family.meaning c.loop-frame.door) (frames_of c.loop-frame.left) (written c.loop-frame.page) c.loop-frame.totals _
    c.loop-frame.invariant c.in_default.ensures (search rules)
