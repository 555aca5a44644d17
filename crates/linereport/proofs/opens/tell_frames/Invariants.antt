-- `tell_frames`: what its loop keeps, and that the frames come to an end.
use Rattle.ends.specs.States.{door_state}
use Rattle.linefile.specs.Parsed.{frames_of}
use Rattle.linewriter.specs.Pages.{written}
use Rattle.linereport.proofs.Telling.{SoFar}
use Rattle.linereport.proofs.opens.tell_frames.Given as goal

abbrev pub invariant-loop-frame : goal.invariant-loop-frame
invariant-loop-frame g l =
    SoFar (g.P.PadSource.words l.pads) (door_state g.F.Family.meaning l.initial.door) (frames_of l.frames)
    (door_state g.F.Family.meaning l.door) (frames_of l.left) (written l.page) l.totals

abbrev pub decreases-loop-frame : goal.decreases-loop-frame
decreases-loop-frame g l = l.left.count
