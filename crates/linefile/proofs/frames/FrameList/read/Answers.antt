use Rattle.std.proofs.Common.{sym, subst}
use Rattle.linefile.specs.File.{counted, most_frames, sent_frame}
use Rattle.linefile.specs.Parsed.{Passes}
use Rattle.linefile.proofs.FramesInBytes.{frames_found}
use Rattle.linefile.proofs.frames.FrameList.read.Goals as goal

pub returns : goal.returns
returns c =
    let s = c.in_ok-count.ensures in
    subst (λ fs. Passes (counted most_frames sent_frame) c.args.left.now fs c.section.new.left) (sym (frames_found _ _ _ _ _ _ s.past)) s.passes
