use Rattle.std.proofs.Common.{refl, ◌∙◌}
use Rattle.linefile.proofs.Bytes.{be1, be4, numbered}
use Rattle.linefile.proofs.OneFrame.{frame_past, frame-cut_slot, frame-cut_size, frame-cut_bytes}
use Rattle.linefile.proofs.Stages.{passed_on}
use Rattle.linefile.proofs.frames.FrameItem.read.Goals as goal

pub returns-in_err-take : goal.returns-in_err-take
returns-in_err-take c = passed_on _ _ _ _ c.from_residual.ensures.1 (frame-cut_slot c.in_err-take.ensures)

pub returns-in_err-size : goal.returns-in_err-size
returns-in_err-size c =
    let t = c.in_ok-take.ensures in
    passed_on _ _ _ _ c.from_residual-in_err-size.ensures.1 (frame-cut_size t (numbered t (be4 _) c.from_be_bytes-slot.ensures) c.in_err-size.ensures)

pub returns-in_err-bytes : goal.returns-in_err-bytes
returns-in_err-bytes c =
    let t = c.in_ok-take.ensures in
    let u = c.in_ok-size.ensures in
    passed_on _ _ _ _ c.from_residual-in_err-bytes.ensures.1
    (frame-cut_bytes t (numbered t (be4 _) c.from_be_bytes-slot.ensures) u (c.from.ensures ∙ numbered u (be1 _) refl) c.in_err-bytes.ensures)

pub returns : goal.returns
returns c =
    let t = c.in_ok-take.ensures in
    let u = c.in_ok-size.ensures in
    frame_past t (numbered t (be4 _) c.from_be_bytes-slot.ensures) u (c.from.ensures ∙ numbered u (be1 _) refl) c.in_ok-bytes.ensures
