-- What was judged is the answer, and what was read is what is written.
use Rattle.std.proofs.Common.{◌≡◌, length, Some, None, rules}
use Rattle.account.specs.Questions.{first_refusal}
use Rattle.account.specs.Calls.{word}
use Rattle.framing.specs.Asked.{frame_questions}
use Rattle.framing.specs.Refusals.{open_refusal}
use Rattle.framing.proofs.OpenAnswers.{judged_so, told_so, payload_is, payload_length, payload_written}
use Rattle.framing.proofs.opening.open_frame.Goals as goal

pub returns-in_err-mended : goal.returns-in_err-mended
returns-in_err-mended g c =
    let k = g.F.Family.meaning c.args.key.now in
    let w = g.P.PadSource.words c.args.pads.now in
    let refusal = open_refusal c.in_err-mended.field-0.0 in
    let v : first_refusal (frame_questions k c.args.door c.args.allowance c.args.slot c.args.frame.now (length c.args.out.now) w) ≡ Some refusal =
    judged_so k c.args.door c.args.allowance c.args.slot c.args.frame.now (length c.args.out.now) w _ _ _ _ _ _
    c.of.ensures c.in_ok-arrived.ensures c.in_ok-word.ensures c.in_ok-expected.ensures (Some refusal) c.in_err-mended.ensures.0 in
    search rules

pub returns : goal.returns
returns g c =
    let k = g.F.Family.meaning c.args.key.now in
    let w = g.P.PadSource.words c.args.pads.now in
    let frame = c.args.frame.now in
    let pad = word (w c.args.slot) in
    let payload = c.in_ok-arrived.arrived.payload.now in
    let place = told_so k c.args.door c.args.allowance c.args.slot frame (length c.args.out.now) w _ _ _ _ _ _
    c.of.ensures c.in_ok-arrived.ensures c.in_ok-word.ensures c.in_ok-expected.ensures _ c.in_ok-mended.ensures.1 in
    let whole = payload_is k c.args.door c.args.allowance c.args.slot frame (length c.args.out.now) w _ _ _ _ _ _
    c.of.ensures c.in_ok-arrived.ensures c.in_ok-word.ensures c.in_ok-expected.ensures in (
      judged_so k c.args.door c.args.allowance c.args.slot frame (length c.args.out.now) w _ _ _ _ _ _
          c.of.ensures c.in_ok-arrived.ensures c.in_ok-word.ensures c.in_ok-expected.ensures None c.in_ok-mended.ensures.0,
      (
        payload_length k pad c.args.door c.args.slot frame payload whole,
        place,
        payload_written k pad c.args.door c.args.slot frame payload whole c.args.out.now _ c.in_ok-mended.mended place c.write_payload.ensures,
      ),
    )
