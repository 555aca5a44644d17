-- The frame that is written.
use Rattle.std.proofs.Common.{rules}
use Rattle.framing.specs.Asked.{payload_questions}
use Rattle.framing.proofs.PadAnswers.{a_word}
use Rattle.framing.proofs.SealAnswers.{frame_length, frame_written}
use Rattle.framing.proofs.sealing.seal_frame.Goals as goal

pub returns : goal.returns
unfolding payload_questions
returns g c =
    let k = g.F.Family.meaning c.args.key.now in
    let pad = g.P.PadSource.words c.args.pads.now c.args.slot in
    let covered = a_word pad c.args.slot c.in_ok-word.word c.in_ok-word.ensures in
    let t = c.in_ok-tag.ensures in
    let w = c.of.result.bits in (
      search rules,
      (
        frame_length k c.args.door c.args.slot c.args.payload.now pad w c.bytes.result c.of.ensures c.bytes.ensures.sized,
        frame_written k c.args.door c.args.slot c.args.payload.now pad c.args.out.now _ c.in_ok-tag.tag.width.bits c.in_ok-tag.tag.number c.in_ok-word.word
            t.1 covered t.2 c.write_frame.ensures,
      ),
    )
