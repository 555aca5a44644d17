-- A tag that is read: its spare bits, and its number.
use Rattle.framing.proofs.ReadAnswers.{tag_is, spare_ones, spare_zeros}
use Rattle.framing.proofs.Texts.{pad_below}
use Rattle.framing.proofs.tags.Tag.read.Goals as goal

pub returns-then-word-width-ne0 : goal.returns-then-word-width-ne0
returns-then-word-width-ne0 c =
    let w = c.args.width in
    spare_ones w.bits c.args.bytes.now c.word_of-word.result w.narrow w.some c.requires c.hold_bytes.ensures c.word_of-word.ensures c.if-word-width-ne0.true

pub invariant_of-result : goal.invariant_of-result
invariant_of-result c = record { fits = pad_below c.args.width.bits c.word_of-word.result c.args.width.narrow c.word_of-word.type_inv }

pub returns : goal.returns
returns c =
    let w = c.args.width in (
      spare_zeros w.bits c.args.bytes.now c.word_of-word.result w.narrow w.some c.requires c.hold_bytes.ensures c.word_of-word.ensures c.if-word-width-ne0.false,
      tag_is w.bits c.args.bytes.now c.word_of-word.result w.narrow w.some c.requires c.hold_bytes.ensures c.word_of-word.ensures,
    )
