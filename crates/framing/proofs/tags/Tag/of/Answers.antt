-- The tag is the digest of the text, ⊕ the pad, and fits its width.
use Rattle.std.proofs.Common.{◌∙◌}
use Rattle.framing.proofs.Texts.{tag_below, tag_made}
use Rattle.framing.proofs.tags.Tag.of.Goals as goal

pub invariant_of-result : goal.invariant_of-result
invariant_of-result g c =
    let h = c.in_ok-digest.ensures in
    record {
      fits = tag_below (g.F.Family.meaning c.args.key.now) (g.met.F.Family.lawful c.args.key.now) c.of-width.result.bits _ c.in_ok-digest.digest
          c.args.word c.first_bits.result c.as_slice.result.now c.of-width.ensures h.0.0.0 h.0.0.1 h.1 c.ranges.word.fits c.first_bits.ensures;
    }

pub returns : goal.returns
returns g c =
    let h = c.in_ok-digest.ensures in (
      h.0.0.1,
      c.of-width.ensures,
      tag_made (g.F.Family.meaning c.args.key.now) (g.met.F.Family.lawful c.args.key.now) c.args.door c.args.slot c.args.payload.now
          c.as_slice.result.now c.of-width.result.bits c.in_ok-digest.digest c.args.word c.first_bits.result c.of-width.ensures
          (c.as_slice.ensures.value ∙ c.text-text.ensures.items) h.1 c.ranges.word.fits c.first_bits.ensures,
    )
