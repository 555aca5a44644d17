-- The bytes of a tag are the first of its word, shifted to the top.
use Rattle.std.proofs.Common.{◌-◌, ◌*◌, ◌%◌, ◌^◌, take, ap, ◌∙◌, arith, shl_exact}
use Rattle.framing.proofs.Texts.{tag_put, eight_bytes}
use Rattle.framing.proofs.tags.Tag.write.Goals as goal

pub returns : goal.returns
returns c =
    let t = c.args.self.now in
    let width = t.width.bits in
    let size = c.bytes-size.result in
    let shifted = t.number * 2 ^ (64 - width) % 2 ^ 64 in
    tag_put width t.number size shifted _ c.args.out.now t.width.narrow c.bytes-size.ensures.sized
    (shl_exact {a = t.number} width (64 - width) 64 t.fits (omega (arith, t.width.narrow)))
    (c.copy_from_slice.ensures.after ∙ ap (take size) (c.to_be_bytes-bytes.ensures ∙ eight_bytes shifted))
