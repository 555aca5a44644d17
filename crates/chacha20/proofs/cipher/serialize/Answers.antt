-- Four more bytes with each turn, and all sixty-four at the end.
use Rattle.std.proofs.Common.{◌≡◌, ◌+◌, ◌-◌, ◌*◌, length, replicate, refl, ap, ◌∙◌, ap₂, arith}
use borrow.Rule.Slice.PartMut.{put_mid}
use Rattle.chacha20.proofs.Serializing.{written_none, length-written, written-more, written_all}
use Rattle.chacha20.proofs.cipher.serialize.Goals as goal

pub loop-i-init : goal.loop-i-init
loop-i-init c = (written_none c.args.state.now (replicate 64 0), refl)

pub loop-i-preserved : goal.loop-i-preserved
loop-i-preserved c =
    let i = c.loop-i.i in
    let n : (4 * i + 4) - 4 * i ≡ 4 = omega arith in
    let w =
    ap₂ (put_mid (4 * i) ((4 * i + 4) - 4 * i)) c.loop-i.invariant.0 (c.copy_from_slice.ensures.after ∙ c.to_le_bytes.ensures)
    ∙ written-more i ((4 * i + 4) - 4 * i) c.args.state.now (replicate 64 0) (omega arith) n in
    (w, ap length w ∙ length-written (i + 1) c.args.state.now (replicate 64 0) (omega arith) (omega arith))

pub returns : goal.returns
returns c =
    let e = written_all c.loop-i.i c.args.state.now (replicate 64 0) (omega arith) (omega arith) in cc
