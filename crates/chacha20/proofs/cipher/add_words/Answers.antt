-- One more sum with each turn, and all of them at the end.
use Rattle.std.proofs.Common.{add-one, arith}
use Rattle.chacha20.proofs.Sums.{summed-more, summed-all}
use Rattle.chacha20.proofs.cipher.add_words.Goals as goal

pub loop-i-preserved : goal.loop-i-preserved
loop-i-preserved c =
    let e = summed-more c.loop-i.i c.args.state.now c.args.initial.now (omega arith) (omega arith) in
    rw add-one (cc)

pub returns : goal.returns
returns c =
    let e = summed-all c.loop-i.i c.args.state.now c.args.initial.now (omega arith) (omega arith) in
    cc
