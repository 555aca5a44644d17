-- What the four writes leave is the quarter round put back.
use Rattle.std.proofs.Common.{ap}
use Rattle.chacha20.specs.Block.{put_back, quarter_round_at}
use Rattle.chacha20.proofs.cipher.quarter_round_at.Goals as goal

pub returns : goal.returns
unfolding quarter_round_at
returns c =
    ap (put_back c.args.state.now c.args.i c.args.j c.args.k c.args.l) c.quarter_round-a.ensures
