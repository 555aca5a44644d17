-- The definitions compute, so that each vector holds by working it out.
use Rattle.std.proofs.Common.{refl}
use Rattle.chacha20.specs.Block.{quarter_round_at, double_rounds, sums, serialized}
use Rattle.chacha20.proofs.vectors.vectors_hold.Goals as goal

pub returns : goal.returns
unfolding quarter_round_at double_rounds sums serialized
returns c =
    record { count = refl; hold = (refl, (refl, (refl, (refl, (refl, (refl, (refl, (refl, tt)))))))) }
