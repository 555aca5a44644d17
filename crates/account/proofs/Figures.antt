-- The small runs are worked out by computation.
use Rattle.std.proofs.Common.{refl}
use Rattle.bits.specs.Bits.{bits_of}
use Rattle.frames.specs.Frames.{bound_word, tag_size}
use Rattle.account.specs.Keys.{governing}
use Rattle.account.specs.Sealing.{frame_under}
use Rattle.account.specs.Opening.{finding_under, payload_under, place_under}
use Rattle.account.specs.Figures.{FiguresStand}

pub figures_stand : FiguresStand
unfolding bits_of bound_word tag_size governing frame_under finding_under payload_under place_under
figures_stand =
    record { one_allowed = refl; in_the_tag = refl; none_allowed = refl; reader_created = refl; door_created = refl; door_refused = refl }
