-- `figures_proved`: the figures in their order, by computation.
use Rattle.std.proofs.Common.{refl, rules}
use lib.Count.{ones, ones_in}
use Rattle.account.specs.Sealing.{frame_under}
use Rattle.bits.specs.Bits.{bits_of}
use Rattle.crc.specs.Crc.{crc}
use Rattle.crc.specs.Powers.{times_x}
use Rattle.family.specs.declared.raw.Start.TheVariants.{Zero, Nonzero}
use Rattle.frames.specs.Frames.{tag_size, bound_word}
use Rattle.lfsr.specs.Register.{step}
use Rattle.lfsr.specs.Keys.{evened, toeplitz, mac_c}
use Rattle.parity.specs.Layered.{odded}
use Rattle.figures.specs.Figures.{raw_key, raw_crc}
use Rattle.figures.proofs.Forms.{admitted, refused}
use Rattle.figures.proofs.figures_proved.Goals as goal

pub returns-clause-stand : goal.returns-clause-stand
unfolding bits_of step evened times_x odded ones ones_in frame_under tag_size bound_word
returns-clause-stand c = (
  refl,
  (
    admitted Nonzero (raw_key 4 7) (mac_c (raw_key 4 7)) (search rules) refl,
    (
      refused Nonzero (raw_key 4 8) (mac_c (raw_key 4 8)) (search rules) refl,
      (
        refl,
        (
          refl,
          (
            refl,
            (
              refl,
              (
                admitted Nonzero (raw_key 5 4) (toeplitz (raw_key 5 4)) (search rules) refl,
                (
                  refused Nonzero (raw_key 5 5) (toeplitz (raw_key 5 5)) (search rules) refl,
                  (
                    refl,
                    (
                      refl,
                      (
                        admitted Zero (raw_crc 3) (crc (raw_crc 3)) (search rules) refl,
                        (
                          refused Zero (raw_crc 4) (crc (raw_crc 4)) (search rules) refl,
                          (refl, (refl, tt)),
                        ),
                      ),
                    ),
                  ),
                ),
              ),
            ),
          ),
        ),
      ),
    ),
  ),
)
