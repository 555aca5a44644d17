-- The digest below with its parity bit is the layer's digest.
use Rattle.std.proofs.Common.{ℕ, ◌^◌, ◌<◌, ◌≤◌, sym, ◌∙◌, subst, arith}
use Rattle.parity.specs.Layered.{widest_below}
use Rattle.parity.specs.Layers.{digest_room, digest_layered, reach_layered}
use Rattle.parity.proofs.layer.ParityFamily.digest.Goals as goal

pub append_parity-requires : goal.append_parity-requires
append_parity-requires g c =
    let below = c.args.self.now.below in
    let k = g.F.Family.meaning below in
    let room : k.width ≤ widest_below = omega arith in
    let got = c.in_ok-digest.ensures in
    let P : ℕ → Type 0 = λ x. x < 2 ^ 63 in (
      subst P (sym got.1) (digest_room k (g.met.F.Family.lawful below) room c.args.m c.args.text.now got.0.0.0 got.0.0.1),
      omega arith,
    )

pub returns : goal.returns
returns g c =
    let below = c.args.self.now.below in
    let k = g.F.Family.meaning below in
    let room : k.width ≤ widest_below = omega arith in
    let got = c.in_ok-digest.ensures in (
      ((got.0.0.0, reach_layered k c.args.m got.0.0.1, got.0.0.2), tt),
      c.append_parity.ensures
          ∙ digest_layered k (g.met.F.Family.lawful below) room c.args.m c.in_ok-digest.digest c.text_parity.result c.args.text.now
          got.0.0.0 got.0.0.1 got.1 c.text_parity.ensures,
    )
