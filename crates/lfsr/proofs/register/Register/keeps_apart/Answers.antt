-- `keeps_apart`: the first state comes again, or all states are different.
use Rattle.std.proofs.Common.{◌≤◌, arith}
use Rattle.family.proofs.Again.{separate_unless_again}
use Rattle.lfsr.specs.Register.{step}
use Rattle.lfsr.specs.Stepping.{step-below, states-apart, step-zero}
use Rattle.lfsr.proofs.register.Register.keeps_apart.Goals as goal

pub returns : goal.returns
returns c =
    let g = c.args.self.now in
    let n = g.raw.degree in
    let k = g.raw.coefficients in
    let some : 1 ≤ n = omega arith in
    separate_unless_again (step n k) n (λ a _. step-below n k a some) (λ a b. states-apart n k a b some g.odd) (step-zero n k)
    g.raw.reach g.raw.state g.started.1 (omega arith) c.states.ensures c.comes_again.ensures
