use Rattle.std.proofs.Common.{◌≡◌, ℕ, ◌+◌, ◌*◌, ◌<◌, subst, arith}
use Rattle.dpl_base.proofs.root_below.Goals as goal

pub returns : goal.returns
returns c =
    let e : c.loop-high.high ≡ c.loop-high.low + 1 = omega arith in
    record { square = c.loop-high.invariant.square; next = subst (λ (n : ℕ). c.args.n < n * n) e c.loop-high.invariant.next }
