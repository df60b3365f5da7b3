use Rattle.std.proofs.Common.{◌≡◌, ℕ, map, vec_len}
use Rattle.dpl_deal.specs.Hands.{EachAt}
use Rattle.dpl_pool.specs.Numbering.{tiles_before}
use Rattle.dpl_pool.proofs.numbers.Numbers.of.Given as goal

abbrev pub invariant-loop-job : goal.invariant-loop-job
invariant-loop-job g l = (vec_len l.firsts ≡ l.job-index)
    × EachAt (λ (j first : ℕ). first ≡ tiles_before j (map g.J.Job.sheet l.jobs)) l.firsts.items
    × (l.tiles ≡ tiles_before l.job-index (map g.J.Job.sheet l.jobs))
