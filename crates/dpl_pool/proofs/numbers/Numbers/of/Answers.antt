use Rattle.std.proofs.Common.{◌≡◌, ◌∙◌, ◌+◌, ◌<◌, ◌++◌, ◌∷◌, [], ℕ, refl, sym, ap, subst, rules, length, vec_len, map, arith}
use Rattle.std.proofs.lemmas.Result.{IfOk-from_err}
use Rattle.std.proofs.lemmas.List.{length-map}
use Rattle.dpl_deal.specs.Hands.{EachAt}
use Rattle.dpl_pool.specs.Numbering.{tiles_before}
use Rattle.dpl_pool.proofs.Members.{numbers_next}
use Rattle.dpl_pool.proofs.Seating.{here}
use Rattle.dpl_pool.proofs.numbers.Numbers.of.Goals as goal

pub loop-job-preserved : goal.loop-job-preserved
loop-job-preserved g c =
    let jobs = c.args.jobs.now in
    let sheets = map g.J.Job.sheet jobs in
    let i = c.loop-job.job-index in
    let inv = c.loop-job.invariant in
    let lt : c.loop-job.job-index < length c.args.jobs.now = c.loop-job-test.true in
    let pushed : c.push.new.self.items ≡ c.loop-job.firsts.items ++ c.loop-job.tiles ∷ [] = search rules in
    let more : vec_len c.push.new.self ≡ vec_len c.loop-job.firsts + 1 = search rules in
    let len : vec_len c.loop-job.firsts ≡ length c.loop-job.firsts.items = search rules in
    let count = c.tiles-tiles.ensures.count ∙ ap length (here g.J.Job.sheet jobs sheets i c.job-item.result [] refl lt c.job-item.is) in
    let n = numbers_next sheets c.loop-job.firsts.items i c.loop-job.tiles c.tiles-tiles.result (sym len ∙ inv.0) (omega (arith, lt, length-map jobs g.J.Job.sheet)) inv.1 inv.2 count in (
      omega (arith, more, inv.0),
      subst (EachAt (λ (j first : ℕ). first ≡ tiles_before j sheets)) (sym pushed) n.0,
      n.1,
    )

pub overflow_add-tiles : goal.overflow_add-tiles
overflow_add-tiles g c =
    let jobs = c.args.jobs.now in
    let sheets = map g.J.Job.sheet jobs in
    let i = c.loop-job.job-index in
    let inv = c.loop-job.invariant in
    let lt : c.loop-job.job-index < length c.args.jobs.now = c.loop-job-test.true in
    let len : vec_len c.loop-job.firsts ≡ length c.loop-job.firsts.items = search rules in
    let count = c.tiles-tiles.ensures.count ∙ ap length (here g.J.Job.sheet jobs sheets i c.job-item.result [] refl lt c.job-item.is) in
    let n = numbers_next sheets c.loop-job.firsts.items i c.loop-job.tiles c.tiles-tiles.result (sym len ∙ inv.0) (omega (arith, lt, length-map jobs g.J.Job.sheet)) inv.1 inv.2 count in
    let most = n.2 in let few = c.requires in omega arith

pub returns-in_err-push : goal.returns-in_err-push
returns-in_err-push g c = IfOk-from_err _ _ c.from_residual.ensures.0
