use Rattle.std.proofs.Common.{◌≡◌, ◌+◌, length, arith, ◌∙◌, ap}
use Rattle.std.proofs.lemmas.Grind.{div_ceil_times}
use Rattle.std.proofs.lemmas.List.{length_push}
use Rattle.dpl_tree.proofs.BlockLaws.{blocks-none, blocks-more, level-all}
use Rattle.dpl_tree.proofs.blocks.level_over.Goals as goal

pub loop-run-init : goal.loop-run-init
loop-run-init g c = record {
  count = rw c.in_ok-level.ensures.items (omega arith);
  blocks = blocks-none g.T.Bounded.block_of c.args.things.now c.in_ok-level.level.items c.in_ok-level.ensures.items;
}

pub loop-run-preserved : goal.loop-run-preserved
loop-run-preserved g c = record {
  count = rw c.in_ok-push.ensures.items (length_push c.loop-run.level.items c.block_over.result ∙ ap (λ n. n + 1) c.loop-run.invariant.count);
  blocks = blocks-more g.T.Bounded.block_of c.args.things.now c.loop-run.level.items c.push.new.self.items c.block_over.result c.in_ok-push.ensures.items
      (rw (← c.loop-run.invariant.count) at c.block_over.ensures) c.loop-run.invariant.blocks;
}

pub returns : goal.returns
returns g c =
    let bounds = div_ceil_times (length c.args.things.now) 8 (omega arith) in
    let low = bounds.0 in
    let high = bounds.1 in
    let count = c.div_ceil-count.ensures in
    let all : length c.loop-run.level.items ≡ c.div_ceil-count.result = (let n = c.loop-run.invariant.count in
    let end = c.loop-run.auto.run-end in omega (arith, n, end, c.loop-run-test.false)) in
    level-all g.T.Bounded.block_of c.args.things.now c.loop-run.level.items (rw (all, count) low) (rw (all, count) high) c.loop-run.invariant.blocks
