use Rattle.std.proofs.Common.{arith, ◌∙◌}
use Rattle.dpl_tree.proofs.SearchLaws.{up-start}
use Rattle.dpl_tree.proofs.search.highest.Goals as goal

pub loop-level-preserved : goal.loop-level-preserved
loop-level-preserved c = record {
  low = omega (arith, c.loop-level-test.true);
  start = up-start c.loop-level.at c.loop-level.level c.if-at-eq0.true ∙ c.loop-level.invariant.start;
}
