use Rattle.std.proofs.Common.{arith}
use Rattle.std.proofs.lemmas.Result.{IfOk-weaker}
use Rattle.dpl_spec_split.specs.Loops.{farthest}
use Rattle.dpl_slabs.specs.Cells.{Chosen}
use Rattle.dpl_slabs.specs.Slices.{Without}
use Rattle.dpl_slabs.proofs.SetLaws.{slabs-of-same, rects-none}
use Rattle.dpl_slabs.proofs.RowLaws.{slabs-none}
use Rattle.dpl_slabs.proofs.combine.combine_without.Goals as goal

pub returns-then-is_empty-clause-slabs : goal.returns-then-is_empty-clause-slabs
returns-then-is_empty-clause-slabs c = rw c.new.ensures.items (slabs-none c.args.rects.now c.args.holes.now (let h = c.is_empty.ensures in grind arith))

pub returns-then-is_empty-clause-within : goal.returns-then-is_empty-clause-within
returns-then-is_empty-clause-within c = rw c.new.ensures.items (rects-none farthest)

pub returns-clause-slabs : goal.returns-clause-slabs
returns-clause-slabs c =
    IfOk-weaker c.combine.result _ _
    (λ v is. slabs-of-same (Chosen c.rule_without.result c.args.rects.now c.args.holes.now) (Without c.args.rects.now c.args.holes.now) v.items
    (c.rule_without.ensures c.args.rects.now) is) c.combine.ensures.slabs
