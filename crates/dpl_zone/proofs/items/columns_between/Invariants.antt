use Rattle.dpl_zone.specs.Columns.{AreSetsBetween}
use Rattle.dpl_zone.specs.Owned.{transposed_parts}
use Rattle.dpl_zone.proofs.items.columns_between.Given as goal

abbrev pub invariant-loop-k : goal.invariant-loop-k
invariant-loop-k l = AreSetsBetween (transposed_parts l.parts) l.start l.k l.items.items
