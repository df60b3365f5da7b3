use Rattle.std.proofs.Common.{rules}
use Rattle.std.proofs.lemmas.List.Sorted.{IsPartitionPoint-from_clause}
use Rattle.dpl_join.specs.declared.items.Item.{Item}
use Rattle.dpl_join.specs.Pairs.{item_at}
use Rattle.dpl_shade.specs.Ends.{comes_before}
use Rattle.dpl_shade.proofs.EndLaws.{behind-parted, first-from}
use Rattle.dpl_shade.proofs.ends.first_on.Goals as goal

pub returns : goal.returns
returns c =
    let parted = IsPartitionPoint-from_clause (λ (t : Item). comes_before (item_at c.args.items.now c.args.n).rect t.rect) _ _ c.partition_point.ensures.partitioned
    (behind-parted c.args.items.now c.requires.order c.requires.within c.args.n c.args.end c.requires.part) (λ a r q k. search rules) in
    first-from c.args.items.now c.requires.order c.requires.within c.args.n c.args.end c.requires.part _ c.partition_point.ensures.bound parted.0 parted.1
