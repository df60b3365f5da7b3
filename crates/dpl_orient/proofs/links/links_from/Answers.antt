use Rattle.std.proofs.Common.{rules, ◌≤◌, ltb, leb}
use Rattle.std.proofs.lemmas.List.Sorted.{IsPartitionedBy-ltb, IsPartitionedBy-leb, IsPartitionPoint-from_clause}
use Rattle.dpl_orient.specs.declared.links.Link.{Link}
use Rattle.dpl_orient.proofs.Queues.{ends-in-order, range-filter}
use Rattle.dpl_orient.proofs.links.links_from.Goals as goal

pub slice_bounds-result-count : goal.slice_bounds-result-count
slice_bounds-result-count c =
    ends-in-order c.args.links.now c.args.root _ _
    (IsPartitionPoint-from_clause (λ (l : Link). ltb l.from c.args.root) _ _ c.partition_point-start.ensures.partitioned
    (IsPartitionedBy-ltb (λ (l : Link). l.from) _ c.args.root c.requires) (λ a r g h. search rules))
    (IsPartitionPoint-from_clause (λ (l : Link). leb l.from c.args.root) _ _ c.partition_point-end.ensures.partitioned
    (IsPartitionedBy-leb (λ (l : Link). l.from) _ c.args.root c.requires) (λ a r g h. search rules)) c.partition_point-start.ensures.bound

pub slice_bounds-result-start : goal.slice_bounds-result-start
slice_bounds-result-start c =
    let up : c.partition_point-start.result ≤ c.partition_point-end.result = ends-in-order c.args.links.now c.args.root _ _
    (IsPartitionPoint-from_clause (λ (l : Link). ltb l.from c.args.root) _ _ c.partition_point-start.ensures.partitioned
    (IsPartitionedBy-ltb (λ (l : Link). l.from) _ c.args.root c.requires) (λ a r g h. search rules))
    (IsPartitionPoint-from_clause (λ (l : Link). leb l.from c.args.root) _ _ c.partition_point-end.ensures.partitioned
    (IsPartitionedBy-leb (λ (l : Link). l.from) _ c.args.root c.requires) (λ a r g h. search rules)) c.partition_point-start.ensures.bound in
    up

pub returns : goal.returns
returns c =
    range-filter c.args.links.now c.args.root _ _
    (IsPartitionPoint-from_clause (λ (l : Link). ltb l.from c.args.root) _ _ c.partition_point-start.ensures.partitioned
    (IsPartitionedBy-ltb (λ (l : Link). l.from) _ c.args.root c.requires) (λ a r g h. search rules))
    (IsPartitionPoint-from_clause (λ (l : Link). leb l.from c.args.root) _ _ c.partition_point-end.ensures.partitioned
    (IsPartitionedBy-leb (λ (l : Link). l.from) _ c.args.root c.requires) (λ a r g h. search rules)) c.partition_point-start.ensures.bound
