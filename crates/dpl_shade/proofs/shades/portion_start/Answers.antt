use Rattle.std.proofs.Common.{ltb, arith, rules}
use Rattle.std.proofs.lemmas.Bool.{ltb-false, ltb-true}
use Rattle.std.proofs.lemmas.List.Sorted.{IsPartitionPoint-from_clause, IsPartitionedBy-ltb}
use Rattle.dpl_shade.specs.declared.shades.Shade.{Shade}
use Rattle.dpl_shade.proofs.shades.portion_start.Goals as goal

pub returns : goal.returns
returns c =
    let parted = IsPartitionPoint-from_clause (λ (s : Shade). ltb s.number c.args.n) _ _ c.partition_point.ensures.partitioned
    (IsPartitionedBy-ltb (λ (s : Shade). s.number) _ c.args.n c.requires) (λ a r g h. search rules) in
    record {
      within = c.partition_point.ensures.bound;
      under = λ k d l k_in. ltb-true _ _ (parted.0 k d (omega arith) l);
      over = λ k d m k_in. ltb-false _ _ (parted.1 k d m k_in);
    }
