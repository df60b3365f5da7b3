use Rattle.std.proofs.Common.{◌≡◌, ◌-◌, ℕ, sym, subst, rules, arith, leb}
use Rattle.std.proofs.lemmas.List.Sorted.{IsPartitionPoint-from_clause}
use Rattle.dpl_pool.specs.Numbering.{IsPlace}
use Rattle.dpl_pool.proofs.Numbering.{found_in}
use Rattle.dpl_pool.proofs.numbers.Numbers.place.Goals as goal

pub overflow_sub-job : goal.overflow_sub-job
overflow_sub-job c =
    let is : c.deref.result.now ≡ c.args.self.now.firsts.items = search rules in
    let f = found_in c.deref.result.now c.requires.numbered.0 c.args.self.now c.args.number c.partition_point-job.result is c.requires.numbered.1
    c.requires.below c.partition_point-job.ensures.bound (λ parted.
    IsPartitionPoint-from_clause (λ (x : ℕ). leb x c.args.number) _ _ c.partition_point-job.ensures.partitioned parted (λ a r g h. search rules)) in
    let some = f.some in omega arith

pub overflow_sub-result : goal.overflow_sub-result
overflow_sub-result c =
    let is : c.deref.result.now ≡ c.args.self.now.firsts.items = search rules in
    let f = found_in c.deref.result.now c.requires.numbered.0 c.args.self.now c.args.number c.partition_point-job.result is c.requires.numbered.1
    c.requires.below c.partition_point-job.ensures.bound (λ parted.
    IsPartitionPoint-from_clause (λ (x : ℕ). leb x c.args.number) _ _ c.partition_point-job.ensures.partitioned parted (λ a r g h. search rules)) in
    let low = f.low c.index.result.now in let e = c.index.ensures in omega arith

pub returns : goal.returns
returns c = λ sheets h.
    let is : c.deref.result.now ≡ c.args.self.now.firsts.items = search rules in
    let f = found_in c.deref.result.now sheets c.args.self.now c.args.number c.partition_point-job.result is h
    c.requires.below c.partition_point-job.ensures.bound (λ parted.
    IsPartitionPoint-from_clause (λ (x : ℕ). leb x c.args.number) _ _ c.partition_point-job.ensures.partitioned parted (λ a r g h. search rules)) in
    subst (λ (x : ℕ). IsPlace sheets c.args.number (c.partition_point-job.result - 1) (c.args.number - x)) (sym c.index.ensures) (f.place c.index.result.now)
