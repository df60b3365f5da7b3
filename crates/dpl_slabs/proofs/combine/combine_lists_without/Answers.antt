use Rattle.std.proofs.Common.{arith}
use Rattle.std.proofs.lemmas.Result.{IfOk-weaker, IfOk-from_err}
use Rattle.dpl_sweep.specs.Edges.{Told}
use Rattle.dpl_slabs.specs.Cells.{Chosen}
use Rattle.dpl_slabs.specs.Slices.{Without}
use Rattle.dpl_slabs.proofs.RowLaws.{slabs-none}
use Rattle.dpl_slabs.proofs.SetLaws.{slabs-of-same}
use Rattle.dpl_slabs.proofs.combine.combine_lists_without.Goals as goal

pub returns-then-is_empty : goal.returns-then-is_empty
returns-then-is_empty c = rw c.new.ensures.items (slabs-none c.args.rects.items c.args.holes.items (let h = c.is_empty.ensures in grind arith))

pub returns-in-Some : goal.returns-in-Some
returns-in-Some c = rw (c.in-Some.is, c.deref.ensures.value, c.deref-2.ensures.value) at c.in_ok-slabs.ensures

pub returns : goal.returns
returns c =
    let rule = c.rule_without-rule.result in
    let told = rw (c.deref-4.ensures.value, c.deref-5.ensures.value) at c.in_ok-edges.ensures.told in
    let without = rw c.deref-3.ensures.value at c.rule_without-rule.ensures in
    IfOk-weaker c.slabs_of_edges.result _ _
    (λ v is. slabs-of-same (Chosen rule c.args.rects.items c.args.holes.items) (Without c.args.rects.items c.args.holes.items) v.items (without c.args.rects.items)
    (slabs-of-same (Told rule c.in_ok-edges.edges.items) (Chosen rule c.args.rects.items c.args.holes.items) v.items (told rule) is)) c.slabs_of_edges.ensures

pub returns-in_err-edges : goal.returns-in_err-edges
returns-in_err-edges c = IfOk-from_err _ _ c.from_residual-in_err-edges.ensures.0

pub returns-in_err-slabs : goal.returns-in_err-slabs
returns-in_err-slabs c = IfOk-from_err _ _ c.from_residual.ensures.0
