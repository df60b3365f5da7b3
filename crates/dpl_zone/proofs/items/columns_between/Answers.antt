use Rattle.std.proofs.Common.{◌≡◌, ◌<◌, length, [], get_or, arith, ◌∙◌}
use Rattle.std.proofs.lemmas.List.{get_or_default}
use Rattle.std.proofs.lemmas.Result.{IfOk-from_err}
use Rattle.dpl_zone.specs.Owned.{transposed_parts}
use Rattle.dpl_zone.proofs.ColumnLaws.{sets-more, sets-none}
use Rattle.dpl_zone.proofs.OwnedLaws.{columns-of_part}
use Rattle.dpl_zone.proofs.items.columns_between.Goals as goal

pub loop-k-init : goal.loop-k-init
loop-k-init c = sets-none (transposed_parts c.args.parts.now) c.args.start _ c.new-items.ensures.items

pub loop-k-preserved : goal.loop-k-preserved
loop-k-preserved c =
    let k_in : c.loop-k.k < length c.args.parts.now = let t = c.loop-k-test.true in let e = c.requires.known in omega (arith, t, e) in
    let own : c.index-parts-k.result ≡ get_or c.args.parts.now c.loop-k.k [] = c.index-parts-k.is ∙ get_or_default _ _ _ _ k_in in
    sets-more (transposed_parts c.args.parts.now) c.args.start c.loop-k.k _ _ c.in_ok-columns.columns.items (omega arith)
    (columns-of_part c.args.parts.now c.loop-k.k c.index-parts-k.result c.in_ok-columns.columns.items k_in own c.in_ok-columns.ensures.slabs) c.in_ok-columns.ensures.within
    (rw c.deref.ensures.value at c.in_ok-add_owner.ensures) c.loop-k.invariant

pub returns : goal.returns
returns c =
    let e : c.loop-k.k ≡ c.args.end = omega arith in
    rw e at c.loop-k.invariant

pub returns-in_err-columns : goal.returns-in_err-columns
returns-in_err-columns c = IfOk-from_err _ _ c.from_residual.ensures.0

pub returns-in_err-add_owner : goal.returns-in_err-add_owner
returns-in_err-add_owner c = IfOk-from_err _ _ c.from_residual-in_err-add_owner.ensures.0
