use Rattle.std.proofs.Common.{length, arith, rules}
use Rattle.std.proofs.lemmas.Result.{IfOk-from_err}
use Rattle.dpl_check.proofs.Owning.{owned-solid, single-solid, foreign-within, none-foreign, foreign-covered, some-second, least-foreign}
use Rattle.dpl_check.proofs.spacing.foreign_pair.Goals as goal

pub first_foreign-requires-clause-items : goal.first_foreign-requires-clause-items
first_foreign-requires-clause-items c = owned-solid c.args.rects.now c.args.owners.now c.in_ok-tree.tree c.in_ok-tree.ensures c.requires.solid

pub returns-in_default : goal.returns-in_default
returns-in_default c = none-foreign c.args.spacing c.args.rects.now c.args.owners.now c.in_ok-tree.tree c.in_ok-tree.ensures (rw c.in_default.is at c.first_foreign.ensures)

pub owner_at-requires-clause-x : goal.owner_at-requires-clause-x
owner_at-requires-clause-x c =
    let first = rw c.in-Some.is at c.first_foreign.ensures in
    let near = (foreign-within c.args.spacing c.args.rects.now c.args.owners.now c.in_ok-tree.tree (length c.args.rects.now) c.in-Some.first c.requires.within first.inside).0 in
    omega (arith, near)

pub owner_at-requires-clause-y : goal.owner_at-requires-clause-y
owner_at-requires-clause-y c =
    let first = rw c.in-Some.is at c.first_foreign.ensures in
    let near = (foreign-within c.args.spacing c.args.rects.now c.args.owners.now c.in_ok-tree.tree (length c.args.rects.now) c.in-Some.first c.requires.within first.inside).1 in
    omega (arith, near)

pub owner_at-requires-clause-items : goal.owner_at-requires-clause-items
owner_at-requires-clause-items c = owned-solid c.args.rects.now c.args.owners.now c.in_ok-tree.tree c.in_ok-tree.ensures c.requires.solid

pub unreachable-requires : goal.unreachable-requires
unreachable-requires c =
    let first = rw c.in-Some.is at c.first_foreign.ensures in
    let none = rw c.in_default-owner_at.is at c.owner_at.ensures.none in
    none (search rules) (foreign-covered c.args.spacing c.args.rects.now c.args.owners.now c.in_ok-tree.tree c.in_ok-tree.ensures
    (length c.args.rects.now) c.in-Some.first first.inside)

pub single_tree-requires-clause-x : goal.single_tree-requires-clause-x
single_tree-requires-clause-x c =
    let first = rw c.in-Some.is at c.first_foreign.ensures in
    let near = (foreign-within c.args.spacing c.args.rects.now c.args.owners.now c.in_ok-tree.tree (length c.args.rects.now) c.in-Some.first c.requires.within first.inside).0 in
    omega (arith, near)

pub single_tree-requires-clause-y : goal.single_tree-requires-clause-y
single_tree-requires-clause-y c =
    let first = rw c.in-Some.is at c.first_foreign.ensures in
    let near = (foreign-within c.args.spacing c.args.rects.now c.args.owners.now c.in_ok-tree.tree (length c.args.rects.now) c.in-Some.first c.requires.within first.inside).1 in
    omega (arith, near)

pub first_foreign-requires-2-clause-items : goal.first_foreign-requires-2-clause-items
first_foreign-requires-2-clause-items c = single-solid c.in-Some.first c.in-Some-owner_at.owner c.in_ok-single.single c.in_ok-single.ensures

pub unreachable-requires-in_default-first_foreign : goal.unreachable-requires-in_default-first_foreign
unreachable-requires-in_default-first_foreign c =
    let first = rw c.in-Some.is at c.first_foreign.ensures in
    let owner = rw c.in-Some-owner_at.is at c.owner_at.ensures.some in
    some-second c.args.spacing c.args.rects.now c.args.owners.now c.in_ok-tree.tree c.in_ok-tree.ensures c.requires.once c.in-Some.first
    c.in-Some-owner_at.owner owner c.in_ok-single.single c.in_ok-single.ensures first.inside
    (rw c.in_default-first_foreign.is at c.first_foreign-2.ensures)

pub returns : goal.returns
returns c =
    let first = rw c.in-Some.is at c.first_foreign.ensures in
    let owner = rw c.in-Some-owner_at.is at c.owner_at.ensures.some in
    let second = rw c.in-Some-first_foreign.is at c.first_foreign-2.ensures in
    least-foreign c.args.spacing c.args.rects.now c.args.owners.now c.in_ok-tree.tree c.in_ok-tree.ensures c.requires.once c.in-Some.first
    c.in-Some-owner_at.owner owner c.in_ok-single.single c.in_ok-single.ensures c.in-Some-first_foreign.second first second

pub returns-in_err-tree : goal.returns-in_err-tree
returns-in_err-tree c = IfOk-from_err _ _ c.from_residual.ensures.0

pub returns-in_err-single : goal.returns-in_err-single
returns-in_err-single c = IfOk-from_err _ _ c.from_residual-in_err-single.ensures.0
