use Rattle.std.proofs.Common.{sym}
use Rattle.std.proofs.lemmas.Result.{IfOk-weaker, IfOk-from_err}
use Rattle.dpl_spec_split.specs.Squares.{Covers}
use Rattle.dpl_tree.specs.declared.owners.Owners.TheVariants.{Only}
use Rattle.dpl_nearest.specs.Search.{ItemCovers}
use Rattle.dpl_piece.proofs.CornerLaws.{zip-length}
use Rattle.dpl_spec_verdict.specs.Masks.{AreTooClose}
use Rattle.dpl_check.specs.Owned.{AreForeign, corner}
use Rattle.dpl_check.proofs.Apart.{pair-same, corners-covered, owned-once, foreign-close, feature-items}
use Rattle.dpl_check.proofs.spacing.too_close.Goals as goal

pub owners_of-requires-clause-items : goal.owners_of-requires-clause-items
owners_of-requires-clause-items c = feature-items c.args.features.now c.items.result.now c.in_ok-tree.tree c.items.ensures.value c.items.ensures.parts c.in_ok-tree.ensures

pub owners_of-requires-clause-inside : goal.owners_of-requires-clause-inside
owners_of-requires-clause-inside c =
    let are = rw c.items.ensures.value at c.in_ok-tree.ensures in
    rw c.rects-rects.ensures.value
    (corners-covered c.args.layer.now c.args.features.now c.in_ok-tree.tree c.args.mask.now c.requires.features are
    c.rects-rects.ensures.canonical.solid c.requires.inside)

pub foreign_pair-requires-clause-each : goal.foreign_pair-requires-clause-each
foreign_pair-requires-clause-each c = rw c.deref.ensures.value
    (sym (zip-length (λ r k. ItemCovers (Only k) c.in_ok-tree.tree (corner r)) c.rects-rects.result.now c.in_ok-owners.owners.items
    c.in_ok-owners.ensures))

pub foreign_pair-requires-clause-once : goal.foreign_pair-requires-clause-once
foreign_pair-requires-clause-once c =
    let are = rw c.items.ensures.value at c.in_ok-tree.ensures in
    let own = rw c.rects-rects.ensures.value at c.in_ok-owners.ensures in
    rw (c.deref.ensures.value, c.rects-rects.ensures.value)
    (owned-once c.args.layer.now c.args.features.now c.in_ok-tree.tree c.args.mask.now c.requires.features are
    c.rects-rects.ensures.canonical.solid c.requires.inside c.in_ok-owners.owners.items own)

pub returns : goal.returns
returns c =
    let are = rw c.items.ensures.value at c.in_ok-tree.ensures in
    let own = rw c.rects-rects.ensures.value at c.in_ok-owners.ensures in
    let pair = rw (c.deref.ensures.value, c.rects-rects.ensures.value) at c.foreign_pair.ensures in
    IfOk-weaker c.foreign_pair.result _ _ (λ found h. pair-same (AreForeign c.args.spacing c.args.mask.now c.in_ok-owners.owners.items)
    (AreTooClose c.args.spacing (Covers c.args.layer.now) (Covers c.args.mask.now)) found
    (foreign-close c.args.layer.now c.args.features.now c.in_ok-tree.tree c.args.mask.now c.requires.features are
    c.rects-rects.ensures.canonical.solid c.requires.inside c.in_ok-owners.owners.items own c.args.spacing) h) pair

pub returns-in_err-tree : goal.returns-in_err-tree
returns-in_err-tree c = IfOk-from_err _ _ c.from_residual.ensures.0

pub returns-in_err-owners : goal.returns-in_err-owners
returns-in_err-owners c = IfOk-from_err _ _ c.from_residual-in_err-owners.ensures.0
