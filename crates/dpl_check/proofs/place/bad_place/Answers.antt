use Rattle.std.proofs.Common.{List, subst, ◌∙◌, ap, length}
use Rattle.std.proofs.lemmas.Result.{IfOk-from_err}
use Rattle.dpl_spec_split.specs.declared.Rect.{Rect}
use Rattle.dpl_spec_split.specs.Marks.{asked}
use Rattle.dpl_tree.specs.Trees.{AreItemsOf}
use Rattle.dpl_piece.specs.View.{cut_view}
use Rattle.dpl_spec_verdict.specs.Conflicts.{IsBadPlace}
use Rattle.dpl_check.specs.Anchors.{marks_of}
use Rattle.dpl_check.specs.Places.{bare}
use Rattle.dpl_check.proofs.Joining.{same-back, same-bad}
use Rattle.dpl_check.proofs.Finding.{first-same}
use Rattle.dpl_check.proofs.place.bad_place.Goals as goal

pub first_wrong-requires-clause-items : goal.first_wrong-requires-clause-items
first_wrong-requires-clause-items c = subst (λ (t : List (List Rect)). AreItemsOf t c.in_ok-tree.tree) (c.items-parts.ensures.value ∙ c.parts.ensures.value) c.in_ok-tree.ensures

pub first_wrong-requires-clause-stood : goal.first_wrong-requires-clause-stood
first_wrong-requires-clause-stood c = rw (ap length (c.items-parts.ensures.value ∙ c.parts.ensures.value)) at (c.in_ok-stood.ensures c.args.cycle.now)

pub returns : goal.returns
returns c = λ features.
    let marks = asked c.args.marks c.args.mark_a.now c.args.mark_b.now in
    let trees = marks_of c.in_ok-trees.trees in
    let pieces = c.args.cut.now.pieces in
    let same = c.in_ok-trees.ensures in
    first-same (IsBadPlace trees c.args.spacing (bare pieces) c.args.cycle.now c.args.near.now)
    (IsBadPlace marks c.args.spacing (cut_view features pieces) c.args.cycle.now c.args.near.now) c.args.cycle.now c.first_wrong.result
    (λ k place inside. (
      same-bad trees marks same c.args.spacing _ features pieces c.args.cycle.now c.args.near.now k _,
      same-bad marks trees (same-back trees marks same) c.args.spacing features _ pieces c.args.cycle.now c.args.near.now k _,
    )) c.first_wrong.ensures

pub returns-in_err-stood : goal.returns-in_err-stood
returns-in_err-stood c = IfOk-from_err _ _ c.from_residual.ensures.0

pub returns-in_err-tree : goal.returns-in_err-tree
returns-in_err-tree c = IfOk-from_err _ _ c.from_residual-in_err-tree.ensures.0

pub returns-in_err-trees : goal.returns-in_err-trees
returns-in_err-trees c = IfOk-from_err _ _ c.from_residual-in_err-trees.ensures.0
