use Rattle.std.proofs.Common.{ℕ, List, [], length, ap, ◌∙◌, sym, subst}
use Rattle.std.proofs.lemmas.Result.{IfOk-from_err}
use Rattle.std.specs.Prelude.{None, Some}
use Rattle.dpl_spec_split.proofs.MarkLaws.{none-marked}
use Rattle.dpl_spec_verdict.specs.Gains.{AreRootsOf}
use Rattle.dpl_orient.specs.Oriented.{IsEvenBelow}
use Rattle.dpl_piece.specs.View.{cut_view}
use Rattle.dpl_answer.specs.Anchors.{marks_of}
use Rattle.dpl_answer.proofs.Components.{roots-summed}
use Rattle.dpl_answer.proofs.gains.gains_among.Goals as goal

pub roots_below-requires : goal.roots_below-requires
roots_below-requires c =
    subst (λ (n : ℕ). IsEvenBelow n c.args.joined.now) (sym (ap length (c.items.ensures.value ∙ c.parts.ensures.value))) (rw c.in-None.is at c.requires.even)

pub gains_by_roots-requires-clause-roots : goal.gains_by_roots-requires-clause-roots
gains_by_roots-requires-clause-roots c =
    let pieces = c.args.pieces.now in
    let rooted = roots-summed c.args.spacing (cut_view [] pieces) c.args.joined.now _ c.in_ok-roots-in-None.roots.items (rw c.in-None.is at c.requires.sums)
    (ap length (c.items.ensures.value ∙ c.parts.ensures.value)) c.in_ok-roots-in-None.ensures in
    (c.args.spacing, subst (λ (roots : List ℕ). AreRootsOf c.args.spacing pieces.parts pieces.owners roots) (sym c.deref.ensures.value) rooted)

pub returns-in_ok-roots-in-None : goal.returns-in_ok-roots-in-None
returns-in_ok-roots-in-None c = λ features.
    let pieces = c.args.pieces.now in
    let rooted = roots-summed c.args.spacing (cut_view [] pieces) c.args.joined.now _ c.in_ok-roots-in-None.roots.items (rw c.in-None.is at c.requires.sums)
    (ap length (c.items.ensures.value ∙ c.parts.ensures.value)) c.in_ok-roots-in-None.ensures in
    rw c.in-None.is (c.gains_by_roots.ensures c.args.spacing
    (subst (λ (roots : List ℕ). AreRootsOf c.args.spacing pieces.parts pieces.owners roots) (sym c.deref.ensures.value) rooted)
    features None (none-marked c.empty-no_marks.result c.empty-no_marks.ensures))

pub returns-in_ok-marked-in-Some : goal.returns-in_ok-marked-in-Some
returns-in_ok-marked-in-Some c = λ features. rw c.in-Some.is (c.gains_of.ensures features (Some (marks_of c.in-Some.sets.now)) (λ p. c.in_ok-marked-in-Some.ensures.covers p))

pub returns-in_err-roots-in-None : goal.returns-in_err-roots-in-None
returns-in_err-roots-in-None c = λ features. IfOk-from_err _ _ c.from_residual.ensures.0

pub returns-in_err-marked-in-Some : goal.returns-in_err-marked-in-Some
returns-in_err-marked-in-Some c = λ features. IfOk-from_err _ _ c.from_residual-in_err-marked-in-Some.ensures.0
