use Rattle.std.proofs.lemmas.Result.{IfOk-weaker, IfOk-from_err}
use Rattle.dpl_spec_split.specs.Squares.{Covers}
use Rattle.dpl_spec_split.specs.Slabs.{AreSlabsOf}
use Rattle.dpl_spec_edits.specs.Edits.{edited}
use Rattle.dpl_edits.proofs.ChangeLaws.{edited-slabs}
use Rattle.dpl_edits.proofs.applying.edited.Goals as goal

pub returns : goal.returns
returns c =
    IfOk-weaker c.made_to.result _ (λ s. AreSlabsOf (edited (Covers c.args.layer) c.args.edits.now) s)
    (λ s h. edited-slabs c.args.layer s c.args.edits.now c.in_ok-change.change c.in_ok-change.ensures.change h) c.made_to.ensures

pub returns-in_err-change : goal.returns-in_err-change
returns-in_err-change c = IfOk-from_err _ _ c.from_residual.ensures.0
