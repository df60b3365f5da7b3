use Rattle.std.proofs.Common.{◌≡◌, ◌∙◌, ap, subst, List}
use Rattle.std.proofs.lemmas.Result.{IfOk-weaker, IfOk-from_err}
use Rattle.dpl_spec_split.specs.Slabs.{AreSlabsOf}
use Rattle.dpl_spec_split.specs.Squares.{Covers}
use Rattle.dpl_spec_edits.specs.declared.Edit.{Edit}
use Rattle.dpl_spec_edits.specs.Edits.{edited}
use Rattle.dpl_answer.specs.View.{flat_view}
use Rattle.dpl_words.specs.Meaning.{SplitValues}
use Rattle.dpl_decide.specs.Deciding.{Decides}
use Rattle.dpl_run.specs.Split.{plan_of, split_spacing}
use Rattle.dpl_run.specs.View.{output_view}
use Rattle.dpl_run.proofs.edit.edit_by.Goals as goal

pub edited-requires : goal.edited-requires
edited-requires g c = rw c.as_slice.ensures.value c.requires.edits

pub returns : goal.returns
returns g c =
    let after = c.in_ok-after.after in
    let squares = subst (λ (es : List Edit). AreSlabsOf (edited (Covers c.args.layer.slabs) es) after) c.as_slice.ensures.value c.in_ok-after.ensures in
    let flat = flat_view c.in_ok-answer.answer in
    let split = c.split_by-split.ensures in
    let asked = c.order_of-order.ensures in
    let fewer = asked.fewer ∙ ap (λ (w : SplitValues). w.fewer) split in
    let spacing = asked.spacing ∙ ap split_spacing split in
    let overlap = asked.overlap ∙ ap (λ (w : SplitValues). w.overlap) split in
    IfOk-weaker c.decided.result _ _
    (λ x is. (
      after,
      squares,
      flat,
      rw (fewer, spacing, overlap) at c.in_ok-answer.ensures.flat,
      subst (λ (w : SplitValues). output_view x ≡ plan_of w (Decides c.args.layer.copied.items flat)) split is,
    )) c.decided.ensures

pub returns-in_err-after : goal.returns-in_err-after
returns-in_err-after g c = IfOk-from_err _ _ c.from_residual.ensures.0

pub returns-in_err-answer : goal.returns-in_err-answer
returns-in_err-answer g c = IfOk-from_err _ _ c.from_residual-in_err-answer.ensures.0
