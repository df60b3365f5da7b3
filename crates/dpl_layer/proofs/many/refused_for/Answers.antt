use Rattle.std.proofs.Common.{List, None, subst}
use Rattle.std.specs.List.{AllZip}
use Rattle.std.proofs.lemmas.List.{take_all, take_more}
use Rattle.std.proofs.lemmas.Slice.Zip.{all_zipped_more}
use Rattle.dpl_layer.specs.Many.{IsReadOf}
use Rattle.dpl_layer.specs.declared.layer.LayerChoice.{LayerChoice}
use Rattle.dpl_layer.proofs.many.refused_for.Goals as goal

pub loop-choice-preserved : goal.loop-choice-preserved
loop-choice-preserved c = λ bytes are.
    rw (take_more c.args.choices.now c.loop-choice._choice-index (record { top = None; layer = 0; datatype = 0 }) c.loop-choice-test.true, c.in_ok-push.ensures.items)
    (all_zipped_more (IsReadOf bytes) _ _ _ _ (c.loop-choice.invariant bytes are) (are _))

pub returns : goal.returns
returns c = λ bytes are.
    subst (λ (l : List LayerChoice). AllZip (IsReadOf bytes) l c.loop-choice.layers.items) (take_all c.loop-choice._choice-index c.args.choices.now c.loop-choice-test.false)
    (c.loop-choice.invariant bytes (rw c.in-Refused.is at are))
