use Rattle.std.proofs.Common.{None}
use Rattle.std.proofs.lemmas.List.{take_more}
use Rattle.std.proofs.lemmas.Slice.Zip.{all_zipped_more}
use Rattle.dpl_layer.specs.Many.{IsReadIn}
use Rattle.dpl_layer.proofs.many.layers_in.Goals as goal

pub loop-choice-preserved : goal.loop-choice-preserved
loop-choice-preserved c =
    rw (take_more c.args.choices.now c.loop-choice.choice-index (record { top = None; layer = 0; datatype = 0 }) c.loop-choice-test.true, c.in_ok-push.ensures.items)
    (all_zipped_more (IsReadIn c.args.lib.now) _ _ _ _ c.loop-choice.invariant c.in_ok-read_layer.ensures)
