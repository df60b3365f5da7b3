use Rattle.std.proofs.Common.{ap, subst, sym, ◌∙◌}
use Rattle.std.proofs.lemmas.Result.{IfOk-weaker}
use Rattle.dpl_spec_elements.specs.Paths.{corners_of}
use Rattle.dpl_flatten.specs.Loops.{IsLoopOf}
use Rattle.dpl_flatten.proofs.LoopLaws.{round_raised}
use Rattle.dpl_flatten.proofs.loops.loop_of.Goals as goal

pub returns : goal.returns
returns c = IfOk-weaker c.loop_round.result _ _
    (λ ps is. subst (IsLoopOf c.args.rect.now) (sym (is ∙ ap corners_of c.of.ensures)) (round_raised c.args.rect.now c.raised.result c.raised.ensures))
    c.loop_round.ensures
