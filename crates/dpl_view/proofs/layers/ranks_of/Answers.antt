use Rattle.std.proofs.Common.{subst}
use Rattle.std.proofs.lemmas.Result.{IfOk-from_err}
use Rattle.dpl_view.specs.Ranks.{AreNoted}
use Rattle.dpl_view.proofs.RankLaws.{ranks-more}
use Rattle.dpl_view.proofs.layers.ranks_of.Goals as goal

pub loop-structure-preserved : goal.loop-structure-preserved
loop-structure-preserved c = ranks-more c.args.lib.now c.loop-structure.structure c.loop-structure.ranks.items c.note_ranks.new.ranks.items
    (subst (λ es. AreNoted es c.loop-structure.ranks.items c.note_ranks.new.ranks.items) c.elements.ensures.same c.in_ok-note_ranks.ensures) c.loop-structure.invariant

pub returns-in_err-note_ranks : goal.returns-in_err-note_ranks
returns-in_err-note_ranks c = IfOk-from_err _ _ c.from_residual.ensures.0
