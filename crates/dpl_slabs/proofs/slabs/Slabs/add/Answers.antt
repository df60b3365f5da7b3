use Rattle.dpl_spec_split.specs.Loops.{farthest}
use Rattle.dpl_slabs.proofs.SetLaws.{rects-more}
use Rattle.std.proofs.lemmas.Result.{IfOk-from_err}
use Rattle.dpl_slabs.proofs.slabs.Slabs.add.Goals as goal

pub invariant_of-self-2 : goal.invariant_of-self-2
invariant_of-self-2 c = rw c.in_ok-push.ensures.pushed (rw (← c.self.view_is) at c.requires.canonical, rects-more farthest _ c.args.r c.self.invariant.1 c.requires.within)

pub returns-in_err-push-clause-added : goal.returns-in_err-push-clause-added
returns-in_err-push-clause-added c = IfOk-from_err _ _ c.from_residual.ensures.0
