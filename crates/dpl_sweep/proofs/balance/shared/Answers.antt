use Rattle.dpl_sweep.proofs.BandLaws.{shared-runs}
use Rattle.dpl_sweep.proofs.balance.shared.Goals as goal

pub returns-in-Some-run-clause-none : goal.returns-in-Some-run-clause-none
returns-in-Some-run-clause-none c n t o = c.one_run.ensures.none n t (shared-runs c.args.rule _ _ _ _ t c.in-Some.ensures.some c.in-Some-run.ensures.some o)
