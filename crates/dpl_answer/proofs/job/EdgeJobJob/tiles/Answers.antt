use Rattle.std.proofs.Common.{subst}
use Rattle.std.specs.Prelude.{option_map}
use Rattle.dpl_board.specs.Sheets.{IsSheet}
use Rattle.dpl_answer.specs.Sheets.{MarkedPlan, sheet_of}
use Rattle.dpl_answer.proofs.Sheeting.{marked-sheet}
use Rattle.dpl_answer.proofs.job.EdgeJobJob.tiles.Goals as goal

pub returns-in-None-clause-edges : goal.returns-in-None-clause-edges
returns-in-None-clause-edges c =
    subst (λ (job : MarkedPlan). IsSheet (sheet_of job)) c.self.view_is (marked-sheet c.self.inside.plan (option_map (λ v. v.items) c.self.inside.marked) c.self.invariant)

pub returns-in-Some-clause-edges : goal.returns-in-Some-clause-edges
returns-in-Some-clause-edges c =
    subst (λ (job : MarkedPlan). IsSheet (sheet_of job)) c.self.view_is (marked-sheet c.self.inside.plan (option_map (λ v. v.items) c.self.inside.marked) c.self.invariant)
