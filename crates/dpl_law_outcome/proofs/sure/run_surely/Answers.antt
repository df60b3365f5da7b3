use Rattle.std.proofs.Common.{refl, subst, arith}
use Rattle.dpl_run.specs.Outcome.{IsStill, TellsFaults}
use Rattle.dpl_run.specs.declared.status.Status.{Status}
use Rattle.dpl_run.specs.declared.status.Status.TheVariants.{ReadFault, WriteFault}
use Rattle.dpl_law_outcome.proofs.sure.run_surely.Goals as goal

none_read : TellsFaults ReadFault 0 0 0 0 → ⊥
none_read h = omega (arith, h.0)

none_written : TellsFaults WriteFault 0 0 0 0 → ⊥
none_written h = omega (arith, h.1)

still : IsStill 0 0
still = (refl, omega arith)

pub returns-clause-no_read_fault : goal.returns-clause-no_read_fault
returns-clause-no_read_fault g c = λ is. none_read (subst (λ (s : Status). TellsFaults s 0 0 0 0) is c.run.ensures.faults)

pub returns-clause-no_write_fault : goal.returns-clause-no_write_fault
returns-clause-no_write_fault g c = λ is. none_written (subst (λ (s : Status). TellsFaults s 0 0 0 0) is c.run.ensures.faults)

pub returns-clause-complete : goal.returns-clause-complete
returns-clause-complete g c = c.run.ensures.complete still still
