use Rattle.dpl_run.proofs.Calls.{no_calls}
use Rattle.dpl_run.proofs.input.read_nothing.Goals as goal

pub returns-clause-calls : goal.returns-clause-calls
returns-clause-calls g c = no_calls
