use Rattle.std.proofs.Common.{length}
use Rattle.std.proofs.lemmas.Result.{IfOk-from_err}
use Rattle.dpl_crowd.specs.Crowds.{graph_in}
use Rattle.dpl_crowd.proofs.LeastLaws.{least-as, on-beside}
use Rattle.dpl_crowd.proofs.NearLaws.{found-below}
use Rattle.dpl_crowd.proofs.least.least_beside.Goals as goal

pub least_on-requires : goal.least_on-requires
least_on-requires c = rw c.deref.ensures.value (found-below c.args.crowd.now c.args.v (length c.args.levels.now) c.in_ok-found.found.items c.in_ok-found.ensures c.requires.each)

pub returns : goal.returns
returns c = least-as _ _ (on-beside (graph_in c.args.crowd.now) c.in_ok-found.found.items c.args.levels.now c.args.v c.args.from c.args.level c.in_ok-found.ensures) c.least_on.result
    (rw c.deref.ensures.value at c.least_on.ensures)

pub returns-in_err-found : goal.returns-in_err-found
returns-in_err-found c = IfOk-from_err _ _ c.from_residual.ensures.0
