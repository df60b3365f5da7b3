use Rattle.std.proofs.lemmas.Result.{IfOk-from_err}
use Rattle.dpl_spec_layout.specs.Faults.{IsMissing}
use Rattle.dpl_flatten.proofs.FoundLaws.{first_of, nowhere_of}
use Rattle.dpl_flatten.proofs.faults.find_missing.Goals as goal

pub returns-in-Some-clause-fault : goal.returns-in-Some-clause-fault
returns-in-Some-clause-fault c layer = first_of c.args.lib.now c.args.links.now.graph.now c.args.top c.args.links.now.marks.now
    c.requires.links.graph_of c.requires.reached (IsMissing c.args.lib.now) c.in-Some.at (rw c.in-Some.is at c.in_ok-found.ensures)

pub returns-in-None-clause-complete : goal.returns-in-None-clause-complete
returns-in-None-clause-complete c = nowhere_of c.args.lib.now c.args.links.now.graph.now c.args.top c.args.links.now.marks.now
    c.requires.links.graph_of c.requires.reached (IsMissing c.args.lib.now) (rw c.in-None.is at c.in_ok-found.ensures)

pub returns-in_err-found-clause-complete : goal.returns-in_err-found-clause-complete
returns-in_err-found-clause-complete c = IfOk-from_err _ _ c.from_residual.ensures.0
