use Rattle.std.proofs.lemmas.Result.{IfOk-from_err}
use Rattle.dpl_spec_layout.specs.Faults.{IsRefused}
use Rattle.dpl_flatten.proofs.FoundLaws.{refusal_first, refusal_there, nowhere_of}
use Rattle.dpl_flatten.proofs.faults.find_refused.Goals as goal

pub refusal-requires-clause-there : goal.refusal-requires-clause-there
refusal-requires-clause-there c = refusal_there c.args.lib.now c.args.links.now.graph.now c.args.top c.args.links.now.marks.now
    c.requires.links.graph_of c.requires.reached c.args.layer c.in-Some.at (rw c.in-Some.is at c.in_ok-found.ensures)

pub returns-in_ok-fault-in-Some-clause-fault : goal.returns-in_ok-fault-in-Some-clause-fault
returns-in_ok-fault-in-Some-clause-fault c = refusal_first c.args.lib.now c.args.links.now.graph.now c.args.top c.args.links.now.marks.now
    c.requires.links.graph_of c.requires.reached c.args.layer c.in-Some.at _ c.requires.whole
    (rw c.in-Some.is at c.in_ok-found.ensures) c.in_ok-fault-in-Some.ensures

pub returns-in-None-clause-sound : goal.returns-in-None-clause-sound
returns-in-None-clause-sound c = record {
  whole = c.requires.whole;
  drawn = nowhere_of c.args.lib.now c.args.links.now.graph.now c.args.top
      c.args.links.now.marks.now c.requires.links.graph_of c.requires.reached (IsRefused c.args.layer)
      (rw c.in-None.is at c.in_ok-found.ensures);
}

pub returns-in_err-found-clause-sound : goal.returns-in_err-found-clause-sound
returns-in_err-found-clause-sound c = IfOk-from_err _ _ c.from_residual.ensures.0
