use Rattle.dpl_edges.proofs.Fixing.{make-graph}
use Rattle.dpl_edges.proofs.laws.marks_make_the_graph.Goals as goal

pub returns : goal.returns
returns c = make-graph
