use Rattle.dpl_edges.proofs.Conflicts.{tiles-graph}
use Rattle.dpl_edges.proofs.laws.tiles_make_the_graph.Goals as goal

pub returns : goal.returns
returns c = tiles-graph
