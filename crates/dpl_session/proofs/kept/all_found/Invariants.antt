use Rattle.std.proofs.Common.{◌≡◌, length}
use Rattle.dpl_session.specs.Kept.{IsChanged}
use Rattle.dpl_session.specs.Kept.{AreFoundIn}
use Rattle.dpl_session.proofs.Gathered.{TookBelow}
use Rattle.dpl_session.proofs.kept.all_found.Given as goal

abbrev pub invariant-loop-cell : goal.invariant-loop-cell
invariant-loop-cell g l = record {
  found : AreFoundIn l.spacing l.index.parts l.index.owners l.cells l.cell-index l.found.tiles.items l.found.edges.items;
  steps : TookBelow (IsChanged l.spacing.rule l.old l.index.parts l.index.owners) l.cells l.cell-index l.fn.steps l.steps;
  room : length l.first ≡ length l.fn.first;
}
