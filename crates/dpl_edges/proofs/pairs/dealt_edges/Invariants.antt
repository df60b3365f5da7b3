use Rattle.dpl_tile.specs.Adding.{Adds}
use Rattle.dpl_tile.proofs.Adding.{OfFirst}
use Rattle.dpl_edges.proofs.Finding.{IsDealtIn}
use Rattle.dpl_edges.proofs.pairs.dealt_edges.Given as goal

abbrev pub invariant-loop-strip : goal.invariant-loop-strip
invariant-loop-strip l = Adds (OfFirst (IsDealtIn l.spacing l.owners l.join l.workers l.worker) l.strip) l.initial.found.items l.found.items
