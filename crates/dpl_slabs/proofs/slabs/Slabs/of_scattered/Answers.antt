use Rattle.dpl_slabs.proofs.ScatteredLaws.{scattered-sorted}
use Rattle.dpl_slabs.proofs.StripLaws.{sorted-within}
use Rattle.dpl_slabs.proofs.slabs.Slabs.of_scattered.Goals as goal

pub of_canonical-requires-clause-canonical : goal.of_canonical-requires-clause-canonical
of_canonical-requires-clause-canonical c = (scattered-sorted c.args.rects.items _ c.requires.scattered c.sort_by_corner.ensures.same c.sort_by_corner.ensures.rise).canonical

pub of_canonical-requires-clause-within : goal.of_canonical-requires-clause-within
of_canonical-requires-clause-within c = sorted-within c.args.rects.items _ c.sort_by_corner.ensures.same c.requires.within

pub returns : goal.returns
returns c = rw c.of_canonical.ensures (scattered-sorted c.args.rects.items _ c.requires.scattered c.sort_by_corner.ensures.same c.sort_by_corner.ensures.rise)
