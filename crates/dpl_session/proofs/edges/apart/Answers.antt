use Rattle.std.proofs.Common.{subst, sym}
use Rattle.dpl_slabs.specs.Parts.{AreParts}
use Rattle.dpl_session.proofs.Alone.{alone_all, alone_parts}
use Rattle.dpl_session.proofs.edges.apart.Goals as goal

pub of-requires : goal.of-requires
of-requires c =
    let over = rw c.rects-r-items.ensures.value at c.loop-r-test.false in
    subst AreParts (sym (alone_all c.args.slabs.now c.loop-r.r-index c.loop-r.sets.items over c.loop-r.invariant))
    (alone_parts c.args.slabs.now c.rects-r-items.ensures.canonical c.rects-r-items.ensures.within)
