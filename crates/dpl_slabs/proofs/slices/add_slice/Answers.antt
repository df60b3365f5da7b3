use Rattle.std.proofs.Common.{◌++◌, arith, w32}
use Rattle.std.proofs.lemmas.Int.{ints, to_z-of_z}
use Rattle.std.proofs.lemmas.List.{append_assoc}
use Rattle.dpl_slabs.specs.Slices.{Without}
use Rattle.dpl_slabs.proofs.SliceLaws.{apart-after, below-beside, below-permuted, pieces-next}
use Rattle.std.proofs.lemmas.Result.{IfOk-from_err}
use Rattle.dpl_slabs.proofs.slices.add_slice.Goals as goal

pub joined-requires : goal.joined-requires
joined-requires c =
    let slabs = rw (to_z-of_z w32 c.args.low c.ranges.low, to_z-of_z w32 c.args.high c.ranges.high) at c.in_ok-more.ensures.pieces in
    let next = pieces-next c.args.low c.args.high (Without c.args.rects.now c.args.holes.now)
    (c.args.done.now.items ++ c.args.growing.items) c.in_ok-more.more.items (grind (arith, ints)) c.requires.below slabs in
    apart-after c.args.done.now.items (c.args.growing.items ++ c.in_ok-more.more.items)
    (rw (append_assoc c.args.done.now.items c.args.growing.items c.in_ok-more.more.items) at next.apart)

pub returns-clause-below : goal.returns-clause-below
returns-clause-below c =
    let slabs = rw (to_z-of_z w32 c.args.low c.ranges.low, to_z-of_z w32 c.args.high c.ranges.high) at c.in_ok-more.ensures.pieces in
    let a = Without c.args.rects.now c.args.holes.now in
    let next = pieces-next c.args.low c.args.high a (c.args.done.now.items ++ c.args.growing.items) c.in_ok-more.more.items (grind (arith, ints)) c.requires.below slabs in
    let beside = below-beside c.args.high a c.args.done.now.items (c.args.growing.items ++ c.in_ok-more.more.items)
    c.in_ok-pieces.pieces.items (rw (append_assoc c.args.done.now.items c.args.growing.items c.in_ok-more.more.items) at next)
    c.in_ok-pieces.ensures in
    rw (to_z-of_z w32 c.args.high c.ranges.high) (below-permuted c.args.high a _ _ c.in_ok-growing.ensures beside)

pub returns-in_err-more-clause-below : goal.returns-in_err-more-clause-below
returns-in_err-more-clause-below c = IfOk-from_err _ _ c.from_residual.ensures.0

pub returns-in_err-more-clause-over : goal.returns-in_err-more-clause-over
returns-in_err-more-clause-over c = IfOk-from_err _ _ c.from_residual.ensures.0

pub returns-in_err-pieces-clause-below : goal.returns-in_err-pieces-clause-below
returns-in_err-pieces-clause-below c = IfOk-from_err _ _ c.from_residual-in_err-pieces.ensures.0

pub returns-in_err-pieces-clause-over : goal.returns-in_err-pieces-clause-over
returns-in_err-pieces-clause-over c = IfOk-from_err _ _ c.from_residual-in_err-pieces.ensures.0

pub returns-in_err-growing-clause-below : goal.returns-in_err-growing-clause-below
returns-in_err-growing-clause-below c = IfOk-from_err _ _ c.from_residual-in_err-growing.ensures.0

pub returns-in_err-growing-clause-over : goal.returns-in_err-growing-clause-over
returns-in_err-growing-clause-over c = IfOk-from_err _ _ c.from_residual-in_err-growing.ensures.0
