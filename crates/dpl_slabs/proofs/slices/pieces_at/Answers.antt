use Rattle.std.proofs.Common.{w32}
use Rattle.std.proofs.lemmas.Int.{to_z-of_z}
use Rattle.std.proofs.lemmas.List.Elements.{All-contains}
use Rattle.dpl_slabs.specs.Made.{IsSlice}
use Rattle.dpl_slabs.proofs.SliceLaws.{All-some}
use Rattle.dpl_slabs.proofs.slices.pieces_at.Goals as goal

pub returns-in-Some-clause-pieces : goal.returns-in-Some-clause-pieces
returns-in-Some-clause-pieces c =
    let found = rw c.in-Some.is at c.taken.ensures.taken in
    let is = All-contains (IsSlice c.args.rects.now c.args.holes.now) c.args.made.now.items c.in-Some.slice c.requires.made found.0 in
    rw (found.1, found.2, to_z-of_z w32 c.args.low c.ranges.low, to_z-of_z w32 c.args.high c.ranges.high) at is

pub returns-in-Some-clause-made : goal.returns-in-Some-clause-made
returns-in-Some-clause-made c = All-some (IsSlice c.args.rects.now c.args.holes.now) _ _ c.taken.ensures.others c.requires.made

pub returns-in-None-clause-made : goal.returns-in-None-clause-made
returns-in-None-clause-made c = All-some (IsSlice c.args.rects.now c.args.holes.now) _ _ c.taken.ensures.others c.requires.made
