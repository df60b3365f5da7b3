use Rattle.std.proofs.Common.{◌≡◌, ◌<◌, [], length, arith, rules}
use Rattle.std.proofs.lemmas.List.{get_or-map, length-map}
use Rattle.std.proofs.lemmas.Result.{IfOk-from_err}
use Rattle.dpl_sides.specs.declared.piece.Piece.{Piece}
use Rattle.dpl_sides.specs.Pieces.{parts_in}
use Rattle.dpl_sides.proofs.CornerLaws.{slabs-none, slabs-next, slabs-sorted}
use Rattle.dpl_sides.proofs.corner.list_slabs.Goals as goal

pub loop-k-init : goal.loop-k-init
loop-k-init c = rw c.clear.ensures.items (slabs-none (parts_in c.args.pieces.now) c.args.from)

pub loop-k-preserved : goal.loop-k-preserved
loop-k-preserved c =
    let here : c.loop-k.k < length c.args.pieces.now = search rules in
    slabs-next (parts_in c.args.pieces.now) c.args.from c.loop-k.k c.loop-k.slabs.items _ (omega arith) c.loop-k.invariant
    (rw (get_or-map (λ x. let u : Piece = x in u.part) c.args.pieces.now c.loop-k.k c.index-pieces-k.result [] here) (rw c.rects.ensures.value at c.in_ok-add_slabs.ensures))

pub returns : goal.returns
returns c =
    let all : c.loop-k.k ≡ length (parts_in c.args.pieces.now) = omega (arith, length-map c.args.pieces.now (λ x. let u : Piece = x in u.part)) in
    slabs-sorted (parts_in c.args.pieces.now) c.args.from (length (parts_in c.args.pieces.now)) _ _ c.sort_by_key.ensures.permutation
    (rw all at c.loop-k.invariant)

pub returns-in_err-add_slabs : goal.returns-in_err-add_slabs
returns-in_err-add_slabs c = IfOk-from_err _ _ c.from_residual.ensures.0
