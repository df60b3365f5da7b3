use Rattle.std.proofs.Common.{refl, arith}
use Rattle.std.proofs.lemmas.Int.{ints}
use Rattle.dpl_slabs.specs.Slices.{Without}
use Rattle.dpl_slabs.proofs.SliceLaws.{pieces-none, pieces-permuted, pieces-all}
use Rattle.std.proofs.lemmas.Result.{IfOk-from_err}
use Rattle.dpl_slabs.proofs.slices.pieces_of_slices.Goals as goal

pub loop-cut-init : goal.loop-cut-init
loop-cut-init g c = record {
  below = rw (c.new-done.ensures.items, c.new-growing.ensures.items) (pieces-none _ c.args.rects.now c.args.holes.now refl c.requires.rects);
  made = c.in_ok-made.ensures;
}

pub returns : goal.returns
returns g c =
    let over = c.in_ok-growing-2.ensures.over in
    pieces-permuted (Without c.args.rects.now c.args.holes.now) _ _ c.in_ok-pieces.ensures
    (pieces-all c.in_ok-growing-2.field-0-1 c.args.rects.now c.args.holes.now _ (omega (arith, ints, over)) c.requires.rects c.in_ok-growing-2.ensures.below)

pub returns-in_err-cuts : goal.returns-in_err-cuts
returns-in_err-cuts g c = IfOk-from_err _ _ c.from_residual.ensures.0

pub returns-in_err-made : goal.returns-in_err-made
returns-in_err-made g c = IfOk-from_err _ _ c.from_residual-in_err-made.ensures.0

pub returns-in_err-pieces : goal.returns-in_err-pieces
returns-in_err-pieces g c = IfOk-from_err _ _ c.from_residual-in_err-pieces.ensures.0

pub returns-in_err-growing-2 : goal.returns-in_err-growing-2
returns-in_err-growing-2 g c = IfOk-from_err _ _ c.from_residual-in_err-growing-2.ensures.0

pub returns-in_err-growing : goal.returns-in_err-growing
returns-in_err-growing g c = IfOk-from_err _ _ c.from_residual-in_err-growing.ensures.0
