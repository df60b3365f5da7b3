use Rattle.std.proofs.Common.{◌<◌, length, get_or, map, refl, ap, ◌∙◌, rules}
use Rattle.std.proofs.lemmas.List.{take_all}
use Rattle.std.proofs.lemmas.Result.{IfOk-from_err}
use Rattle.dpl_sides.specs.Pieces.{rect_at}
use Rattle.dpl_piece.proofs.Taken.{one-more}
use Rattle.dpl_piece.proofs.own.holes_at.Goals as goal

pub returns-in_err-holes : goal.returns-in_err-holes
returns-in_err-holes c = IfOk-from_err _ _ c.from_residual.ensures.0

pub returns-in_err-push : goal.returns-in_err-push
returns-in_err-push c = IfOk-from_err _ _ c.from_residual-in_err-push.ensures.0

pub bounds-zones-number : goal.bounds-zones-number
bounds-zones-number c = c.requires c.loop-number.number-index 0 c.loop-number-test.true

pub offset_bounds-zones-number : goal.offset_bounds-zones-number
offset_bounds-zones-number c =
    let known : get_or c.args.numbers.now c.loop-number.number-index 0 < length c.args.zones.now = c.requires c.loop-number.number-index 0 c.loop-number-test.true in
    search rules

pub loop-number-init : goal.loop-number-init
loop-number-init c = c.in_ok-holes.ensures.items

pub loop-number-preserved : goal.loop-number-preserved
loop-number-preserved c =
    one-more (rect_at c.args.zones.now) c.loop-number.holes.items _ _ c.args.numbers.now c.loop-number.number-index 0 c.loop-number-test.true c.in_ok-push.ensures.items refl
    c.loop-number.invariant

pub returns : goal.returns
returns c = c.loop-number.invariant ∙ ap (map (rect_at c.args.zones.now)) (take_all c.loop-number.number-index c.args.numbers.now c.loop-number-test.false)
