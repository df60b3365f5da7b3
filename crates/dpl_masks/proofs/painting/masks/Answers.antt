use Rattle.std.proofs.Common.{map}
use Rattle.std.proofs.lemmas.Result.{IfOk-from_err, IfOk-weaker}
use Rattle.dpl_spec_split.specs.Loops.{AreRectsWithin, farthest}
use Rattle.dpl_orient.specs.Masks.{is_second}
use Rattle.dpl_masks.specs.Painting.{AreMasksOf, AreMasksOfCut}
use Rattle.dpl_masks.proofs.SheetLaws.{cut-masks}
use Rattle.dpl_masks.proofs.painting.masks.Goals as goal

pub returns-clause-masks : goal.returns-clause-masks
returns-clause-masks c =
    let inked = c.in_ok-inked.ensures in
    IfOk-weaker c.both.result (AreMasksOfCut c.in_ok-inked.inked.cut (map is_second c.items-letters.result.now)) (AreMasksOf c.args.pieces c.args.colours.now)
    (cut-masks c.args.pieces c.in_ok-inked.inked.cut c.items-letters.result.now c.args.colours.now inked.parts inked.zones inked.sides c.items-letters.ensures)
    c.both.ensures

pub returns-clause-within : goal.returns-clause-within
returns-clause-within c =
    IfOk-weaker c.both.result (AreMasksOfCut c.in_ok-inked.inked.cut (map is_second c.items-letters.result.now)) (λ m. AreRectsWithin farthest m.a × AreRectsWithin farthest m.b)
    (λ m are. are.within) c.both.ensures

pub returns-in_err-inked-clause-masks : goal.returns-in_err-inked-clause-masks
returns-in_err-inked-clause-masks c = IfOk-from_err _ _ c.from_residual.ensures.0

pub returns-in_err-inked-clause-within : goal.returns-in_err-inked-clause-within
returns-in_err-inked-clause-within c = IfOk-from_err _ _ c.from_residual.ensures.0
