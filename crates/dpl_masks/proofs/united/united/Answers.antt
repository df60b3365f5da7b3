use Rattle.std.proofs.Common.{arith}
use Rattle.std.proofs.lemmas.Result.{IfOk-from_err}
use Rattle.dpl_orient.specs.Masks.{is_second}
use Rattle.dpl_masks.proofs.SheetLaws.{its-all, its-none}
use Rattle.dpl_masks.proofs.united.united.Goals as goal

pub loop-start-init : goal.loop-start-init
loop-start-init c =
    let inked = c.args.inked.now in
    its-none inked.cut c.args.colours.now inked.inks.items (is_second c.args.letter) c.args.patches.now c.requires.rest c.requires.rise
    _ c.new-rects.ensures.items c.requires.inked

pub returns : goal.returns
returns c =
    let inked = c.args.inked.now in
    its-all inked.cut c.args.colours.now inked.inks.items (is_second c.args.letter) c.args.patches.now c.requires.rest c.requires.rise
    c.loop-start.start _ (omega arith) c.loop-start.invariant

pub returns-in_err-start : goal.returns-in_err-start
returns-in_err-start c = IfOk-from_err _ _ c.from_residual.ensures.0
