use Rattle.std.proofs.lemmas.Result.{IfOk-from_err}
use Rattle.dpl_masks.proofs.SheetLaws.{owners-known}
use Rattle.dpl_masks.proofs.ink.inked_pieces.Goals as goal

pub inks_of-requires-clause-known : goal.inks_of-requires-clause-known
inks_of-requires-clause-known c =
    let p = c.args.pieces in
    let some = c.into_cut-cut.ensures.wholes in
    rw (c.deref.ensures.value, c.into_cut-cut.ensures.owners) (owners-known some.features p.parts p.owners p.zones _ _ some.lie some.each)

pub returns-in_err-inks-clause-inked : goal.returns-in_err-inks-clause-inked
returns-in_err-inks-clause-inked c = IfOk-from_err _ _ c.from_residual.ensures.0

pub returns-in_err-inks-clause-parts : goal.returns-in_err-inks-clause-parts
returns-in_err-inks-clause-parts c = IfOk-from_err _ _ c.from_residual.ensures.0

pub returns-in_err-inks-clause-zones : goal.returns-in_err-inks-clause-zones
returns-in_err-inks-clause-zones c = IfOk-from_err _ _ c.from_residual.ensures.0

pub returns-in_err-inks-clause-sides : goal.returns-in_err-inks-clause-sides
returns-in_err-inks-clause-sides c = IfOk-from_err _ _ c.from_residual.ensures.0
