use Rattle.std.proofs.Common.{refl}
use Rattle.std.proofs.lemmas.Result.{IfOk-from_err}
use Rattle.dpl_sides.specs.Corners.{StandBeside}
use Rattle.dpl_sides.specs.Pieces.{parts_in}
use Rattle.dpl_piece.specs.Pieces.{AreCut}
use Rattle.dpl_piece.proofs.Cuts.{bare, bare-pieces}
use Rattle.dpl_piece.proofs.CornerLaws.{zip-some}
use Rattle.dpl_piece.specs.Wholes.{AreWholes}
use Rattle.dpl_piece.proofs.WholeLaws.{lie-in}
use Rattle.dpl_piece.proofs.cut.bare_of.Goals as goal

pub pieces_of-requires-clause-within : goal.pieces_of-requires-clause-within
pieces_of-requires-clause-within c = rw c.into_vec.ensures.value c.into_vec.ensures.parts.within

pub of-parts-requires : goal.of-parts-requires
of-parts-requires c =
    let cut : AreCut c.args.features c.args.zones.items c.in_ok-cut.cut.pieces.items = rw (c.into_vec.ensures.value, c.deref.ensures.value) at c.in_ok-cut.ensures.cut in
    rw c.in_ok-parts.ensures.parts cut.apart

pub of-requires-clause-bare : goal.of-requires-clause-bare
of-requires-clause-bare c =
    let cut : AreCut c.args.features c.args.zones.items c.in_ok-cut.cut.pieces.items = rw (c.into_vec.ensures.value, c.deref.ensures.value) at c.in_ok-cut.ensures.cut in
    let sides = rw c.deref.ensures.value at c.in_ok-cut.ensures.sides in
    rw (c.of-parts.ensures, c.in_ok-parts.ensures.parts, c.in_ok-parts.ensures.owners)
    (bare c.args.features c.args.zones.items c.requires.features c.requires.zones c.in_ok-cut.cut.pieces.items cut c.into_vec.ensures.parts.within _ sides)

pub of-requires-clause-wholes : goal.of-requires-clause-wholes
of-requires-clause-wholes c =
    let cut : AreCut c.args.features c.args.zones.items c.in_ok-cut.cut.pieces.items = rw (c.into_vec.ensures.value, c.deref.ensures.value) at c.in_ok-cut.ensures.cut in
    let wholes : AreWholes c.args.features c.args.zones.items c.in_ok-cut.cut.wholes.items = rw (c.into_vec.ensures.value, c.deref.ensures.value) at c.in_ok-cut.ensures.wholes in
    rw (c.of-parts.ensures, c.in_ok-parts.ensures.parts, c.in_ok-parts.ensures.owners, c.items-count.ensures.value)
    (lie-in c.args.features c.args.zones.items c.requires.features c.requires.zones c.in_ok-cut.cut.pieces.items cut c.in_ok-cut.cut.wholes.items wholes)

pub returns-clause-pieces : goal.returns-clause-pieces
returns-clause-pieces c =
    let cut : AreCut c.args.features c.args.zones.items c.in_ok-cut.cut.pieces.items = rw (c.into_vec.ensures.value, c.deref.ensures.value) at c.in_ok-cut.ensures.cut in
    rw (c.of.ensures, c.of-parts.ensures, c.in_ok-parts.ensures.parts, c.in_ok-parts.ensures.owners)
    (bare-pieces c.args.features c.args.zones.items c.requires.features c.requires.zones c.in_ok-cut.cut.pieces.items cut)

pub returns-clause-stand : goal.returns-clause-stand
returns-clause-stand c =
    let sides = rw c.deref.ensures.value at c.in_ok-cut.ensures.sides in
    rw (c.of.ensures, c.of-parts.ensures, c.in_ok-parts.ensures.parts) (zip-some (StandBeside (parts_in c.in_ok-cut.cut.pieces.items)) c.args.zones.items _ sides)

pub pieces_of-requires-clause-made : goal.pieces_of-requires-clause-made
pieces_of-requires-clause-made c = rw (c.into_vec.ensures.value, c.deref.ensures.value) c.requires.made

pub returns-in_err-cut-clause-zones : goal.returns-in_err-cut-clause-zones
returns-in_err-cut-clause-zones c = IfOk-from_err _ _ c.from_residual.ensures.0

pub returns-in_err-cut-clause-pieces : goal.returns-in_err-cut-clause-pieces
returns-in_err-cut-clause-pieces c = IfOk-from_err _ _ c.from_residual.ensures.0

pub returns-in_err-cut-clause-stand : goal.returns-in_err-cut-clause-stand
returns-in_err-cut-clause-stand c = IfOk-from_err _ _ c.from_residual.ensures.0

pub returns-in_err-parts-clause-zones : goal.returns-in_err-parts-clause-zones
returns-in_err-parts-clause-zones c = IfOk-from_err _ _ c.from_residual-in_err-parts.ensures.0

pub returns-in_err-parts-clause-pieces : goal.returns-in_err-parts-clause-pieces
returns-in_err-parts-clause-pieces c = IfOk-from_err _ _ c.from_residual-in_err-parts.ensures.0

pub returns-in_err-parts-clause-stand : goal.returns-in_err-parts-clause-stand
returns-in_err-parts-clause-stand c = IfOk-from_err _ _ c.from_residual-in_err-parts.ensures.0

pub pieces_of-requires-clause-features : goal.pieces_of-requires-clause-features
pieces_of-requires-clause-features c = rw c.into_vec.ensures.value c.requires.features

pub pieces_of-requires-clause-zones : goal.pieces_of-requires-clause-zones
pieces_of-requires-clause-zones c = rw (c.into_vec.ensures.value, c.deref.ensures.value) c.requires.zones

pub pieces_of-requires-clause-sorted : goal.pieces_of-requires-clause-sorted
pieces_of-requires-clause-sorted c = rw c.deref.ensures.value c.requires.sorted

pub returns-clause-zones : goal.returns-clause-zones
returns-clause-zones c = rw c.of.ensures refl
