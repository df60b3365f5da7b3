use Rattle.std.proofs.Common.{rules}
use Rattle.std.specs.Prelude.{FitsSigned}
use Rattle.std.specs.Int.{w64}
use Rattle.std.proofs.lemmas.Int.{to_z-of_z}
use Rattle.dpl_walk.proofs.ListLaws.{steps}
use Rattle.dpl_walk.proofs.copies.copy_place.Goals as goal

pub coordinate-dx-requires-clause-across : goal.coordinate-dx-requires-clause-across
coordinate-dx-requires-clause-across c =
    let x : FitsSigned w64 c.args.copies.now.across.x = search rules in
    simp to_z-of_z (steps _ _ _ _ c.requires.i c.requires.ready.small.across.column)

pub coordinate-dx-requires-clause-up : goal.coordinate-dx-requires-clause-up
coordinate-dx-requires-clause-up c =
    let x : FitsSigned w64 c.args.copies.now.up.x = search rules in
    simp to_z-of_z (steps _ _ _ _ c.requires.j c.requires.ready.small.up.column)

pub coordinate-dy-requires-clause-across : goal.coordinate-dy-requires-clause-across
coordinate-dy-requires-clause-across c =
    let y : FitsSigned w64 c.args.copies.now.across.y = search rules in
    simp to_z-of_z (steps _ _ _ _ c.requires.i c.requires.ready.small.across.row)

pub coordinate-dy-requires-clause-up : goal.coordinate-dy-requires-clause-up
coordinate-dy-requires-clause-up c =
    let y : FitsSigned w64 c.args.copies.now.up.y = search rules in
    simp to_z-of_z (steps _ _ _ _ c.requires.j c.requires.ready.small.up.row)
