use Rattle.std.proofs.Common.{rules}
use Rattle.std.specs.Prelude.{FitsSigned}
use Rattle.std.specs.Int.{w64}
use Rattle.std.proofs.lemmas.Int.{to_z-of_z}
use Rattle.dpl_walk.proofs.WayLaws.{short_of}
use Rattle.dpl_walk.proofs.ways.shortened.Goals as goal

pub returns : goal.returns
returns c =
    let x : FitsSigned w64 c.dx.result = search rules in
    let y : FitsSigned w64 c.dy.result = search rules in
    simp to_z-of_z (short_of c.args.copies.now c.args.way.now c.through-first.result c.reflect.result c.turns.result c.dx.result
    c.dy.result c.through-first.ensures.target c.through-first.ensures.place c.reflect.ensures c.turns.ensures.value c.dx.ensures
    c.dy.ensures)
