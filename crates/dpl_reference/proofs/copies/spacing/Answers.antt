use Rattle.std.proofs.Common.{rules, arith}
use Rattle.std.specs.Prelude.{FitsSigned}
use Rattle.std.specs.Int.{w16, w64}
use Rattle.std.proofs.lemmas.Int.{to_z-of_z, ints}
use Rattle.dpl_place.proofs.Turning.{same_point}
use Rattle.dpl_reference.proofs.copies.spacing.Goals as goal

pub returns-clause-value : goal.returns-clause-value
returns-clause-value c =
    let n : FitsSigned w16 c.args.count = search rules in
    let a : FitsSigned w64 c.args.from.x = search rules in
    let b : FitsSigned w64 c.args.to.x = search rules in
    let p : FitsSigned w64 c.args.from.y = search rules in
    let q : FitsSigned w64 c.args.to.y = search rules in
    let r : FitsSigned w64 c.part.result = search rules in
    let s : FitsSigned w64 c.part-2.result = search rules in
    let x = simp to_z-of_z at c.part.ensures.value in
    let y = simp to_z-of_z at c.part-2.ensures.value in
    same_point _ _ (simp to_z-of_z x) (simp to_z-of_z y)

pub part-requires-clause-count : goal.part-requires-clause-count
part-requires-clause-count c = omega (arith, ints, c.requires.count)

pub part-requires-clause-from : goal.part-requires-clause-from
part-requires-clause-from c = omega (arith, ints, c.requires.from.column)

pub part-requires-clause-to : goal.part-requires-clause-to
part-requires-clause-to c = omega (arith, ints, c.requires.to.column)

pub part-requires-2-clause-count : goal.part-requires-2-clause-count
part-requires-2-clause-count c = omega (arith, ints, c.requires.count)

pub part-requires-2-clause-from : goal.part-requires-2-clause-from
part-requires-2-clause-from c = omega (arith, ints, c.requires.from.row)

pub part-requires-2-clause-to : goal.part-requires-2-clause-to
part-requires-2-clause-to c = omega (arith, ints, c.requires.to.row)

pub returns-clause-within : goal.returns-clause-within
returns-clause-within c =
    let n : FitsSigned w16 c.args.count = search rules in
    let r : FitsSigned w64 c.part.result = search rules in
    let s : FitsSigned w64 c.part-2.result = search rules in
    let x = simp to_z-of_z at c.part.ensures.within in
    let y = simp to_z-of_z at c.part-2.ensures.within in
    record { column = simp to_z-of_z x; row = simp to_z-of_z y }
