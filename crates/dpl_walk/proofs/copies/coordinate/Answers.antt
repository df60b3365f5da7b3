use Rattle.std.proofs.Common.{rules, arith, refl}
use Rattle.std.specs.Prelude.{FitsSigned, ◌+ℤ◌}
use Rattle.std.specs.Int.{w64}
use Rattle.std.proofs.lemmas.Int.{ints, to_z-of_z}
use Rattle.dpl_walk.proofs.copies.coordinate.Goals as goal

pub returns-clause-value : goal.returns-clause-value
returns-clause-value c =
    let o : FitsSigned w64 c.args.origin = search rules in
    let x : FitsSigned w64 c.args.across = search rules in
    let y : FitsSigned w64 c.args.up = search rules in
    let a : FitsSigned w64 c.along.result = search rules in
    let b : FitsSigned w64 c.along-2.result = search rules in
    let s : FitsSigned w64 (c.args.origin +ℤ c.along.result) = search (arith, ints, c.along.ensures.within) in
    let t : FitsSigned w64 ((c.args.origin +ℤ c.along.result) +ℤ c.along-2.result) = search (arith, ints, c.along.ensures.within, c.along-2.ensures.within) in
    let e = simp to_z-of_z at c.along.ensures.value in
    let f = simp to_z-of_z at c.along-2.ensures.value in
    simp to_z-of_z (rw (e, f) refl)

pub returns-clause-within : goal.returns-clause-within
returns-clause-within c =
    let o : FitsSigned w64 c.args.origin = search rules in
    let a : FitsSigned w64 c.along.result = search rules in
    let b : FitsSigned w64 c.along-2.result = search rules in
    let s : FitsSigned w64 (c.args.origin +ℤ c.along.result) = search (arith, ints, c.along.ensures.within) in
    let t : FitsSigned w64 ((c.args.origin +ℤ c.along.result) +ℤ c.along-2.result) = search (arith, ints, c.along.ensures.within, c.along-2.ensures.within) in
    simp to_z-of_z (omega (arith, ints, c.along.ensures.within, c.along-2.ensures.within, c.requires.origin))

pub overflow_add-result : goal.overflow_add-result
overflow_add-result c =
    let o : FitsSigned w64 c.args.origin = search rules in
    let a : FitsSigned w64 c.along.result = search rules in
    let b : FitsSigned w64 c.along-2.result = search rules in
    let s : FitsSigned w64 (c.args.origin +ℤ c.along.result) = search (arith, ints, c.along.ensures.within) in
    let t : FitsSigned w64 ((c.args.origin +ℤ c.along.result) +ℤ c.along-2.result) = search (arith, ints, c.along.ensures.within, c.along-2.ensures.within) in
    simp to_z-of_z t
