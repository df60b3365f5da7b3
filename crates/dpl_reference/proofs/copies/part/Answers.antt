use Rattle.std.proofs.Common.{rules, arith}
use Rattle.std.specs.Prelude.{FitsSigned, ◌-ℤ◌}
use Rattle.std.specs.Int.{w16, w64}
use Rattle.std.proofs.lemmas.Int.{ints, to_z-of_z}
use Rattle.dpl_reference.proofs.Spacings.{quot_times}
use Rattle.dpl_reference.proofs.copies.part.Goals as goal

pub returns-clause-value : goal.returns-clause-value
returns-clause-value c =
    let n : FitsSigned w16 c.args.count = search rules in
    let a : FitsSigned w64 c.args.from = search rules in
    let b : FitsSigned w64 c.args.to = search rules in
    let d : FitsSigned w64 (c.args.to -ℤ c.args.from) = search (arith, ints) in
    let r : FitsSigned w64 c.share.result = search rules in
    let e = simp to_z-of_z at c.share.ensures.value in
    simp to_z-of_z e

pub returns-clause-within : goal.returns-clause-within
returns-clause-within c =
    let n : FitsSigned w16 c.args.count = search rules in
    let a : FitsSigned w64 c.args.from = search rules in
    let b : FitsSigned w64 c.args.to = search rules in
    let d : FitsSigned w64 (c.args.to -ℤ c.args.from) = search (arith, ints) in
    let e = simp to_z-of_z at c.share.ensures.value in
    let r : FitsSigned w64 c.share.result = search rules in
    let q = quot_times (c.args.to -ℤ c.args.from) c.args.count in
    simp to_z-of_z (rw e (omega (arith, ints, q, c.requires.from, c.requires.to)))
