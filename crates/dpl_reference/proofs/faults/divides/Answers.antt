use Rattle.std.proofs.Common.{rules, arith}
use Rattle.std.specs.Prelude.{FitsSigned, ◌-ℤ◌}
use Rattle.std.specs.Int.{w16, w64}
use Rattle.std.proofs.lemmas.Int.{ints, to_z-of_z}
use Rattle.dpl_reference.proofs.faults.divides.Goals as goal

pub returns : goal.returns
returns c =
    let n : FitsSigned w16 c.args.count = search rules in
    let a : FitsSigned w64 c.args.from = search rules in
    let b : FitsSigned w64 c.args.to = search rules in
    let d : FitsSigned w64 (c.args.to -ℤ c.args.from) = search (arith, ints) in
    simp to_z-of_z at c.is_multiple.ensures
