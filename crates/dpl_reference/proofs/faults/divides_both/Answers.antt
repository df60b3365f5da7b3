use Rattle.std.proofs.Common.{rules, refl}
use Rattle.std.specs.Prelude.{FitsSigned}
use Rattle.std.specs.Int.{w16, w64}
use Rattle.std.proofs.lemmas.Int.{to_z-of_z}
use Rattle.dpl_reference.proofs.faults.divides_both.Goals as goal

pub returns-then-divides : goal.returns-then-divides
returns-then-divides c =
    let n : FitsSigned w16 c.args.count = search rules in
    let a : FitsSigned w64 c.args.from.x = search rules in
    let b : FitsSigned w64 c.args.to.x = search rules in
    let p : FitsSigned w64 c.args.from.y = search rules in
    let q : FitsSigned w64 c.args.to.y = search rules in
    let e = simp to_z-of_z at c.if-divides.ensures in
    let f = simp to_z-of_z at c.divides-then-divides.ensures in
    (λ t. record { x = e.0 refl; y = f.0 t }, λ d. f.1 d.y)
