use Rattle.std.proofs.Common.{refl, sym, rules}
use Rattle.std.specs.Prelude.{FitsSigned}
use Rattle.std.specs.Int.{w16, w32}
use Rattle.std.proofs.lemmas.Int.{to_z-of_z}
use Rattle.dpl_reference.proofs.RoleLaws.{path_role}
use Rattle.dpl_reference.proofs.role.role_of.Goals as goal

pub returns-in-Path : goal.returns-in-Path
returns-in-Path c =
    let w : FitsSigned w32 c.unwrap_or.result = search rules in
    let k : FitsSigned w16 c.unwrap_or-in-Path.result = search rules in
    let b : FitsSigned w32 c.unwrap_or-in-Path-2.result = search rules in
    let e : FitsSigned w32 c.unwrap_or-in-Path-3.result = search rules in
    simp to_z-of_z (rw (c.in-Path.is, c.unwrap_or.ensures, c.unwrap_or-in-Path.ensures, c.unwrap_or-in-Path-2.ensures, c.unwrap_or-in-Path-3.ensures)
    (path_role c.args.chosen c.in-Path.layer c.in-Path.datatype c.in-Path.kind c.in-Path.width c.in-Path.begin_ext c.in-Path.end_ext c.in-Path.xy
    (sym c.if-is_on-3.ensures)))

pub returns-in-Aref : goal.returns-in-Aref
returns-in-Aref c =
    let n : FitsSigned w16 c.in-Aref.columns = search rules in
    let m : FitsSigned w16 c.in-Aref.rows = search rules in
    simp to_z-of_z (rw c.in-Aref.is (record { loops = refl; count = refl; refused = λ f fault. fault; taken = λ f fault. fault; points = λ points. points }))
