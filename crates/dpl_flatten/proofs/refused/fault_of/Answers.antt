use Rattle.std.proofs.Common.{rules}
use Rattle.std.specs.Prelude.{FitsSigned}
use Rattle.std.specs.Int.{w16}
use Rattle.std.proofs.lemmas.Int.{to_z-of_z}
use Rattle.std.proofs.lemmas.Result.{IfOk-weaker}
use Rattle.dpl_flatten.proofs.DrawnLaws.{fault_in}
use Rattle.dpl_flatten.proofs.refused.fault_of.Goals as goal

pub array_fault-requires : goal.array_fault-requires
array_fault-requires c = c.in-Array.ensures.points c.requires

pub returns-in-Nothing : goal.returns-in-Nothing
returns-in-Nothing c = c.in-Nothing.ensures.taken

pub returns-in-Boundary : goal.returns-in-Boundary
returns-in-Boundary c = fault_in _ _ _ c.in-Boundary.ensures _ c.boundary_fault.ensures

pub returns-in-Path : goal.returns-in-Path
returns-in-Path c = IfOk-weaker c.path_fault.result _ _ (fault_in _ _ _ c.in-Path.ensures) c.path_fault.ensures

pub returns-in-Single : goal.returns-in-Single
returns-in-Single c = fault_in _ _ _ c.in-Single.ensures _ c.single_fault.ensures

pub returns-in-Array : goal.returns-in-Array
returns-in-Array c =
    let n : FitsSigned w16 c.in-Array.columns = search rules in
    let m : FitsSigned w16 c.in-Array.rows = search rules in
    fault_in _ _ _ c.in-Array.ensures _ (simp to_z-of_z at c.array_fault.ensures)
