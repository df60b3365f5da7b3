use Rattle.std.proofs.Common.{rules}
use Rattle.std.specs.Prelude.{FitsSigned}
use Rattle.std.specs.Int.{w16, w32, w64}
use Rattle.std.proofs.lemmas.Int.{to_z-of_z}
use Rattle.std.proofs.lemmas.Result.{IfOk-from_err}
use Rattle.dpl_spec_elements.specs.Paths.{path_of}
use Rattle.dpl_spec_layout.specs.Elements.{points_in}
use Rattle.dpl_flatten.proofs.DrawnLaws.{no_path_fault}
use Rattle.dpl_flatten.proofs.shapes.path_fault.Goals as goal

pub returns-in-Ok : goal.returns-in-Ok
returns-in-Ok c =
    let s = c.args.style in
    let w : FitsSigned w32 c.args.style.width = search rules in
    let w' : FitsSigned w64 c.args.style.width = search rules in
    let k : FitsSigned w16 c.args.style.kind = search rules in
    let b : FitsSigned w32 c.args.style.begin_ext = search rules in
    let b' : FitsSigned w64 c.args.style.begin_ext = search rules in
    let e : FitsSigned w32 c.args.style.end_ext = search rules in
    let e' : FitsSigned w64 c.args.style.end_ext = search rules in
    let clean = rw (c.as_slice.ensures.value, c.in_ok-points.ensures.value) at (simp to_z-of_z at c.in-Ok.ensures.faultless) in
    λ f h. no_path_fault (path_of (points_in c.args.xy.now) s.width s.kind s.begin_ext s.end_ext) clean f h

pub returns-in_err-points : goal.returns-in_err-points
returns-in_err-points c = IfOk-from_err _ _ c.from_residual.ensures.0
