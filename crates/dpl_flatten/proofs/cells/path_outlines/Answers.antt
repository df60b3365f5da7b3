use Rattle.std.proofs.Common.{rules, arith}
use Rattle.std.specs.Prelude.{FitsSigned}
use Rattle.std.specs.Int.{w16, w32, w64}
use Rattle.std.proofs.lemmas.Int.{to_z-of_z, ints}
use Rattle.std.proofs.lemmas.Result.{IfOk-from_err}
use Rattle.dpl_spec_elements.specs.Paths.{path_of}
use Rattle.dpl_spec_layout.specs.Elements.{points_in}
use Rattle.dpl_flatten.proofs.WithinLaws.{path_within, only_path_memory}
use Rattle.dpl_flatten.proofs.cells.path_outlines.Goals as goal

pub out_of_memory-requires : goal.out_of_memory-requires
out_of_memory-requires c =
    let s = c.args.style in
    let w : FitsSigned w32 c.args.style.width = search rules in
    let w' : FitsSigned w64 c.args.style.width = search rules in
    let k : FitsSigned w16 c.args.style.kind = search rules in
    let b : FitsSigned w32 c.args.style.begin_ext = search rules in
    let b' : FitsSigned w64 c.args.style.begin_ext = search rules in
    let e : FitsSigned w32 c.args.style.end_ext = search rules in
    let e' : FitsSigned w64 c.args.style.end_ext = search rules in
    let refused = rw (c.as_slice.ensures.value, c.in_ok-points.ensures.value) at (simp to_z-of_z at c.in-Err.ensures.refused) in
    only_path_memory (path_of (points_in c.args.xy.now) s.width s.kind s.begin_ext s.end_ext) c.in-Err.fault c.requires refused

pub returns-clause-within : goal.returns-clause-within
returns-clause-within c =
    let s = c.args.style in
    let w : FitsSigned w32 c.args.style.width = search rules in
    let w' : FitsSigned w64 c.args.style.width = search rules in
    let k : FitsSigned w16 c.args.style.kind = search rules in
    let b : FitsSigned w32 c.args.style.begin_ext = search rules in
    let b' : FitsSigned w64 c.args.style.begin_ext = search rules in
    let e : FitsSigned w32 c.args.style.end_ext = search rules in
    let e' : FitsSigned w64 c.args.style.end_ext = search rules in
    let loops = rw c.as_slice.ensures.value at (simp to_z-of_z at c.in-Ok.ensures.loops) in
    rw loops (path_within c.in_ok-points.points.items s.width s.kind s.begin_ext s.end_ext c.in_ok-points.ensures.within (search rules) (search rules) (search rules))

pub returns-in_err-points-clause-loops : goal.returns-in_err-points-clause-loops
returns-in_err-points-clause-loops c = IfOk-from_err _ _ c.from_residual.ensures.0

pub returns-in_err-points-clause-straight : goal.returns-in_err-points-clause-straight
returns-in_err-points-clause-straight c = IfOk-from_err _ _ c.from_residual.ensures.0

pub returns-in_err-points-clause-within : goal.returns-in_err-points-clause-within
returns-in_err-points-clause-within c = IfOk-from_err _ _ c.from_residual.ensures.0

pub returns-in-Err-clause-loops : goal.returns-in-Err-clause-loops
returns-in-Err-clause-loops c = tt

pub returns-in-Err-clause-straight : goal.returns-in-Err-clause-straight
returns-in-Err-clause-straight c = tt

pub returns-in-Err-clause-within : goal.returns-in-Err-clause-within
returns-in-Err-clause-within c = tt

pub returns-clause-straight : goal.returns-clause-straight
returns-clause-straight c = c.in-Ok.ensures.straight

pub path_loops-requires-clause-points : goal.path_loops-requires-clause-points
path_loops-requires-clause-points c = rw c.as_slice.ensures.value c.in_ok-points.ensures.within

pub path_loops-requires-clause-width : goal.path_loops-requires-clause-width
path_loops-requires-clause-width c = omega (arith, ints)

pub path_loops-requires-clause-begin_ext : goal.path_loops-requires-clause-begin_ext
path_loops-requires-clause-begin_ext c = omega (arith, ints)

pub path_loops-requires-clause-end_ext : goal.path_loops-requires-clause-end_ext
path_loops-requires-clause-end_ext c = omega (arith, ints)

pub returns-clause-loops : goal.returns-clause-loops
returns-clause-loops c =
    let w : FitsSigned w32 c.args.style.width = search rules in
    let w' : FitsSigned w64 c.args.style.width = search rules in
    let k : FitsSigned w16 c.args.style.kind = search rules in
    let b : FitsSigned w32 c.args.style.begin_ext = search rules in
    let b' : FitsSigned w64 c.args.style.begin_ext = search rules in
    let e : FitsSigned w32 c.args.style.end_ext = search rules in
    let e' : FitsSigned w64 c.args.style.end_ext = search rules in
    rw (c.as_slice.ensures.value, c.in_ok-points.ensures.value) at (simp to_z-of_z at c.in-Ok.ensures.loops)
