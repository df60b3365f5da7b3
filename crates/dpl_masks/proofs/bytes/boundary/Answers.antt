use Rattle.std.proofs.Common.{refl, rules, w32, FitsSigned}
use Rattle.std.proofs.lemmas.Int.{to_z-of_z}
use Rattle.dpl_masks.specs.Bytes.{boundary_bytes, coordinate_bytes}
use Rattle.dpl_masks.proofs.bytes.boundary.Goals as goal

pub returns : goal.returns
unfolding boundary_bytes coordinate_bytes
returns c =
    let r = c.args.r.now in
    let x0 : FitsSigned w32 r.x0 = search rules in
    let y0 : FitsSigned w32 r.y0 = search rules in
    let x1 : FitsSigned w32 r.x1 = search rules in
    let y1 : FitsSigned w32 r.y1 = search rules in
    let e1 = c.to_be_bytes.ensures in
    let e2 = rw (to_z-of_z w32 r.x0 x0) at c.to_be_bytes-2.ensures in
    let e3 = rw (to_z-of_z w32 r.y0 y0) at c.to_be_bytes-3.ensures in
    let e4 = rw (to_z-of_z w32 r.x1 x1) at c.to_be_bytes-4.ensures in
    let e5 = rw (to_z-of_z w32 r.y1 y1) at c.to_be_bytes-5.ensures in
    rw (e1, e2, e3, e4, e5) refl
