use Rattle.std.proofs.Common.{rules, w32, w64, FitsSigned}
use Rattle.std.proofs.lemmas.Int.{to_z-of_z}
use Rattle.dpl_corners.proofs.corners.spanned.Goals as goal

pub returns : goal.returns
returns c =
    let px : FitsSigned w64 c.args.p.now.x = search rules in
    let py : FitsSigned w64 c.args.p.now.y = search rules in
    let qx : FitsSigned w64 c.args.q.now.x = search rules in
    let qy : FitsSigned w64 c.args.q.now.y = search rules in
    let x0 : FitsSigned w32 c.ordered-x0.result.0 = search rules in
    let x1 : FitsSigned w32 c.ordered-x0.result.1 = search rules in
    let y0 : FitsSigned w32 c.ordered-y0.result.0 = search rules in
    let y1 : FitsSigned w32 c.ordered-y0.result.1 = search rules in
    record {
      columns = rw (to_z-of_z w32 c.ordered-x0.result.0 x0, to_z-of_z w32 c.ordered-x0.result.1 x1)
          (rw (to_z-of_z w64 c.args.p.now.x px, to_z-of_z w64 c.args.q.now.x qx) at c.ordered-x0.ensures);
      rows = rw (to_z-of_z w32 c.ordered-y0.result.0 y0, to_z-of_z w32 c.ordered-y0.result.1 y1)
          (rw (to_z-of_z w64 c.args.p.now.y py, to_z-of_z w64 c.args.q.now.y qy) at c.ordered-y0.ensures);
    }
