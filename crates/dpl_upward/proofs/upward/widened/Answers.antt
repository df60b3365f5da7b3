use Rattle.std.proofs.Common.{rules, w32, FitsSigned}
use Rattle.std.proofs.lemmas.Int.{to_z-of_z}
use Rattle.dpl_upward.proofs.UpwardLaws.{max-known}
use Rattle.dpl_upward.proofs.upward.widened.Goals as goal

pub returns : goal.returns
returns c =
    let bar = c.args.bar in
    let r = c.args.r.now in
    let x0 : FitsSigned w32 bar.x0 = search rules in
    let y0 : FitsSigned w32 bar.y0 = search rules in
    let y1 : FitsSigned w32 bar.y1 = search rules in
    let end : FitsSigned w32 bar.x1 = search rules in
    let other : FitsSigned w32 r.x1 = search rules in
    let m : FitsSigned w32 c.max.result = record { sfits = c.max.type_inv } in
    let value = rw (to_z-of_z w32 bar.x1 end, to_z-of_z w32 r.x1 other) at c.max.ensures.value in
    record {
      left = to_z-of_z w32 bar.x0 x0;
      low = to_z-of_z w32 bar.y0 y0;
      high = to_z-of_z w32 bar.y1 y1;
      over = rw (to_z-of_z w32 c.max.result m) (rw (to_z-of_z w32 bar.x1 end) at c.max.ensures.self_bound);
      past = rw (to_z-of_z w32 c.max.result m) (rw (to_z-of_z w32 r.x1 other) at c.max.ensures.other_bound);
      known = rw (to_z-of_z w32 c.max.result m) (max-known _ _ _ value);
    }
