use Rattle.std.proofs.Common.{rules, w32}
use Rattle.std.specs.Int.RustNames.{FitsSigned}
use Rattle.std.proofs.lemmas.Int.{to_z-of_z}
use Rattle.std.proofs.Math.Nat.{min-le_left, min-le_right, le-max_left, le-max_right}
use Rattle.dpl_tree.proofs.blocks.over.Goals as goal

pub returns-clause-first : goal.returns-clause-first
returns-clause-first c =
    let a : FitsSigned w32 c.min.result = search rules in
    let b : FitsSigned w32 c.min-2.result = search rules in
    let d : FitsSigned w32 c.max.result = search rules in
    let e : FitsSigned w32 c.max-2.result = search rules in
    let x0 : FitsSigned w32 c.args.a.now.bounds.x0 = search rules in
    let y0 : FitsSigned w32 c.args.a.now.bounds.y0 = search rules in
    let x1 : FitsSigned w32 c.args.a.now.bounds.x1 = search rules in
    let y1 : FitsSigned w32 c.args.a.now.bounds.y1 = search rules in
    rw (to_z-of_z w32 _ a, to_z-of_z w32 _ b, to_z-of_z w32 _ d, to_z-of_z w32 _ e)
    (record {
      inside = record {
        left = rw (to_z-of_z w32 _ x0) at c.min.ensures.self_bound;
        right = rw
            (to_z-of_z w32 _ x1) at c.max.ensures.self_bound;
        low = rw (to_z-of_z w32 _ y0) at c.min-2.ensures.self_bound;
        high = rw
            (to_z-of_z w32 _ y1) at c.max-2.ensures.self_bound;
      };
      least = rw c.min-3.ensures (min-le_left _ _);
      greatest = rw c.max-3.ensures (le-max_left _ _);
    })

pub returns-clause-second : goal.returns-clause-second
returns-clause-second c =
    let a : FitsSigned w32 c.min.result = search rules in
    let b : FitsSigned w32 c.min-2.result = search rules in
    let d : FitsSigned w32 c.max.result = search rules in
    let e : FitsSigned w32 c.max-2.result = search rules in
    let x0 : FitsSigned w32 c.args.b.now.bounds.x0 = search rules in
    let y0 : FitsSigned w32 c.args.b.now.bounds.y0 = search rules in
    let x1 : FitsSigned w32 c.args.b.now.bounds.x1 = search rules in
    let y1 : FitsSigned w32 c.args.b.now.bounds.y1 = search rules in
    rw (to_z-of_z w32 _ a, to_z-of_z w32 _ b, to_z-of_z w32 _ d, to_z-of_z w32 _ e)
    (record {
      inside = record {
        left = rw (to_z-of_z w32 _ x0) at c.min.ensures.other_bound;
        right = rw
            (to_z-of_z w32 _ x1) at c.max.ensures.other_bound;
        low = rw (to_z-of_z w32 _ y0) at c.min-2.ensures.other_bound;
        high = rw
            (to_z-of_z w32 _ y1) at c.max-2.ensures.other_bound;
      };
      least = rw c.min-3.ensures (min-le_right _ _);
      greatest = rw c.max-3.ensures (le-max_right _ _);
    })
