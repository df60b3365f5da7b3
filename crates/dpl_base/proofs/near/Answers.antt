use Rattle.std.proofs.Common.{rules, w32}
use Rattle.std.specs.Int.RustNames.{FitsSigned}
use Rattle.std.proofs.lemmas.Int.{to_z-of_z}
use Rattle.dpl_base.proofs.SpanLaws.{near-from_gaps, span-gap-as}
use Rattle.dpl_base.proofs.near.Goals as goal

pub returns : goal.returns
returns c =
    let a0 : FitsSigned w32 c.args.a.now.x0 = search rules in
    let a1 : FitsSigned w32 c.args.a.now.x1 = search rules in
    let b0 : FitsSigned w32 c.args.b.now.x0 = search rules in
    let b1 : FitsSigned w32 c.args.b.now.x1 = search rules in
    let c0 : FitsSigned w32 c.args.a.now.y0 = search rules in
    let c1 : FitsSigned w32 c.args.a.now.y1 = search rules in
    let d0 : FitsSigned w32 c.args.b.now.y0 = search rules in
    let d1 : FitsSigned w32 c.args.b.now.y1 = search rules in
    let are = near-from_gaps c.args.spacing c.args.a.now c.args.b.now _ _ c.requires.corner
    (span-gap-as _ _ _ _ c.span_gap-across.ensures.gap (to_z-of_z w32 _ a0) (to_z-of_z w32 _ a1) (to_z-of_z w32 _ b0) (to_z-of_z w32 _ b1))
    (span-gap-as _ _ _ _ c.span_gap-up.ensures.gap (to_z-of_z w32 _ c0) (to_z-of_z w32 _ c1) (to_z-of_z w32 _ d0) (to_z-of_z w32 _ d1)) in
    (λ h. are.0 (c.too_few.ensures.0 h), λ h. c.too_few.ensures.1 (are.1 h))
