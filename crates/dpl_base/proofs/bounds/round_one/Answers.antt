use Rattle.std.proofs.Common.{rules, w32, ◌∙◌}
use Rattle.std.specs.Int.RustNames.{FitsSigned}
use Rattle.std.proofs.lemmas.Int.{to_z-of_z}
use Rattle.dpl_base.proofs.BoundLaws.{round-one-is}
use Rattle.dpl_base.proofs.bounds.round_one.Goals as goal

pub returns : goal.returns
returns c =
    let a : FitsSigned w32 c.min.result = search rules in
    let b : FitsSigned w32 c.min-2.result = search rules in
    let d : FitsSigned w32 c.max.result = search rules in
    let e : FitsSigned w32 c.max-2.result = search rules in
    let p : FitsSigned w32 c.in-Some.b.x0 = search rules in
    let q : FitsSigned w32 c.in-Some.b.y0 = search rules in
    let r : FitsSigned w32 c.in-Some.b.x1 = search rules in
    let s : FitsSigned w32 c.in-Some.b.y1 = search rules in
    let t : FitsSigned w32 c.args.r.now.x0 = search rules in
    let u : FitsSigned w32 c.args.r.now.y0 = search rules in
    let v : FitsSigned w32 c.args.r.now.x1 = search rules in
    let x : FitsSigned w32 c.args.r.now.y1 = search rules in
    round-one-is c.args.before c.in-Some.b c.args.r.now _ c.in-Some.is
    (to_z-of_z w32 _ a ∙ rw (to_z-of_z w32 _ p, to_z-of_z w32 _ t) at c.min.ensures.value)
    (to_z-of_z w32 _ b ∙ rw (to_z-of_z w32 _ q, to_z-of_z w32 _ u) at c.min-2.ensures.value)
    (to_z-of_z w32 _ d ∙ rw (to_z-of_z w32 _ r, to_z-of_z w32 _ v) at c.max.ensures.value)
    (to_z-of_z w32 _ e ∙ rw (to_z-of_z w32 _ s, to_z-of_z w32 _ x) at c.max-2.ensures.value)
