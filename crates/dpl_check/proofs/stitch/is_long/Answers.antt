use Rattle.std.proofs.Common.{inl, inr, rules, w32, w64}
use Rattle.std.proofs.lemmas.Bool.{false≢true}
use Rattle.std.proofs.lemmas.Int.{to_z-of_z}
use Rattle.std.specs.Int.RustNames.{FitsSigned}
use Rattle.dpl_check.proofs.stitch.is_long.Goals as goal

pub returns : goal.returns
returns c =
    let a : FitsSigned w32 c.args.r.now.x0 = search rules in
    let b : FitsSigned w32 c.args.r.now.x1 = search rules in
    let d : FitsSigned w32 c.args.r.now.y0 = search rules in
    let e : FitsSigned w32 c.args.r.now.y1 = search rules in
    let f : FitsSigned w64 c.args.r.now.x0 = search rules in
    let g : FitsSigned w64 c.args.r.now.x1 = search rules in
    let h : FitsSigned w64 c.args.r.now.y0 = search rules in
    let i : FitsSigned w64 c.args.r.now.y1 = search rules in
    let wide = rw (to_z-of_z w32 _ a, to_z-of_z w32 _ b, to_z-of_z w64 _ f, to_z-of_z w64 _ g) at c.is_span.ensures in
    let high = rw (to_z-of_z w32 _ d, to_z-of_z w32 _ e, to_z-of_z w64 _ h, to_z-of_z w64 _ i) at c.is_span-2.ensures in (
      λ test. inr (high.0 test),
      λ long. elim long [ inl l ↦ absurd (false≢true (rw c.if-is_span.false at wide.1 l)) | inr l ↦ high.1 l ],
    )
