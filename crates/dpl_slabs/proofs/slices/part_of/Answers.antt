use Rattle.std.proofs.Common.{refl, rules, w32, FitsSigned}
use Rattle.std.proofs.lemmas.Int.{to_z-of_z}
use Rattle.dpl_spec_split.specs.declared.Rect.{Rect}
use Rattle.dpl_slabs.proofs.StripLaws.{max-known}
use Rattle.dpl_slabs.proofs.SliceLaws.{min-known, is-part}
use Rattle.dpl_slabs.proofs.slices.part_of.Goals as goal

pub returns : goal.returns
returns c =
    let r : Rect = c.args.r.now in
    let x0 : FitsSigned w32 r.x0 = search rules in
    let x1 : FitsSigned w32 r.x1 = search rules in
    let y0 : FitsSigned w32 r.y0 = search rules in
    let y1 : FitsSigned w32 r.y1 = search rules in
    let low : FitsSigned w32 c.max.result = search rules in
    let high : FitsSigned w32 c.min.result = search rules in
    let max = rw (to_z-of_z w32 r.y0 y0, to_z-of_z w32 c.args.low c.ranges.low) at c.max.ensures.value in
    let max_self = rw (to_z-of_z w32 r.y0 y0) at c.max.ensures.self_bound in
    let max_other = rw (to_z-of_z w32 c.args.low c.ranges.low) at c.max.ensures.other_bound in
    let min = rw (to_z-of_z w32 r.y1 y1, to_z-of_z w32 c.args.high c.ranges.high) at c.min.ensures.value in
    let min_self = rw (to_z-of_z w32 r.y1 y1) at c.min.ensures.self_bound in
    let min_other = rw (to_z-of_z w32 c.args.high c.ranges.high) at c.min.ensures.other_bound in
    rw (to_z-of_z w32 r.x0 x0, to_z-of_z w32 r.x1 x1, to_z-of_z w32 c.max.result low, to_z-of_z w32 c.min.result high)
    (is-part c.args.low c.args.high r _ refl refl max_self max_other (max-known r.y0 c.args.low c.args.low _ refl max) min_self min_other (min-known r.y1 c.args.high _ min))
