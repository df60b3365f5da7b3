use Rattle.std.proofs.Common.{◌<◌, sym, length, get_or, rules, w32, FitsSigned}
use Rattle.std.proofs.lemmas.Int.{to_z-of_z}
use Rattle.std.proofs.lemmas.List.{get_or_default}
use Rattle.dpl_spec_split.specs.declared.Rect.{Rect}
use Rattle.dpl_slabs.proofs.Firsts.{zero}
use Rattle.dpl_slabs.proofs.StripLaws.{lt-from, le-from, max-known}
use Rattle.dpl_slabs.proofs.JointLaws.{above-top, raised-by}
use Rattle.std.proofs.lemmas.Bool.{false≢true}
use Rattle.dpl_slabs.proofs.joint.raised.Goals as goal

pub returns-then-top-rects-clause-none : goal.returns-then-top-rects-clause-none
returns-then-top-rects-clause-none c none =
    let here : c.args.n < length c.args.rects.now = search rules in
    let r : Rect = get_or c.args.rects.now c.args.n zero in
    let fits : FitsSigned w32 r.y0 = search rules in
    let over = rw (to_z-of_z w32 c.args.top c.ranges.top) at c.if-top-rects.true in
    above-top c.args.rects.now c.args.n c.args.top r here (get_or_default c.args.rects.now c.args.n zero r here) c.requires (lt-from _ _ _ (to_z-of_z w32 r.y0 fits) over)

pub returns-clause-some : goal.returns-clause-some
returns-clause-some c =
    let here : c.args.n < length c.args.rects.now = search rules in
    let r : Rect = get_or c.args.rects.now c.args.n zero in
    let fits : FitsSigned w32 r.y1 = search rules in
    let low : FitsSigned w32 r.y0 = search rules in
    let new : FitsSigned w32 c.max.result = search rules in
    let top = to_z-of_z w32 c.args.top c.ranges.top in
    let keeps = rw top at c.max.ensures.self_bound in
    let reaches = rw (to_z-of_z w32 r.y1 fits) at c.max.ensures.other_bound in
    let begins = le-from _ _ _ (to_z-of_z w32 r.y0 low) (rw top at c.if-top-rects.false) in
    let known = max-known _ _ r.y1 _ (to_z-of_z w32 r.y1 fits) (rw top at c.max.ensures.value) in
    rw (to_z-of_z w32 c.max.result new) (raised-by c.args.rects.now c.args.n c.args.top c.max.result r here
    (get_or_default c.args.rects.now c.args.n zero r here) keeps reaches begins known)

pub returns-clause-none : goal.returns-clause-none
returns-clause-none c none = absurd (false≢true (sym none))
