use Rattle.std.proofs.lemmas.List.Elements.{All-contains}
use Rattle.dpl_slabs.specs.Made.{IsSwept}
use Rattle.dpl_slabs.proofs.SliceLaws.{All-some}
use Rattle.dpl_slabs.proofs.StripLaws.{rise-take, left-in}
use Rattle.dpl_slabs.proofs.SweptLaws.{swept-joined, swept-next}
use Rattle.std.proofs.lemmas.Result.{IfOk-from_err}
use Rattle.std.proofs.Common.{ℕ, List, take, drop}
use Rattle.std.proofs.lemmas.List.{take-append-drop}
use Rattle.std.specs.List.{Contains}
use Rattle.dpl_spec_split.specs.declared.Rect.{Rect}
use Rattle.dpl_slabs.proofs.swept.add_next.Goals as goal

pub returns-in_err-extend_from_slice-clause-made : goal.returns-in_err-extend_from_slice-clause-made
returns-in_err-extend_from_slice-clause-made g c = All-some (IsSwept c.args.rects.now) _ _ c.taken_strips.ensures.others c.requires.made

pub returns-in-Some-clause-made : goal.returns-in-Some-clause-made
returns-in-Some-clause-made g c = All-some (IsSwept c.args.rects.now) _ _ c.taken_strips.ensures.others c.requires.made

pub returns-in-Some-clause-swept : goal.returns-in-Some-clause-swept
returns-in-Some-clause-swept g c =
    let found = rw c.in-Some.is at c.taken_strips.ensures.taken in
    let some = rw c.in-Some.is at c.taken_strips.ensures.some in
    let is = All-contains (IsSwept c.args.rects.now) c.args.made.now.items c.in-Some.next c.requires.made found.0 in
    rw (c.in_ok-extend_from_slice.ensures.items, c.deref.ensures.value)
    (swept-joined c.args.rects.now _ _ _ _ _ some c.requires.swept (rw found.1 at is))

pub add_strip-requires-clause-rise : goal.add_strip-requires-clause-rise
add_strip-requires-clause-rise g c = rise-take c.strip_length-count.result _ (rise-take _ _ c.requires.swept.rise)

pub returns-in_err-add_strip-clause-made : goal.returns-in_err-add_strip-clause-made
returns-in_err-add_strip-clause-made g c = All-some (IsSwept c.args.rects.now) _ _ c.taken_strips.ensures.others c.requires.made

pub returns-clause-made : goal.returns-clause-made
returns-clause-made g c = All-some (IsSwept c.args.rects.now) _ _ c.taken_strips.ensures.others c.requires.made

pub returns-clause-swept : goal.returns-clause-swept
returns-clause-swept g c =
    swept-next c.args.rects.now _ _ _ c.args.swept.now.end c.strip_length-count.result c.requires.swept c.strip_length-count.ensures.below c.in_ok-add_strip.ensures

pub returns-in_err-extend_from_slice-clause-swept : goal.returns-in_err-extend_from_slice-clause-swept
returns-in_err-extend_from_slice-clause-swept g c = IfOk-from_err _ _ c.from_residual.ensures.0

pub returns-in_err-extend_from_slice-clause-more : goal.returns-in_err-extend_from_slice-clause-more
returns-in_err-extend_from_slice-clause-more g c = IfOk-from_err _ _ c.from_residual.ensures.0

pub returns-in_err-extend_from_slice-clause-start : goal.returns-in_err-extend_from_slice-clause-start
returns-in_err-extend_from_slice-clause-start g c = IfOk-from_err _ _ c.from_residual.ensures.0

pub returns-in_err-add_strip-clause-swept : goal.returns-in_err-add_strip-clause-swept
returns-in_err-add_strip-clause-swept g c = IfOk-from_err _ _ c.from_residual-in_err-add_strip.ensures.0

pub returns-in_err-add_strip-clause-more : goal.returns-in_err-add_strip-clause-more
returns-in_err-add_strip-clause-more g c = IfOk-from_err _ _ c.from_residual-in_err-add_strip.ensures.0

pub returns-in_err-add_strip-clause-start : goal.returns-in_err-add_strip-clause-start
returns-in_err-add_strip-clause-start g c = IfOk-from_err _ _ c.from_residual-in_err-add_strip.ensures.0

pub strip_length-count-requires-clause-rise : goal.strip_length-count-requires-clause-rise
strip_length-count-requires-clause-rise g c = rise-take _ _ c.requires.swept.rise

taken-in : (n m : ℕ) (rs : List Rect) (r : Rect) → Contains (take n (take m rs)) r → Contains rs r
taken-in n m rs r h =
    left-in (take m rs) (drop m rs) rs r (take-append-drop m rs)
    (left-in (take n (take m rs)) (drop n (take m rs)) (take m rs) r (take-append-drop n (take m rs)) h)

pub add_strip-requires-clause-within : goal.add_strip-requires-clause-within
add_strip-requires-clause-within g c = λ r r_in. c.requires.swept.rest_within r (taken-in c.strip_length-count.result _ _ r r_in)

pub add_strip-requires-clause-below : goal.add_strip-requires-clause-below
add_strip-requires-clause-below g c = λ r s r_in s_in. c.requires.swept.below r s r_in (taken-in c.strip_length-count.result _ _ s s_in)
