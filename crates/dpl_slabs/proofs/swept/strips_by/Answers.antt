use Rattle.std.proofs.Common.{◌≡◌, ◌∷◌, IfOk, rules}
use Rattle.std.specs.List.{All}
use Rattle.std.proofs.lemmas.List.Elements.{All-head, All-push, All-tail, All-nil}
use Rattle.dpl_slabs.specs.Made.{IsSwept}
use Rattle.dpl_slabs.proofs.SliceLaws.{All-reverse}
use Rattle.std.proofs.lemmas.Result.{IfOk-from_err}
use Rattle.dpl_slabs.proofs.swept.strips_by.Goals as goal

pub loop-swept-preserved : goal.loop-swept-preserved
loop-swept-preserved g c =
    let at = c.loop-swept in
    let rest = c.next.new.self.rest.items in
    let steps : at.swept-iterator.rest.items ≡ c.in-Some.swept ∷ rest = search rules in
    let left : All (λ r. IfOk r (IsSwept c.args.rects.now)) (c.in-Some.swept ∷ rest) = rw steps at at.invariant.left in
    let first : IfOk c.in-Some.swept (IsSwept c.args.rects.now) = All-head (λ r. IfOk r (IsSwept c.args.rects.now)) c.in-Some.swept rest left in
    record {
      made = rw c.in_ok-push.ensures.items
          (All-push (IsSwept c.args.rects.now) at.made.items c.in_ok-swept.swept at.invariant.made (rw c.in_ok-swept.was at first));
      left = All-tail (λ r. IfOk r (IsSwept c.args.rects.now)) c.in-Some.swept rest left;
    }

pub returns : goal.returns
returns g c = rw c.reverse.ensures.items (All-reverse (IsSwept c.args.rects.now) c.loop-swept.made.items c.loop-swept.invariant.made)

pub returns-in_err-all : goal.returns-in_err-all
returns-in_err-all g c = IfOk-from_err _ _ c.from_residual-in_err-all.ensures.0

pub returns-in_err-push : goal.returns-in_err-push
returns-in_err-push g c = IfOk-from_err _ _ c.from_residual-in_err-push.ensures.0

pub returns-in_err-starts : goal.returns-in_err-starts
returns-in_err-starts g c = IfOk-from_err _ _ c.from_residual.ensures.0

pub returns-then-len-lt2 : goal.returns-then-len-lt2
returns-then-len-lt2 g c = rw c.new-made.ensures.items (All-nil (IsSwept c.args.rects.now))

pub returns-then-workers-le1 : goal.returns-then-workers-le1
returns-then-workers-le1 g c = rw c.new-made.ensures.items (All-nil (IsSwept c.args.rects.now))
