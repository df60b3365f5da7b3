use Rattle.std.proofs.Common.{◌≡◌, ◌∷◌, IfOk, rules}
use Rattle.std.specs.List.{All}
use Rattle.std.proofs.lemmas.List.Elements.{All-append, All-head, All-tail, All-nil}
use Rattle.dpl_slabs.specs.Made.{IsBlock}
use Rattle.dpl_slabs.proofs.SliceLaws.{All-reverse}
use Rattle.std.proofs.lemmas.Result.{IfOk-from_err}
use Rattle.dpl_slabs.proofs.ahead.blocks_by.Goals as goal

pub loop-list-preserved : goal.loop-list-preserved
loop-list-preserved g c =
    let at = c.loop-list in
    let rest = c.next.new.self.rest.items in
    let steps : at.list-iterator.rest.items ≡ c.in-Some.list ∷ rest = search rules in
    let left : All (λ r. IfOk r (λ v. All (IsBlock c.args.rects.now) v.items)) (c.in-Some.list ∷ rest) = rw steps at at.invariant.left in
    let first : IfOk c.in-Some.list (λ v. All (IsBlock c.args.rects.now) v.items) = All-head
    (λ r. IfOk r (λ v. All (IsBlock c.args.rects.now) v.items)) c.in-Some.list rest left in
    record {
      made = rw c.in_ok-append.ensures.items
          (All-append (IsBlock c.args.rects.now) at.made.items c.in_ok-list.list.items at.invariant.made (rw c.in_ok-list.was at first));
      left = All-tail (λ r. IfOk r (λ v. All (IsBlock c.args.rects.now) v.items)) c.in-Some.list rest left;
    }

pub returns : goal.returns
returns g c = rw c.reverse.ensures.items (All-reverse (IsBlock c.args.rects.now) c.loop-list.made.items c.loop-list.invariant.made)

pub returns-in_err-lists : goal.returns-in_err-lists
returns-in_err-lists g c = IfOk-from_err _ _ c.from_residual-in_err-lists.ensures.0

pub returns-in_err-append : goal.returns-in_err-append
returns-in_err-append g c = IfOk-from_err _ _ c.from_residual-in_err-append.ensures.0

pub returns-in_err-starts : goal.returns-in_err-starts
returns-in_err-starts g c = IfOk-from_err _ _ c.from_residual.ensures.0

pub returns-then-rects-strips : goal.returns-then-rects-strips
returns-then-rects-strips g c = rw c.new-made.ensures.items (All-nil (IsBlock c.args.rects.now))
