use Rattle.std.proofs.Common.{◌≡◌, ◌∙◌, ◌++◌, ℕ, List, ap}
use Rattle.std.proofs.lemmas.Result.{IfOk-from_err}
use Rattle.dpl_answer.specs.Anchors.{moved}
use Rattle.dpl_answer.proofs.marks.joined_with.Goals as goal

pub returns : goal.returns
returns c =
    let marked = c.in-Some.marked.items in
    let first : c.extend_from_slice.new.self.items ≡ marked = c.in_ok-extend_from_slice.ensures.items
    ∙ (ap (λ (es : List (ℕ × ℕ)). es ++ c.deref-2.result.now) c.in_ok-all.ensures.items ∙ c.deref-2.ensures.value) in
    let others : c.deref-3.result.now ≡ moved c.args.edges.items = c.deref-3.ensures.value ∙ (c.in_ok-moved.ensures ∙ ap moved c.deref.ensures.value) in
    rw c.in-Some.is (c.in_ok-extend_from_slice-2.ensures.items
    ∙ (ap (λ (es : List (ℕ × ℕ)). es ++ c.deref-3.result.now) first ∙ ap (λ (es : List (ℕ × ℕ)). marked ++ es) others))

pub returns-in_err-moved : goal.returns-in_err-moved
returns-in_err-moved c = IfOk-from_err _ _ c.from_residual.ensures.0

pub returns-in_err-all : goal.returns-in_err-all
returns-in_err-all c = IfOk-from_err _ _ c.from_residual-in_err-all.ensures.0

pub returns-in_err-extend_from_slice : goal.returns-in_err-extend_from_slice
returns-in_err-extend_from_slice c = IfOk-from_err _ _ c.from_residual-in_err-extend_from_slice.ensures.0

pub returns-in_err-extend_from_slice-2 : goal.returns-in_err-extend_from_slice-2
returns-in_err-extend_from_slice-2 c = IfOk-from_err _ _ c.from_residual-in_err-extend_from_slice-2.ensures.0
