use Rattle.std.proofs.Common.{◌≡◌, ◌∙◌, sym, ◌≤◌, ◌<◌, ◌++◌, length, subst, arith, length-drop, length-take}
use Rattle.std.proofs.lemmas.List.{take-append-drop}
use Rattle.std.proofs.lemmas.List.Elements.{All-drop, All-take}
use Rattle.std.proofs.lemmas.Result.{IfOk-weaker, IfOk-from_err}
use Rattle.std.proofs.lemmas.Bool.{true≢false}
use Rattle.std.specs.List.{All}
use Rattle.dpl_spec_edits.specs.Text.{IsEdit}
use Rattle.dpl_edits.specs.Changes.{IsAdd, IsRemove, IsChangeOf}
use Rattle.dpl_spec_split.proofs.Ordered.{Contains-nil}
use Rattle.dpl_edits.proofs.SquareLaws.{edits-within}
use Rattle.dpl_edits.proofs.ChangeLaws.{adds-change, removes-change, two_kinds}
use Rattle.dpl_edits.proofs.applying.+change_of.Goals as goal

pub of_rects-requires : goal.of_rects-requires
of_rects-requires t c = rw c.in_ok-rects.ensures (edits-within c.args.edits.now c.requires)

pub returns-then-all_add-clause-change : goal.returns-then-all_add-clause-change
returns-then-all_add-clause-change t c =
    adds-change c.args.edits.now (record { added = c.in_ok-added.added; removed = c.new.result }) (c.all_add.ensures.0 c.if-all_add.true)
    (rw c.in_ok-rects.ensures at c.in_ok-added.ensures) c.new.ensures.items

pub returns-then-all_add-clause-within : goal.returns-then-all_add-clause-within
returns-then-all_add-clause-within t c = rw c.new.ensures.items (λ r r_in. absurd (Contains-nil r r_in))

pub returns-then-all_remove-clause-change : goal.returns-then-all_remove-clause-change
returns-then-all_remove-clause-change t c =
    removes-change c.args.edits.now (record { added = c.empty.result; removed = c.in_ok-removed.removed }) (c.all_remove.ensures.0 c.if-all_remove.true)
    c.in_ok-removed.ensures c.empty.ensures

pub returns-then-all_remove-clause-within : goal.returns-then-all_remove-clause-within
returns-then-all_remove-clause-within t c = rw c.in_ok-removed.ensures (edits-within c.args.edits.now c.requires)

pub change_of-requires : goal.change_of-requires
change_of-requires t c =
    let edits = c.args.edits.now in
    let some_remove : ¬ All IsAdd edits = λ h. true≢false (sym (c.all_add.ensures.1 h) ∙ c.if-all_add.false) in
    let some_add : ¬ All IsRemove edits = λ h. true≢false (sym (c.all_remove.ensures.1 h) ∙ c.if-all_remove.false) in
    let many : 2 ≤ length edits = two_kinds edits some_remove some_add in
    let fewer : length c.split_at.result.0.now < length edits = rw c.split_at.ensures.front (simp length-take (omega arith)) in
    (omega arith, rw c.split_at.ensures.front (All-take IsEdit _ edits c.requires))

pub change_of-requires-2 : goal.change_of-requires-2
change_of-requires-2 t c =
    let edits = c.args.edits.now in
    let some_remove : ¬ All IsAdd edits = λ h. true≢false (sym (c.all_add.ensures.1 h) ∙ c.if-all_add.false) in
    let some_add : ¬ All IsRemove edits = λ h. true≢false (sym (c.all_remove.ensures.1 h) ∙ c.if-all_remove.false) in
    let many : 2 ≤ length edits = two_kinds edits some_remove some_add in
    let fewer : length c.split_at.result.1.now < length edits = rw c.split_at.ensures.back (simp length-drop (omega arith)) in
    (omega arith, rw c.split_at.ensures.back (All-drop IsEdit _ edits c.requires))

pub returns-clause-change : goal.returns-clause-change
returns-clause-change t c =
    let front = c.split_at.result.0.now in
    let back = c.split_at.result.1.now in
    let whole : front ++ back ≡ c.args.edits.now = rw (c.split_at.ensures.front, c.split_at.ensures.back) (take-append-drop _ c.args.edits.now) in
    IfOk-weaker c.and_then.result _ (λ x. IsChangeOf c.args.edits.now x)
    (λ x h. subst (λ es. IsChangeOf es x) whole (h front back c.in_ok-first.ensures.change c.in_ok-second.ensures.change)) c.and_then.ensures.both

pub returns-in_err-rects-clause-change : goal.returns-in_err-rects-clause-change
returns-in_err-rects-clause-change t c = IfOk-from_err _ _ c.from_residual.ensures.0

pub returns-in_err-rects-clause-within : goal.returns-in_err-rects-clause-within
returns-in_err-rects-clause-within t c = IfOk-from_err _ _ c.from_residual.ensures.0

pub returns-in_err-added-clause-change : goal.returns-in_err-added-clause-change
returns-in_err-added-clause-change t c = IfOk-from_err _ _ c.from_residual-in_err-added.ensures.0

pub returns-in_err-added-clause-within : goal.returns-in_err-added-clause-within
returns-in_err-added-clause-within t c = IfOk-from_err _ _ c.from_residual-in_err-added.ensures.0

pub returns-in_err-removed-clause-change : goal.returns-in_err-removed-clause-change
returns-in_err-removed-clause-change t c = IfOk-from_err _ _ c.from_residual-in_err-removed.ensures.0

pub returns-in_err-removed-clause-within : goal.returns-in_err-removed-clause-within
returns-in_err-removed-clause-within t c = IfOk-from_err _ _ c.from_residual-in_err-removed.ensures.0

pub returns-in_err-first-clause-change : goal.returns-in_err-first-clause-change
returns-in_err-first-clause-change t c = IfOk-from_err _ _ c.from_residual-in_err-first.ensures.0

pub returns-in_err-first-clause-within : goal.returns-in_err-first-clause-within
returns-in_err-first-clause-within t c = IfOk-from_err _ _ c.from_residual-in_err-first.ensures.0

pub returns-in_err-second-clause-change : goal.returns-in_err-second-clause-change
returns-in_err-second-clause-change t c = IfOk-from_err _ _ c.from_residual-in_err-second.ensures.0

pub returns-in_err-second-clause-within : goal.returns-in_err-second-clause-within
returns-in_err-second-clause-within t c = IfOk-from_err _ _ c.from_residual-in_err-second.ensures.0
