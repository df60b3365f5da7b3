use Rattle.std.proofs.Common.{◌≡◌, ◌∙◌, ℕ, List, ap, get_or, length, replicate, set, arith}
use Rattle.std.proofs.lemmas.List.{get_or-replicate, get_or-set_other, get_or-set_same, length-replicate, length-set}
use Rattle.std.proofs.lemmas.Result.{IfOk-from_err}
use Rattle.dpl_crowd.specs.Crowds.{graph_in}
use Rattle.dpl_crowd.specs.Walking.{nowhere}
use Rattle.dpl_crowd.proofs.LevelLaws.{level-start}
use Rattle.dpl_crowd.proofs.levels.start.Goals as goal

pub returns-clause-levels : goal.returns-clause-levels
returns-clause-levels c =
    let n : ℕ = length c.args.crowd.now.parts in
    let levels : List ℕ = c.in_ok-levels.levels.items in
    let count = c.count.ensures in
    let some = c.requires in
    let is : levels ≡ replicate c.count.result nowhere = c.in_ok-levels.ensures.items_if_clones_equal (λ y h. h) in
    let many : length levels ≡ n = ap (λ xs. let ys : List ℕ = xs in length ys) is ∙ (length-replicate c.count.result nowhere ∙ count) in
    level-start (graph_in c.args.crowd.now) n (set levels 0 0) (length-set levels 0 0 ∙ many) (get_or-set_same levels 0 0 0 (omega (arith, many, some)))
    (λ v high v_in. get_or-set_other levels 0 v 0 0 (λ e. omega (arith, e, high)) ∙ (ap (λ xs. get_or xs v 0) is ∙ get_or-replicate c.count.result v nowhere 0 (omega (arith, v_in, count))))

pub returns-in_err-levels-clause-levels : goal.returns-in_err-levels-clause-levels
returns-in_err-levels-clause-levels c = IfOk-from_err _ _ c.from_residual.ensures.0

pub returns-in_err-levels-clause-front : goal.returns-in_err-levels-clause-front
returns-in_err-levels-clause-front c = IfOk-from_err _ _ c.from_residual.ensures.0

pub returns-in_err-push-clause-levels : goal.returns-in_err-push-clause-levels
returns-in_err-push-clause-levels c = IfOk-from_err _ _ c.from_residual-in_err-push.ensures.0

pub returns-in_err-push-clause-front : goal.returns-in_err-push-clause-front
returns-in_err-push-clause-front c = IfOk-from_err _ _ c.from_residual-in_err-push.ensures.0
