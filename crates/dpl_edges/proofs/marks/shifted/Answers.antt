use Rattle.std.proofs.Common.{◌+◌, sym, ap, ◌∙◌}
use Rattle.std.specs.Prelude.{ℕ, map}
use Rattle.std.proofs.lemmas.List.{map_more, take_all}
use Rattle.std.proofs.lemmas.Result.{IfOk-from_err}
use Rattle.dpl_edges.proofs.marks.shifted.Goals as goal

pub loop-i-init : goal.loop-i-init
loop-i-init c = c.in_ok-moved.ensures.items

pub loop-i-preserved : goal.loop-i-preserved
loop-i-preserved c =
    let u = c.in-Some-Some.ensures.1 in
    let v = c.in-Some-Some.ensures'.1 in
    let pushed = c.in_ok-push.ensures.items in
    rw (pushed, c.loop-i.invariant, u, v) (sym (map_more (λ (e : ℕ × ℕ). (e.0 + 2, e.1 + 2)) c.args.edges.now c.loop-i.i-index (0, 0) c.loop-i-test.true))

pub returns : goal.returns
returns c = c.loop-i.invariant ∙ ap (map (λ (e : ℕ × ℕ). (e.0 + 2, e.1 + 2))) (take_all c.loop-i.i-index c.args.edges.now c.loop-i-test.false)

pub returns-in_err-moved : goal.returns-in_err-moved
returns-in_err-moved c = IfOk-from_err _ _ c.from_residual.ensures.0

pub returns-in_err-push : goal.returns-in_err-push
returns-in_err-push c = IfOk-from_err _ _ c.from_residual-in_err-push.ensures.0
