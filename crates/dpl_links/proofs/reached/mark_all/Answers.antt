use Rattle.std.proofs.Common.{◌≡◌, take, get_or}
use Rattle.std.specs.List.{Contains}
use Rattle.std.proofs.lemmas.Result.{IfOk-from_err}
use Rattle.dpl_links.proofs.MarkLaws.{Marks-then}
use Rattle.dpl_links.proofs.TakeLaws.{Contains-take_more, Contains-take_keeps, Contains-take_last}
use Rattle.dpl_links.proofs.reached.mark_all.Goals as goal

pub loop-vertex-preserved : goal.loop-vertex-preserved
loop-vertex-preserved c =
    let vs = c.args.vertices.now in
    let i = c.loop-vertex.vertex-index in
    Marks-then (Contains (take i vs)) (λ k. k ≡ get_or vs i 0) _ _ _ _ _ _ _ c.loop-vertex.invariant c.in_ok-mark.ensures
    (λ k h. Contains-take_more vs i 0 k c.loop-vertex-test.true h)
    (λ k h. Contains-take_keeps vs i 0 k c.loop-vertex-test.true h)
    (λ k h. Contains-take_last vs i 0 k c.loop-vertex-test.true h)

pub returns-in_err-mark : goal.returns-in_err-mark
returns-in_err-mark c = IfOk-from_err _ _ c.from_residual.ensures.0
