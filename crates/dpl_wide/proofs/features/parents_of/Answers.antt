use Rattle.std.proofs.Common.{◌≡◌, length, arith}
use Rattle.std.proofs.lemmas.Result.{IfOk-from_err}
use Rattle.dpl_wide.proofs.Crossing.{never-odd}
use Rattle.dpl_wide.proofs.Parents.{parents-more}
use Rattle.dpl_wide.proofs.Rooting.{parents-met}
use Rattle.dpl_wide.proofs.features.parents_of.Goals as goal

pub unreachable-requires : goal.unreachable-requires
unreachable-requires c =
    let (edges, pairs, are, sums) = c.requires.sums in
    never-odd c.args.layer.now edges are (rw c.in_default.is at sums)

pub loop-k-preserved : goal.loop-k-preserved
loop-k-preserved c = λ edges pairs are sums.
    rw c.in_ok-push.ensures.items (parents-more edges c.loop-k.k c.loop-k.parents.items _ (c.loop-k.invariant edges pairs are sums)
    (c.parent_of.ensures edges pairs are (rw c.in-Stars.is at sums)))

pub returns : goal.returns
returns c =
    let (edges, pairs, are, sums) = c.requires.sums in
    let all : c.loop-k.k ≡ length c.args.layer.now = rw c.rects-count.ensures.value at (let e : c.loop-k.k ≡ length c.rects-count.result.now = omega (arith, c.loop-k-test.false) in e) in
    parents-met c.args.layer.now c.rects-count.ensures.canonical edges are c.loop-k.parents.items (rw all at c.loop-k.invariant edges pairs are sums)

pub returns-in_err-parents : goal.returns-in_err-parents
returns-in_err-parents c = IfOk-from_err _ _ c.from_residual.ensures.0

pub returns-in_err-push : goal.returns-in_err-push
returns-in_err-push c = IfOk-from_err _ _ c.from_residual-in_err-push.ensures.0
