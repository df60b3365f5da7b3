use Rattle.std.proofs.lemmas.Result.{IfOk-weaker}
use Rattle.dpl_stars.proofs.Many.{stand-pairs, merged-all, odd-one}
use Rattle.std.proofs.lemmas.Result.{IfOk-from_err}
use Rattle.dpl_stars.proofs.sums.merge_all.Goals as goal

pub stars-requires : goal.stars-requires
stars-requires c = rw c.deref.ensures.value (stand-pairs c.args.sums.now c.in-Some.edges.items (rw c.in-Some.is at c.in_ok-edges.ensures))

pub returns-in-Some : goal.returns-in-Some
returns-in-Some c =
    IfOk-weaker c.stars.result _ _
    (λ all h. merged-all c.args.sums.now c.in-Some.edges.items all (rw c.in-Some.is at c.in_ok-edges.ensures) (rw c.deref.ensures.value at h))
    c.stars.ensures

pub returns-in-None : goal.returns-in-None
returns-in-None c = odd-one c.args.sums.now (rw c.in-None.is at c.in_ok-edges.ensures)

pub returns-in_err-edges : goal.returns-in_err-edges
returns-in_err-edges c = IfOk-from_err _ _ c.from_residual.ensures.0
