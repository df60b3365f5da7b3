use Rattle.std.proofs.lemmas.Result.{IfOk-weaker}
use Rattle.dpl_stars.proofs.Merging.{merged, odd-first, odd-second, odd-otherwise, only-summary}
use Rattle.dpl_stars.proofs.sums.merge.Goals as goal

pub returns-clause-sums : goal.returns-clause-sums
returns-clause-sums c =
    IfOk-weaker c.stars.result _ _
    (λ joined h es fs e_pairs f_pairs first second.
    merged es fs c.in_ok-edges.edges.items c.in_ok-more.more.items c.in-Stars.rows c.in-Stars-other.others joined
    c.items.ensures.ordered c.items-2.ensures.ordered (rw c.items.ensures.value at c.in_ok-edges.ensures) (rw c.items-2.ensures.value at c.in_ok-more.ensures)
    (rw (c.deref-2.ensures.value, c.in_ok-extend_from_slice.ensures.items, c.deref.ensures.value) at h)
    e_pairs f_pairs (rw c.in-Stars.is at first) (rw c.in-Stars-other.is at second))
    c.stars.ensures

pub returns-clause-same : goal.returns-clause-same
returns-clause-same c = IfOk-weaker c.stars.result _ _ (λ joined h. only-summary c.args.one.now c.args.other.now joined h) (returns-clause-sums c)

pub returns-in_default-clause-sums : goal.returns-in_default-clause-sums
returns-in_default-clause-sums c = λ es fs e_pairs f_pairs first second. odd-first es fs (odd-otherwise es c.args.one.now c.in_default.not-Stars first)

pub returns-in_default-clause-same : goal.returns-in_default-clause-same
returns-in_default-clause-same c = only-summary c.args.one.now c.args.other.now _ (returns-in_default-clause-sums c)

pub returns-in_default-other-clause-sums : goal.returns-in_default-other-clause-sums
returns-in_default-other-clause-sums c = λ es fs e_pairs f_pairs first second. odd-second es fs (odd-otherwise fs c.args.other.now c.in_default-other.not-Stars second)

pub returns-in_default-other-clause-same : goal.returns-in_default-other-clause-same
returns-in_default-other-clause-same c = only-summary c.args.one.now c.args.other.now _ (returns-in_default-other-clause-sums c)
