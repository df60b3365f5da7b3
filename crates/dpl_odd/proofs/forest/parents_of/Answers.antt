use Rattle.std.proofs.Common.{◌≡◌, ◌+◌, ℕ, List, length, sym, refl, subst, ◌∙◌, arith}
use Rattle.std.proofs.lemmas.Result.{IfOk-from_err}
use Rattle.dpl_odd.specs.Paths.{edge_at, AreLowest, IsLowered}
use Rattle.dpl_odd.proofs.ParentLaws.{first_edges, lowered-length, lowest-step, lowest-all, all-back}
use Rattle.dpl_odd.proofs.forest.parents_of.Goals as goal

pub loop-u-preserved : goal.loop-u-preserved
loop-u-preserved c =
    let edges : List (ℕ × ℕ) = c.args.edges.now in
    let levels : List ℕ = c.args.levels.now in
    let i : ℕ = c.loop-u.u-index in
    let e : ℕ × ℕ = edge_at edges i in
    let old = c.loop-u.parents in
    let mid : List ℕ = c.lower.new.parents in
    let new : List ℕ = c.lower-in-loop-u.new.parents in
    let (order, e_in) = c.requires.below i (0, 0) c.loop-u-test.true in
    let down : IsLowered levels e.0 e.1 old.items mid = subst (λ xs. IsLowered levels e.0 e.1 xs mid) c.deref_mut.ensures.value c.lower.ensures in
    let mid_len : length mid ≡ old.len = omega (arith, lowered-length levels e.0 e.1 old.items mid down, old.ok.0) in
    let again : c.deref_mut-in-loop-u.result.now ≡ mid = c.deref_mut-in-loop-u.ensures.value ∙ all-back mid old.items old.len mid_len in
    let back : IsLowered levels e.1 e.0 mid new = subst (λ xs. IsLowered levels e.1 e.0 xs new) again c.lower-in-loop-u.ensures in
    let new_len : length new ≡ old.len = omega (arith, lowered-length levels e.1 e.0 mid new back, mid_len) in
    let all : _ ≡ new = all-back new _ old.len new_len in
    subst (λ xs. AreLowest (first_edges edges (i + 1)) c.args.n levels xs) (sym all)
    (lowest-step edges c.args.n i e.0 e.1 levels old.items mid new refl (omega (arith, order, e_in)) e_in c.loop-u.invariant down back)

pub returns : goal.returns
returns c =
    let end : c.loop-u.u-index ≡ length c.args.edges.now = omega (arith, c.loop-u-test.false, c.loop-u.auto.u-index-end) in
    lowest-all c.args.edges.now c.args.n c.args.levels.now c.loop-u.parents.items
    (subst (λ i. AreLowest (first_edges c.args.edges.now i) c.args.n c.args.levels.now c.loop-u.parents.items) end c.loop-u.invariant)

pub returns-in_err-parents : goal.returns-in_err-parents
returns-in_err-parents c = IfOk-from_err _ _ c.from_residual.ensures.0
