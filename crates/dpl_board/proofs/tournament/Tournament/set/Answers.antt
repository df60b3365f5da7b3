use Rattle.std.proofs.Common.{◌≡◌, ◌≢◌, ◌+◌, ◌*◌, ◌/◌, ◌<◌, ◌≤◌, ◌∙◌, ℕ, set, inl, inr, arith, rules, subst, sym}
use Rattle.std.proofs.lemmas.Bool.{cases_eq}
use Rattle.std.proofs.lemmas.List.{get_or_default, get_or-set_other, length-set}
use Rattle.std.specs.Prelude.{None, Option}
use Rattle.dpl_board.specs.Tournaments.{IsLesser, IsLesserAt, node_in}
use Rattle.dpl_board.proofs.Tournaments.{lesser-else, lesser-here}
use Rattle.dpl_board.proofs.tournament.Tournament.set.Goals as goal

pub loop-node-preserved : goal.loop-node-preserved
loop-node-preserved c =
    let t = c.loop-node.self in
    let N = t.nodes.items in
    let at = c.loop-node.node / 2 in
    let b = c.lesser-block.result in
    let old = c.loop-node.invariant in
    let more = c.loop-node-test.true in
    let bound = old.1 in
    let len = old.2 in
    let some : 1 ≤ at = omega (arith, more) in
    let below : at < t.leaves = omega (arith, bound) in
    let left = c.index.ensures ∙ get_or_default N (2 * at) c.index.result.now None (omega (arith, below, len)) in
    let right = c.index-in-loop-node.ensures ∙ get_or_default N (2 * at + 1) c.index-in-loop-node.result.now None (omega (arith, below, len)) in
    let is : IsLesser b (node_in N (2 * at)) (node_in N (2 * at + 1)) = rw (← left, ← right) (c.lesser-block.ensures.either, c.lesser-block.ensures.first, c.lesser-block.ensures.second) in
    let each : (n : ℕ) → 1 ≤ n → n < t.leaves → n ≢ at / 2 → IsLesserAt (set N at b) n = λ n one within apart. elim (cases_eq n at) [
      | inl same ↦ rw same (lesser-here N at b some (omega (arith, below, len)) is)
      | inr other ↦ lesser-else N at n b other (λ e. apart (omega (arith, e))) (λ e. apart (omega (arith, e))) (old.3 n one within other)
    ] in (
      some,
      omega (arith, bound),
      length-set N at b ∙ len,
      each,
      old.4,
      get_or-set_other N at (t.leaves + c.args.leaf) b None (λ e. omega (arith, e, below)) ∙ old.5,
      λ other apart. get_or-set_other N at (t.leaves + other) b None (λ e. omega (arith, e, below)) ∙ old.6 other apart,
    )

pub returns-then-is_same-clause-tree : goal.returns-then-is_same-clause-tree
returns-then-is_same-clause-tree c =
    let t = c.loop-node.self in
    let N = t.nodes.items in
    let at = c.loop-node.node / 2 in
    let b = c.lesser-block.result in
    let old = c.loop-node.invariant in
    let more = c.loop-node-test.true in
    let bound = old.1 in
    let len = old.2 in
    let some : 1 ≤ at = omega (arith, more) in
    let below : at < t.leaves = omega (arith, bound) in
    let left = c.index.ensures ∙ get_or_default N (2 * at) c.index.result.now None (omega (arith, below, len)) in
    let right = c.index-in-loop-node.ensures ∙ get_or_default N (2 * at + 1) c.index-in-loop-node.result.now None (omega (arith, below, len)) in
    let is : IsLesser b (node_in N (2 * at)) (node_in N (2 * at + 1)) =
    rw (← left, ← right) (c.lesser-block.ensures.either, c.lesser-block.ensures.first, c.lesser-block.ensures.second) in
    let here = c.index-in-loop-node-2.ensures ∙ get_or_default N at c.index-in-loop-node-2.result.now None (omega (arith, below, len)) in
    let same : node_in N at ≡ b = sym here ∙ c.if-is_same.ensures.0 (search rules) in
    let lesser_at : IsLesserAt N at = subst (λ (x : Option (ℕ × ℕ)). IsLesser x (node_in N (2 * at)) (node_in N (2 * at + 1))) (sym same) is in
    record {
      len = len;
      each = λ n one within. elim (cases_eq n at) [
        | inl is_at ↦ subst (IsLesserAt N) (sym is_at) lesser_at
        | inr other ↦ old.3 n one within other
      ];
    }
