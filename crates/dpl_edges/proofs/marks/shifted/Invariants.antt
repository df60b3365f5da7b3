use Rattle.std.specs.Prelude.{◌≡◌, ℕ, ◌+◌, map, take}
use Rattle.dpl_edges.proofs.marks.shifted.Given as goal

abbrev pub invariant-loop-i : goal.invariant-loop-i
invariant-loop-i l = l.moved.items ≡ map (λ (e : ℕ × ℕ). (e.0 + 2, e.1 + 2)) (take l.i-index l.edges)
