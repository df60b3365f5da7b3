-- Two graphs with the same edges have the same summary, roots and parities.
use Rattle.std.proofs.Common.{◌≡◌, ℕ, ◌+◌, ◌%◌, inl, inr, Bool, List, length, get_or}
use Rattle.std.specs.Prelude.{◌↔◌}
use Rattle.std.specs.List.{Contains}
use Rattle.std.proofs.lemmas.Bool.{cases_order}
use Rattle.dpl_spec_split.specs.Graphs.{Graph, Walk, stay, step, IsDistance, AreEdges, graph_of}
use Rattle.dpl_spec_split.specs.Summary.{Stars, Odd, IsStar, IsSummary, HasOddCycle}
use Rattle.dpl_spec_split.specs.Summary as summary
use Rattle.dpl_spec_split.specs.Colours.{AreRoots}

-- the same pairs are joined
abbrev pub SameEdges : Graph → Graph → Type 0
SameEdges joined other = (u v : ℕ) → joined u v ↔ other u v

pub same-back : (joined other : Graph) → SameEdges joined other → SameEdges other joined
same-back joined other same u v = ((same u v).1, (same u v).0)

pub walk-along : (joined other : Graph) → SameEdges joined other → {u v n : ℕ} → Walk joined u v n → Walk other u v n
walk-along joined other same stay = stay
walk-along joined other same (step {u = u} {v = w} e rest) = step ((same u w).0 e) (walk-along joined other same rest)

pub distance-along : (joined other : Graph) → SameEdges joined other → (u v n : ℕ) → IsDistance joined u v n → IsDistance other u v n
distance-along joined other same u v n d = record {
  walk = walk-along joined other same d.walk;
  least = λ m walk. d.least m
      (walk-along other joined (same-back joined other same) walk);
}

pub star-along : (joined other : Graph) → SameEdges joined other → (v r : ℕ) (odd : Bool) → IsStar joined v r odd → IsStar other v r odd
star-along joined other same v r odd (root, n, far, is) = (
  record {
    reached = (root.reached.0, walk-along joined other same root.reached.1);
    least = λ u reach. root.least u (reach.0, walk-along other joined (same-back joined other same) reach.1);
  },
  n,
  distance-along joined other same r v n far,
  is,
)

pub odd-along : (joined other : Graph) → SameEdges joined other → HasOddCycle joined → HasOddCycle other
odd-along joined other same (cycle, c) = (
  cycle,
  record {
    three = c.three;
    odd = c.odd;
    different = c.different;
    around = λ k l.
        (same (get_or cycle k 0) (get_or cycle ((k + 1) % length cycle) 0)).0 (c.around k l);
  },
)

pub summary-along : (joined other : Graph) → SameEdges joined other → (j : summary.Joined) → IsSummary joined j → IsSummary other j
summary-along joined other same (Stars rows) stars = record {
  even = λ odd. stars.even (odd-along other joined (same-back joined other same) odd);
  ordered = stars.ordered;
  exactly = λ r. (
    λ h. (let (touched, star) = (stars.exactly r).0 h in ((touched.0, (same r.vertex touched.0).0 touched.1), star-along joined other same r.vertex r.root r.odd star)),
    λ p. (stars.exactly r).1 ((p.0.0, (same r.vertex p.0.0).1 p.0.1), star-along other joined (same-back joined other same) r.vertex r.root r.odd p.1),
  );
}
summary-along joined other same Odd odd = odd-along joined other same odd

pub roots-along : (joined other : Graph) → SameEdges joined other → (n : ℕ) (roots : List ℕ) (odds : List Bool) → AreRoots joined n roots odds → AreRoots other n roots odds
roots-along joined other same n roots odds h = record { lengths = h.lengths; stars = λ v l. star-along joined other same v _ _ (h.stars v l) }

-- the edges of a graph that goes both ways between different numbers are those of its list
pub same-as-listed : (joined : Graph) → ((u v : ℕ) → joined u v → joined v u) → ((u v : ℕ) → joined u v → u ≡ v → ⊥)
    → (edges : List (ℕ × ℕ)) → AreEdges joined edges → SameEdges joined (graph_of edges)
same-as-listed joined both apart edges h u v = (
  λ e. elim (cases_order u v) [
    | inl same ↦ absurd (apart u v e same)
    | inr other ↦ elim other [
      | inl up ↦ inl ((h.exactly u v).1 (up, e))
      | inr down ↦ inr ((h.exactly v u).1 (down, both u v e))
    ]
  ],
  λ g. elim g [
    | inl c ↦ ((h.exactly u v).0 c).1
    | inr c ↦ both v u ((h.exactly v u).0 c).1
  ],
)

-- lists with the same edges
pub same-members : (es fs : List (ℕ × ℕ)) → ((e : ℕ × ℕ) → Contains es e ↔ Contains fs e) → SameEdges (graph_of es) (graph_of fs)
same-members es fs same u v = (
  λ g. elim g [ inl c ↦ inl ((same (u, v)).0 c) | inr c ↦ inr ((same (v, u)).0 c) ],
  λ g. elim g [ inl c ↦ inl ((same (u, v)).1 c) | inr c ↦ inr ((same (v, u)).1 c) ],
)
