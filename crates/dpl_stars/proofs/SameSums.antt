-- Two edge lists have one summary where each edge of one is a walk of an odd number of edges of the other.
use Rattle.std.proofs.Common.{◌≡◌, ℕ, ◌+◌, ◌-◌, ◌%◌, inl, inr, Bool, List, ◌++◌, length, get_or, sym, refl, ap, ◌∙◌, arith}
use Rattle.std.specs.Prelude.{◌==◌}
use Rattle.std.proofs.lemmas.Bool.{cases_eq}
use Rattle.std.proofs.lemmas.List.Elements.{Contains-append_left, Contains-append_right, Contains-append_cases}
use Rattle.dpl_spec_split.specs.Graphs.{Graph, Walk, stay, step, IsRoot, graph_of}
use Rattle.dpl_spec_split.specs.Summary.{Row, Stars, Odd, IsStar, AreStars, IsSummary, HasOddCycle}
use Rattle.dpl_spec_split.specs.Summary as summary
use Rattle.dpl_spec_split.proofs.GraphLaws.{Walk-trans}
use Rattle.dpl_stars.specs.Laws.{AreOrdered}
use Rattle.dpl_stars.proofs.Walks.{graph_of-undirected, Walk-reverse, Walk-first}
use Rattle.dpl_stars.proofs.Parity.{cycle-closed, odd-closed}
use Rattle.dpl_stars.proofs.Search.{graph_of-distances}
use Rattle.dpl_stars.proofs.Forks.{level-cycle}

-- a walk of an odd number of edges
abbrev pub OddWalk : Graph → ℕ → ℕ → Type 0
OddWalk joined u v = (n : ℕ) × Walk joined u v n × (n % 2 ≡ 1)

-- each edge of the first is an odd walk in the second
abbrev pub Carries : Graph → Graph → Type 0
Carries joined other = (u v : ℕ) → joined u v → OddWalk other u v

pub lift : (joined other : Graph) → Carries joined other → {u v n : ℕ} → Walk joined u v n → (m : ℕ) × Walk other u v m × (m % 2 ≡ n % 2)
lift joined other over stay = (0, stay, refl)
lift joined other over (step {u = u} {v = w} e rest) =
    let (k, first, odd) = over u w e in
    let (m, more, same) = lift joined other over rest in
    (k + m, Walk-trans other first more, omega (arith, odd, same))

-- a closed walk of an odd number of edges shows an odd cycle
pub closed-odd : (es : List (ℕ × ℕ)) → AreOrdered es → (v m : ℕ) → Walk (graph_of es) v v m → m % 2 ≡ 1 → HasOddCycle (graph_of es)
closed-odd es pairs v m walk odd =
    let un = graph_of-undirected es pairs in
    let (cycle, c, reached) = level-cycle (graph_of es) un v (odd-closed (graph_of es) un v (graph_of-distances es v) v m (0, stay) walk odd) in
    (cycle, c)

module _ (es fs : List (ℕ × ℕ)) (pairs : AreOrdered fs) (over : Carries (graph_of es) (graph_of fs)) where
  pub odd-over : HasOddCycle (graph_of es) → HasOddCycle (graph_of fs)
  odd-over (cycle, c) =
      let (m, walk, same) = lift (graph_of es) (graph_of fs) over (cycle-closed (graph_of es) cycle c) in
      let odd = c.odd in
      closed-odd fs pairs (get_or cycle 0 0) m walk (omega (arith, odd, same))

  -- what an edge of one touches, an edge of the other touches
  touch-over : (v : ℕ) → (u : ℕ) × graph_of es v u → (u : ℕ) × graph_of fs v u
  touch-over v (u, e) =
      let (n, walk, odd) = over v u e in
      let (w, joins, rest) = Walk-first (graph_of fs) (n - 1) walk (omega (arith, odd)) in
      (w, joins)

  root-over : Carries (graph_of fs) (graph_of es) → (v r : ℕ) → IsRoot (graph_of es) v r → IsRoot (graph_of fs) v r
  root-over back v r is =
      let (m, walk, same) = lift (graph_of es) (graph_of fs) over is.reached.1 in
      record {
        reached = (m, walk);
        least = λ u reach. (let (k, other, also) = lift (graph_of fs) (graph_of es) back reach.1 in is.least u (k, other));
      }

  -- in a graph without an odd cycle all walks between two vertices agree in parity
  same-parity : ¬ HasOddCycle (graph_of fs) → (u v m n : ℕ) → Walk (graph_of fs) u v m → Walk (graph_of fs) u v n → m % 2 ≡ n % 2
  same-parity even u v m n a b = elim (cases_eq ((m + n) % 2) 1) [
    | inl odd ↦ absurd (even (closed-odd fs pairs u (m + n) (Walk-trans (graph_of fs) a (Walk-reverse (graph_of fs) (graph_of-undirected fs pairs) b)) odd))
    | inr no_odd ↦ omega (arith, no_odd)
  ]

  star-over : Carries (graph_of fs) (graph_of es) → ¬ HasOddCycle (graph_of fs) → (v r : ℕ) (odd : Bool) → IsStar (graph_of es) v r odd → IsStar (graph_of fs) v r odd
  star-over back even v r odd (root, n, distance, is) =
      let (m, walk, same) = lift (graph_of es) (graph_of fs) over distance.walk in
      let (k, far) = graph_of-distances fs r v m walk in
      let parity : n % 2 ≡ k % 2 = sym same ∙ same-parity even r v m k walk far.walk in
      (root-over back v r root, k, far, is ∙ ap (λ p. p == 1) parity)

module _ (es fs : List (ℕ × ℕ)) (e_pairs : AreOrdered es) (f_pairs : AreOrdered fs) (over : Carries (graph_of es) (graph_of fs)) (back : Carries (graph_of fs) (graph_of es)) where
  pub same-sums : (j : summary.Joined) → IsSummary (graph_of fs) j → IsSummary (graph_of es) j
  same-sums (Stars rows) stars =
      let even : ¬ HasOddCycle (graph_of es) = λ odd. stars.even (odd-over es fs f_pairs over odd) in
      record {
        even = even;
        ordered = stars.ordered;
        exactly = λ r. (
          λ h. (let (touched, star) = (stars.exactly r).0 h in (touch-over fs es e_pairs back r.vertex touched, star-over fs es e_pairs back over even r.vertex r.root r.odd star)),
          λ p. (stars.exactly r).1 (touch-over es fs f_pairs over r.vertex p.0, star-over es fs f_pairs over back stars.even r.vertex r.root r.odd p.1),
        );
      }
  same-sums Odd odd = odd-over fs es e_pairs back odd

-- a graph of more edges
pub more-left : (es fs : List (ℕ × ℕ)) (u v : ℕ) → graph_of es u v → graph_of (es ++ fs) u v
more-left es fs u v (inl c) = inl (Contains-append_left es fs (u, v) c)
more-left es fs u v (inr c) = inr (Contains-append_left es fs (v, u) c)

pub more-right : (es fs : List (ℕ × ℕ)) (u v : ℕ) → graph_of fs u v → graph_of (es ++ fs) u v
more-right es fs u v (inl c) = inl (Contains-append_right es fs (u, v) c)
more-right es fs u v (inr c) = inr (Contains-append_right es fs (v, u) c)

pub walk-more : (joined other : Graph) → ((u v : ℕ) → joined u v → other u v) → {u v n : ℕ} → Walk joined u v n → Walk other u v n
walk-more joined other more stay = stay
walk-more joined other more (step {u = u} {v = w} e rest) = step (more u w e) (walk-more joined other more rest)

pub carries-append : (es fs gs hs : List (ℕ × ℕ)) → Carries (graph_of es) (graph_of gs) → Carries (graph_of fs) (graph_of hs) → Carries (graph_of (es ++ fs)) (graph_of (gs ++ hs))
carries-append es fs gs hs first second u v (inl c) = elim (Contains-append_cases es fs (u, v) c) [
  | inl in_first ↦ (let (n, walk, odd) = first u v (inl in_first) in (n, walk-more (graph_of gs) (graph_of (gs ++ hs)) (more-left gs hs) walk, odd))
  | inr in_second ↦ (let (n, walk, odd) = second u v (inl in_second) in (n, walk-more (graph_of hs) (graph_of (gs ++ hs)) (more-right gs hs) walk, odd))
]
carries-append es fs gs hs first second u v (inr c) = elim (Contains-append_cases es fs (v, u) c) [
  | inl in_first ↦ (let (n, walk, odd) = first u v (inr in_first) in (n, walk-more (graph_of gs) (graph_of (gs ++ hs)) (more-left gs hs) walk, odd))
  | inr in_second ↦ (let (n, walk, odd) = second u v (inr in_second) in (n, walk-more (graph_of hs) (graph_of (gs ++ hs)) (more-right gs hs) walk, odd))
]

pub cycle-more : (joined other : Graph) → ((u v : ℕ) → joined u v → other u v) → HasOddCycle joined → HasOddCycle other
cycle-more joined other more (cycle, c) = (
  cycle,
  record {
    three = c.three;
    odd = c.odd;
    different = c.different;
    around = λ k l. more
        (get_or cycle k 0) (get_or cycle ((k + 1) % length cycle) 0) (c.around k l);
  },
)
