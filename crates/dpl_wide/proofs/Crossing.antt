-- The graph of slabs that touch: its edges, their parity, and the rows of what sums it up.
use Rattle.std.proofs.Common.{◌≡◌, ℕ, ◌+◌, ◌*◌, ◌%◌, ◌<◌, ◌≤◌, ◌⊎◌, inl, inr, List, cond, length, get_or, refl, sym, ap, ◌∙◌, arith}
use Rattle.std.specs.Prelude.{◌==◌}
use Rattle.std.specs.List.{Contains}
use Rattle.std.proofs.lemmas.Bool.{cases_lt, lt-ltb, le-ltb}
use Rattle.std.proofs.lemmas.List.Elements.{Contains-get_or}
use Rattle.dpl_spec_split.specs.declared.Rect.{Rect}
use Rattle.dpl_spec_split.specs.Graphs.{Walk, stay, step, IsRoot, graph_of}
use Rattle.dpl_spec_split.specs.Summary.{HasOddCycle, Row}
use Rattle.dpl_spec_split.proofs.Ordered.{has-map, map-has}
use Rattle.dpl_stars.specs.declared.list.Star.{Star}
use Rattle.dpl_stars.specs.declared.joined.Joined.TheVariants.{Stars}
use Rattle.dpl_stars.specs.Sums.{AreEdgePairs, Sums, row_of}
use Rattle.dpl_stars.proofs.Parity.{cycle-closed}
use Rattle.dpl_stars.proofs.Search.{graph_of-distances, graph_of-root}
use Rattle.dpl_wide.specs.Touching.{AreTouchEdges, SlabsTouch, crossed}

pub crossed-up : (i j : ℕ) → i ≤ j → crossed i j ≡ (2 * i, 2 * j + 1)
crossed-up i j l = ap (λ b. cond b (2 * j + 1, 2 * i) (2 * i, 2 * j + 1)) (le-ltb j i l)

pub crossed-down : (i j : ℕ) → j < i → crossed i j ≡ (2 * j + 1, 2 * i)
crossed-down i j l = ap (λ b. cond b (2 * j + 1, 2 * i) (2 * i, 2 * j + 1)) (lt-ltb j i l)

-- its smaller number stands first
pub crossed-pair : (i j : ℕ) (e : ℕ × ℕ) → e ≡ crossed i j → e.0 < e.1
crossed-pair i j e is = elim (cases_lt j i) [
  | inl l ↦ rw (is ∙ crossed-down i j l) (omega (arith, l))
  | inr m ↦ rw (is ∙ crossed-up i j m) (omega (arith, m))
]

-- u is the even number of slab i, and v the odd one of slab j
abbrev pub Crosses : ℕ → ℕ → ℕ → ℕ → Type 0
Crosses i j u v = (u ≡ 2 * i) × (v ≡ 2 * j + 1)

ends-of : (i j : ℕ) (e : ℕ × ℕ) → e ≡ crossed i j → Crosses i j e.0 e.1 ⊎ Crosses i j e.1 e.0
ends-of i j e is = elim (cases_lt j i) [
  | inl l ↦ (let at = is ∙ crossed-down i j l in inr (ap (λ (d : ℕ × ℕ). d.1) at, ap (λ (d : ℕ × ℕ). d.0) at))
  | inr m ↦ (let at = is ∙ crossed-up i j m in inl (ap (λ (d : ℕ × ℕ). d.0) at, ap (λ (d : ℕ × ℕ). d.1) at))
]

-- slabs that touch, of which one has the one number and the other the other
abbrev pub AreEndsOf : List Rect → ℕ → ℕ → Type 0
AreEndsOf slabs u v = (i j : ℕ) × SlabsTouch slabs i j × (Crosses i j u v ⊎ Crosses i j v u)

module _ (slabs : List Rect) (edges : List (ℕ × ℕ)) (are : AreTouchEdges slabs edges) where
  pub touch-pairs : AreEdgePairs edges
  touch-pairs k d l =
      let (i, j, both, is) = (are (get_or edges k d)).0 (Contains-get_or edges k d l) in
      crossed-pair i j (get_or edges k d) is

  pub ends-touch : (u v : ℕ) → graph_of edges u v → AreEndsOf slabs u v
  ends-touch u v (inl c) = let (i, j, both, is) = (are (u, v)).0 c in (i, j, both, ends-of i j (u, v) is)
  ends-touch u v (inr c) = let (i, j, both, is) = (are (v, u)).0 c in
      (i, j, both, elim (ends-of i j (v, u) is) [ inl x ↦ inr x | inr x ↦ inl x ])

  pub touch-joins : (i j : ℕ) → SlabsTouch slabs i j → graph_of edges (2 * i) (2 * j + 1)
  touch-joins i j both = elim (cases_lt j i) [
    | inl l ↦ inr ((are (2 * j + 1, 2 * i)).1 (i, j, both, sym (crossed-down i j l)))
    | inr m ↦ inl ((are (2 * i, 2 * j + 1)).1 (i, j, both, sym (crossed-up i j m)))
  ]

  one-odd : (u v : ℕ) → graph_of edges u v → (u + v) % 2 ≡ 1
  one-odd u v g = let (i, j, both, ends) = ends-touch u v g in elim ends [ inl (x, y) ↦ omega (arith, x, y) | inr (x, y) ↦ omega (arith, x, y) ]

  walk-parity : {u v n : ℕ} → Walk (graph_of edges) u v n → (u + v + n) % 2 ≡ 0
  walk-parity {u = u} stay = omega arith
  walk-parity {u = u} {v = v} (step {v = w} {n = n} g rest) =
      let first : (u + w) % 2 ≡ 1 = one-odd u w g in
      let others : (w + v + n) % 2 ≡ 0 = walk-parity rest in
      omega (arith, first, others)

  -- the parity of its numbers colours the graph
  pub never-odd : HasOddCycle (graph_of edges) → ⊥
  never-odd (cycle, c) =
      let even : (get_or cycle 0 0 + get_or cycle 0 0 + length cycle) % 2 ≡ 0 = walk-parity (cycle-closed (graph_of edges) cycle c) in
      let odd : length cycle % 2 ≡ 1 = c.odd in
      omega (arith, even, odd)

  module _ (rows : List Star) (sums : Sums edges (Stars rows)) where
    -- a number that some edge touches has a row
    pub row-there : (v w : ℕ) → graph_of edges v w → (r : Star) × Contains rows r × (r.piece ≡ v)
    row-there v w g =
        let (root, is) = graph_of-root edges v in
        let (n, walk) = is.reached in
        let (m, far) = graph_of-distances edges root v n walk in
        let row : Row = record { vertex = v; root = root; odd = (m % 2 == 1) } in
        let (r, listed, same) = has-map row_of rows row ((sums.exactly row).1 ((w, g), (is, m, far, refl))) in
        (r, listed, ap (λ (x : Row). x.vertex) same)

    pub row-root : (r : Star) → Contains rows r → IsRoot (graph_of edges) r.piece r.root
    row-root r c = ((sums.exactly (row_of r)).0 (map-has row_of rows r (row_of r) c refl)).1.0
