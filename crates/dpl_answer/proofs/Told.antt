-- What is told of a cycle of the graph with anchors.
use Rattle.std.proofs.Common.{◌≡◌, ℕ, zero, suc, ◌+◌, ◌%◌, ◌<◌, false, true, List, [], ◌∷◌, ◌++◌, length, get_or, inl, inr, sym, ap, ◌∙◌, subst, arith}
use Rattle.std.specs.Prelude.{Option, None, Some}
use Rattle.std.specs.List.{Contains}
use Rattle.std.proofs.Math.ListN.{get_or-append}
use Rattle.std.proofs.Math.Seq.{get_or-append_seam}
use Rattle.std.proofs.lemmas.Bool.{cases_eq}
use Rattle.std.proofs.lemmas.List.{get_or_default}
use Rattle.dpl_spec_split.specs.declared.Spacing.{Spacing}
use Rattle.dpl_spec_split.specs.declared.Rect.{Rect}
use Rattle.dpl_spec_split.specs.Graphs.{IsOddCycle}
use Rattle.dpl_spec_split.specs.Marks.{Marks, MarkEdge, Anchored, anchors, fixed_to_a, fixed_to_b, conflict, up, down, graph, vertex}
use Rattle.dpl_cert.specs.declared.cert.NearLine.{NearLine}
use Rattle.dpl_answer.specs.declared.vertices.Vertex.{Vertex}
use Rattle.dpl_answer.specs.declared.vertices.Vertex.TheVariants.{Anchor, Piece}
use Rattle.dpl_answer.specs.Anchors.{AreLinked, IsKnown, ShowsLink, vertex_of}
use Rattle.dpl_answer.specs.Flat.{AreLinks}
use Rattle.dpl_answer.proofs.Anchoring.{graph-back, graph-known}

-- the numbers of an odd cycle are vertices
pub vertex-known : (marks : Option Marks) (spacing : Spacing) (pieces : List (List Rect)) (owners : List ℕ) (cycle : List ℕ) (v : ℕ) → IsOddCycle (graph marks spacing pieces owners) cycle
    → Contains cycle v → v < vertex marks (length pieces)
vertex-known marks spacing pieces owners cycle v odd c =
    subst (λ (x : ℕ). x < vertex marks (length pieces)) (get_or_default cycle c.0 0 v c.1 ∙ c.2)
    (graph-known marks spacing pieces owners _ _ (graph-back marks spacing pieces owners _ _ (odd.around c.0 c.1)))

pub known-vertex : (n v : ℕ) → v < n + 2 → IsKnown n (vertex_of v)
known-vertex n zero l = tt
known-vertex n (suc zero) l = tt
known-vertex n (suc (suc k)) l = omega (arith, l)

piece-vertex : (k : ℕ) → vertex_of (k + 2) ≡ Piece k
piece-vertex k = let two : k + 2 ≡ suc (suc k) = omega arith in ap vertex_of two

module _ (m : Marks) (spacing : Spacing) (pieces : List (List Rect)) where
  linked-as : (u v : ℕ) (s t : Vertex) → vertex_of u ≡ s → vertex_of v ≡ t → AreLinked m spacing pieces s t → AreLinked m spacing pieces (vertex_of u) (vertex_of v)
  linked-as u v s t a b h = subst (λ x. AreLinked m spacing pieces x (vertex_of v)) (sym a) (subst (λ y. AreLinked m spacing pieces s y) (sym b) h)

  linked-up : (u v : ℕ) → MarkEdge m pieces u v → AreLinked m spacing pieces (vertex_of u) (vertex_of v)
  linked-up u v (anchors x y) = linked-as u v (Anchor false) (Anchor true) (ap vertex_of x) (ap vertex_of y) tt
  linked-up u v (fixed_to_b k k_in some x y) = linked-as u v (Anchor false) (Piece k) (ap vertex_of x) (ap vertex_of y ∙ piece-vertex k) (k_in, some)
  linked-up u v (fixed_to_a k k_in some x y) = linked-as u v (Anchor true) (Piece k) (ap vertex_of x) (ap vertex_of y ∙ piece-vertex k) (k_in, some)

  linked-down : (u v : ℕ) → MarkEdge m pieces u v → AreLinked m spacing pieces (vertex_of v) (vertex_of u)
  linked-down u v (anchors x y) = linked-as v u (Anchor true) (Anchor false) (ap vertex_of y) (ap vertex_of x) tt
  linked-down u v (fixed_to_b k k_in some x y) = linked-as v u (Piece k) (Anchor false) (ap vertex_of y ∙ piece-vertex k) (ap vertex_of x) (k_in, some)
  linked-down u v (fixed_to_a k k_in some x y) = linked-as v u (Piece k) (Anchor true) (ap vertex_of y ∙ piece-vertex k) (ap vertex_of x) (k_in, some)

  -- joined vertices are linked
  pub linked : (owners : List ℕ) (u v : ℕ) → Anchored spacing m pieces owners u v → AreLinked m spacing pieces (vertex_of u) (vertex_of v)
  linked owners u v (conflict i j c x y) = linked-as u v (Piece i) (Piece j) (ap vertex_of x ∙ piece-vertex i) (ap vertex_of y ∙ piece-vertex j) (c.first, c.second, c.near)
  linked owners u v (up h) = linked-up u v h
  linked owners u v (down h) = linked-down v u h

-- as many lines as places
pub links_many : (marks : Option Marks) (spacing : Spacing) (pieces : List (List Rect)) (cycle : List ℕ) (near : List NearLine) → AreLinks marks spacing pieces cycle near → length near ≡ length cycle
links_many None spacing pieces cycle near are = are.each
links_many (Some m) spacing pieces cycle near are = are.each

-- the lines of the first n places of the cycle
abbrev pub AreLinksFirst : Marks → Spacing → List (List Rect) → List ℕ → ℕ → List NearLine → Type 0
AreLinksFirst m spacing pieces cycle n lines = (j : ℕ) (d : NearLine) → j < n
    → ShowsLink m spacing pieces (vertex_of (get_or cycle j 0)) (vertex_of (get_or cycle ((j + 1) % length cycle) 0)) (get_or lines j d)

-- one line more
pub links_more : (m : Marks) (spacing : Spacing) (pieces : List (List Rect)) (cycle : List ℕ) (n : ℕ) (old new : List NearLine) (line : NearLine) → length old ≡ n → new ≡ old ++ (line ∷ [])
    → AreLinksFirst m spacing pieces cycle n old
    → ShowsLink m spacing pieces (vertex_of (get_or cycle n 0)) (vertex_of (get_or cycle ((n + 1) % length cycle) 0)) line
    → AreLinksFirst m spacing pieces cycle (n + 1) new
links_more m spacing pieces cycle n old new line len put before here j d l = elim (cases_eq j n) [
  | inl e ↦
      let there : get_or new j d ≡ line = ap (λ xs. get_or xs j d) put ∙ (ap (λ k. get_or (old ++ (line ∷ [])) k d) (e ∙ sym len) ∙ get_or-append_seam old line [] d) in
      subst (λ (u : NearLine). ShowsLink m spacing pieces (vertex_of (get_or cycle j 0)) (vertex_of (get_or cycle ((j + 1) % length cycle) 0)) u) (sym there)
      (subst (λ k. ShowsLink m spacing pieces (vertex_of (get_or cycle k 0)) (vertex_of (get_or cycle ((k + 1) % length cycle) 0)) line) (sym e) here)
  | inr ne ↦
      let less : j < n = omega (arith, l, ne) in
      let same : get_or new j d ≡ get_or old j d = ap (λ xs. get_or xs j d) put ∙ get_or-append old (line ∷ []) d j (omega (arith, less, len)) in
      subst (λ (u : NearLine). ShowsLink m spacing pieces (vertex_of (get_or cycle j 0)) (vertex_of (get_or cycle ((j + 1) % length cycle) 0)) u) (sym same) (before j d less)
]
