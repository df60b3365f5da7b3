-- What places no point draws no loop.
use Rattle.std.proofs.Common.{◌≡◌, ℕ, zero, suc, ◌+◌, ◌*◌, ◌/◌, ◌≤◌, ⊎_elim, Bool, true, false, ◌&&◌, not, cond, List, [], ◌∷◌, Some, map, length, get_or, pos, ap, arith}
use Rattle.std.proofs.Math.Nat.{mul-suc}
use Rattle.std.proofs.lemmas.List.Sums.{sum_by-cons}
use Rattle.std.specs.List.{Contains, sum_by}
use Rattle.dpl_spec_split.specs.declared.Pt.{Pt}
use Rattle.dpl_spec_split.specs.declared.Rect.{Rect}
use Rattle.dpl_spec_split.proofs.Ordered.{Contains-cases, Contains-nil}
use Rattle.dpl_spec_elements.specs.Paths.{same, corners_of, rects_through, distinct}
use Rattle.dpl_spec_format.specs.Tree.{Library, Element, Body, is_boundary, is_path, is_sref, is_aref, is_text, is_node, is_box, elements_at, HasPoints}
use Rattle.dpl_spec_layout.specs.declared.Layer.{Layer}
use Rattle.dpl_spec_layout.specs.Elements.{loops_of, point_count, columns_of, rows_of, is_on, path_shape, points_in}
use Rattle.dpl_spec_layout.specs.Structures.{target_of}
use Rattle.dpl_spec_layout.specs.Placements.{Step, Leads}
use Rattle.dpl_spec_layout.specs.Points.{points_by, points_at, points_through}
use Rattle.dpl_links.specs.Graph.{IsMarked}
use Rattle.dpl_flatten.specs.Links.{IsLinked, AlwaysFalls}
use Rattle.dpl_flatten.specs.Totals.{IsBare}

sum_ge : (f : Element → ℕ) (es : List Element) (e : Element) → Contains es e → f e ≤ sum_by f es
sum_ge f [] e c = absurd (Contains-nil e c)
sum_ge f (x ∷ es) e c =
    ⊎_elim (λ (w : x ≡ e). rw (← w) (omega (arith, sum_by-cons f x es))) (λ h. let r = sum_ge f es e h in omega (arith, r, sum_by-cons f x es)) (Contains-cases x e es c)

one_mul : (a b : ℕ) → 1 ≤ a → 1 ≤ b → 1 ≤ a * b
one_mul (suc a) (suc b) h k = let e : suc a * suc b ≡ suc a * b + suc a = mul-suc (suc a) b in omega (arith, e)
one_mul zero b h k = absurd (omega arith)
one_mul (suc a) zero h k = absurd (omega arith)

on_counts : (on : Bool) (xs : List (List Pt)) (qs : List Pt) (n : ℕ) → Contains (cond on xs []) qs → 8 ≤ n → 1 ≤ cond on (n / 8) 0
on_counts true xs qs n c h = omega arith
on_counts false xs qs n c h = absurd (Contains-nil qs c)

path_counts : (on flat : Bool) (rects : List Rect) (qs : List Pt) (n : ℕ) → Contains (cond on (map corners_of (cond flat [] rects)) []) qs
    → 8 ≤ n → 1 ≤ cond (on && not flat) (n / 8) 0
path_counts true true rects qs n c h = absurd (Contains-nil qs c)
path_counts true false rects qs n c h = omega arith
path_counts false flat rects qs n c h = absurd (Contains-nil qs c)

-- an element that draws a loop counts a point
drawn_counts : (layer : Layer) (b : Body) (qs : List Pt) → HasPoints b → Contains (loops_of layer b) qs → 1 ≤ point_count layer b
drawn_counts layer (is_boundary b) qs h c = on_counts (is_on layer b.layer b.datatype) (points_in b.xy ∷ []) qs (length b.xy) c h.0
drawn_counts layer (is_box b) qs h c = on_counts (is_on layer b.layer b.boxtype) (points_in b.xy ∷ []) qs (length b.xy) c h.0
drawn_counts layer (is_path p) qs h c = path_counts (is_on layer p.layer p.datatype) (same (path_shape p).width (pos 0))
    (rects_through (path_shape p) (distinct (path_shape p).points)) qs (length p.xy) c h.0
drawn_counts layer (is_sref r) qs h c = absurd (Contains-nil qs c)
drawn_counts layer (is_aref r) qs h c = absurd (Contains-nil qs c)
drawn_counts layer (is_text t) qs h c = absurd (Contains-nil qs c)
drawn_counts layer (is_node n) qs h c = absurd (Contains-nil qs c)

module _ (lib : Library) (layer : Layer) (graph : List (List ℕ)) (marks : List Bool) (levels : List ℕ) (links : IsLinked lib graph marks)
    (falls : AlwaysFalls graph marks levels) where
  -- what an element places by its copies is counted
  copy_counts : (below : ℕ → ℕ) (e : Element) (j : ℕ) → target_of lib e ≡ Some j → 1 ≤ columns_of e.body → 1 ≤ rows_of e.body → 1 ≤ below j → 1 ≤ points_by lib layer below e
  copy_counts below e j t c r b =
      let n : points_at below (target_of lib e) ≡ below j = ap (points_at below) t in
      let m = one_mul (columns_of e.body * rows_of e.body) (points_at below (target_of lib e)) (one_mul (columns_of e.body) (rows_of e.body) c r) (omega (arith, n, b)) in
      omega (arith, m)

  counts : (steps : List Step) (n k l : ℕ) (e : Element) (qs : List Pt) → Leads lib k steps l → Contains (elements_at lib l) e
      → Contains (loops_of layer e.body) qs → IsMarked marks k → get_or levels k 0 ≤ n → 1 ≤ points_through lib layer n k
  counts [] zero k l e qs d c q m h =
      let c' : Contains (elements_at lib k) e = rw d c in
      let s = sum_ge (λ (x : Element). point_count layer x.body) (elements_at lib k) e c' in
      let p = drawn_counts layer e.body qs (links.graph_of.sized k e c') q in
      omega (arith, s, p)
  counts [] (suc n) k l e qs d c q m h =
      let c' : Contains (elements_at lib k) e = rw d c in
      let s = sum_ge (points_by lib layer (points_through lib layer n)) (elements_at lib k) e c' in
      let p = drawn_counts layer e.body qs (links.graph_of.sized k e c') q in
      omega (arith, s, p)
  counts (s ∷ ss) zero k l e qs d c q m h =
      let edge = links.graph_of.refers k d.0 (s.element, d.1.inside, d.1.target) in
      absurd (omega (arith, falls k d.0 m edge, h))
  counts (s ∷ ss) (suc n) k l e qs d c q m h =
      let edge = links.graph_of.refers k d.0 (s.element, d.1.inside, d.1.target) in
      let f = falls k d.0 m edge in
      let b = counts ss n d.0 l e qs d.2 c q (links.closed k d.0 m edge) (omega (arith, f, h)) in
      let p = copy_counts (points_through lib layer n) s.element d.0 d.1.target (omega (arith, d.1.column)) (omega (arith, d.1.row)) b in
      let g = sum_ge (points_by lib layer (points_through lib layer n)) (elements_at lib k) s.element d.1.inside in
      omega (arith, g, p)

  pub bare_of : (n k : ℕ) → IsMarked marks k → get_or levels k 0 ≤ n → points_through lib layer n k ≡ 0 → IsBare lib layer k
  bare_of n k m h none steps l e qs p q = let c = counts steps n k l e qs p.leads p.inside q m h in absurd (omega (arith, c, none))
