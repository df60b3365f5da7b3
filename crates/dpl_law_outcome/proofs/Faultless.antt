-- A file of two masks has no fault, where its masks have not too many slabs.
use Rattle.std.proofs.Common.{◌≡◌, ◌≢◌, ℕ, zero, suc, ◌+◌, ◌*◌, ◌/◌, ◌<◌, ◌≤◌, ◌⊎◌, inl, inr, Bool, true, false, ◌&&◌, eqb, List, [], ◌∷◌}
use Rattle.std.proofs.Common.{◌++◌, length, map, get_or, slice_get, Some, None, refl, sym, subst, ap, ◌∙◌, arith}
use Rattle.std.specs.Prelude.{pos, if◌then◌else◌}
use Rattle.std.specs.List.{Contains, sum_by}
use Rattle.std.specs.Option.{option_map}
use Rattle.std.proofs.Math.Nat.{zero-mul}
use Rattle.std.proofs.lemmas.Bool.{ne_eqb}
use Rattle.std.proofs.lemmas.List.{get_or_default, get_or-map, length-map}
use Rattle.std.proofs.lemmas.List.Elements.{Contains-append_cases}
use Rattle.std.proofs.lemmas.List.Sums.{sum_by-append, sum_by-cons}
use Rattle.dpl_spec_split.proofs.Ordered.{Contains-cases, Contains-head, Contains-later, Contains-nil}
use Rattle.dpl_spec_split.specs.declared.Pt.{Pt}
use Rattle.dpl_spec_split.specs.declared.Rect.{Rect}
use Rattle.dpl_spec_split.specs.Loops.{AreRectsWithin, IsLevelOrUpright, IsPointWithin, IsRectWithin, IsRectilinear, farthest}
use Rattle.dpl_spec_split.specs.Zones.{at}
use Rattle.dpl_spec_format.specs.Tree.{Library, Structure, Element, Body, elements_at, elements_or_none, frame_of}
use Rattle.dpl_spec_layout.specs.declared.Layer.{Layer}
use Rattle.dpl_spec_layout.specs.declared.ElementFault.{ElementFault}
use Rattle.dpl_spec_layout.specs.Elements.{columns_of, loops_of, point_count, points_in, reference_name, rows_of, IsRefusedFor}
use Rattle.dpl_spec_layout.specs.Structures.{target_of}
use Rattle.dpl_spec_layout.specs.Placements.{Step, Leads, placed_loops}
use Rattle.dpl_spec_layout.specs.Points.{points_at, points_by, points_through, placed_points, most_points}
use Rattle.dpl_spec_layout.specs.Faults.{IsFaultless}
use Rattle.dpl_masks.specs.Bytes.{coordinate_bytes, corners}
use Rattle.dpl_layer.specs.Reading.{frame_bytes, copied_of}
use Rattle.dpl_law_outcome.specs.ReadBack.{AreMasksOf, IsMask, boundary_round, bodies_of, most_slabs}
use Rattle.dpl_law_outcome.proofs.Decoding.{points-read, xy_of}
use Rattle.dpl_law_outcome.proofs.Layers.{unmoved}

-- ---- boundaries round rectangles

some_rect : Rect
some_rect = record { x0 = pos 0; y0 = pos 0; x1 = pos 0; y1 = pos 0 }

xy-long : (r : Rect) → length (xy_of r) ≡ 40
unfolding coordinate_bytes
xy-long r = refl

sides-straight : (r : Rect) → IsRectilinear (corners r)
sides-straight r = record { between = along; closing = λ d. inl refl }
  where
    along : (k : ℕ) (d : Pt) → suc k ≤ 4 → IsLevelOrUpright (get_or (corners r) k d) (get_or (corners r) (k + 1) d)
    along zero d l = inr refl
    along (suc zero) d l = inl refl
    along (suc (suc zero)) d l = inr refl
    along (suc (suc (suc zero))) d l = inl refl
    along (suc (suc (suc (suc k)))) d l = absurd (omega (arith, l))

straight : (r : Rect) → IsRectWithin farthest r → IsRectilinear (points_in (xy_of r))
straight r near = subst IsRectilinear (sym (points-read r near)) (sides-straight r)

corner-within : (r : Rect) (p : Pt) → IsRectWithin farthest r → Contains (corners r) p → IsPointWithin farthest p
corner-within r p w h =
    let a : Pt = at r.x0 r.y0 in
    let b : Pt = at r.x1 r.y0 in
    let c : Pt = at r.x1 r.y1 in
    let d : Pt = at r.x0 r.y1 in
    let in_a : IsPointWithin farthest a = record { column = w.left; row = w.low } in
    let in_b : IsPointWithin farthest b = record { column = w.right; row = w.low } in
    let in_c : IsPointWithin farthest c = record { column = w.right; row = w.high } in
    let in_d : IsPointWithin farthest d = record { column = w.left; row = w.high } in
    elim (Contains-cases a p (b ∷ c ∷ d ∷ a ∷ []) h) [
      | inl e ↦ subst (IsPointWithin farthest) e in_a
      | inr h1 ↦ elim (Contains-cases b p (c ∷ d ∷ a ∷ []) h1) [
        | inl e ↦ subst (IsPointWithin farthest) e in_b
        | inr h2 ↦ elim (Contains-cases c p (d ∷ a ∷ []) h2) [
          | inl e ↦ subst (IsPointWithin farthest) e in_c
          | inr h3 ↦ elim (Contains-cases d p (a ∷ []) h3) [
            | inl e ↦ subst (IsPointWithin farthest) e in_d
            | inr h4 ↦ elim (Contains-cases a p [] h4) [
              | inl e ↦ subst (IsPointWithin farthest) e in_a
              | inr h5 ↦ absurd (Contains-nil p h5)
            ]
          ]
        ]
      ]
    ]

-- a body of one of the masks
abbrev IsOfMask : Body → Type 0
IsOfMask body = (layer : ℕ) × (r : Rect) × IsRectWithin farthest r × (body ≡ boundary_round layer r)

map-in : {A B : Type 0} (f : A → B) (xs : List A) (x : A) → Contains xs x → Contains (map f xs) (f x)
map-in f xs x (k, k_in, is) = (k, subst (λ n. k < n) (sym (length-map xs f)) k_in, get_or-map f xs k x (f x) k_in ∙ ap f is)

map-back : {A B : Type 0} (f : A → B) (xs : List A) (d : A) (y : B) → Contains (map f xs) y → (x : A) × Contains xs x × (f x ≡ y)
map-back f xs d y (k, k_in, is) =
    let l : k < length xs = subst (λ n. k < n) (length-map xs f) k_in in
    (get_or xs k d, (k, l, get_or_default xs k (get_or xs k d) d l), sym (get_or-map f xs k d y l) ∙ is)

rounded : (layer : ℕ) (rs : List Rect) (body : Body) → AreRectsWithin farthest rs → Contains (map (boundary_round layer) rs) body → IsOfMask body
rounded layer rs body within h = let (r, r_in, is) = map-back (boundary_round layer) rs some_rect body h in (layer, r, within r r_in, sym is)

no-reference : (body : Body) → IsOfMask body → reference_name body ≡ None
no-reference body (layer, r, near, is) = ap reference_name is

not-refused : (chosen : Layer) (body : Body) (f : ElementFault) → IsOfMask body → IsRefusedFor chosen body f → ⊥
not-refused chosen body f (layer, r, near, is) refused =
    let (on, (is_f, slanted)) = subst (λ (b : Body). IsRefusedFor chosen b f) is refused in
    slanted (straight r near)

loop-within : (chosen : Layer) (body : Body) (ps : List Pt) (p : Pt) → IsOfMask body → Contains (loops_of chosen body) ps → Contains ps p → IsPointWithin farthest p
loop-within chosen body ps p (layer, r, near, is) ps_in p_in =
    let here : Contains (loops_of chosen (boundary_round layer r)) ps = subst (λ (b : Body). Contains (loops_of chosen b) ps) is ps_in in
    by_layer (eqb layer chosen.layer && eqb 0 chosen.datatype) here
  where
    by_layer : (b : Bool) → Contains (if b then points_in (xy_of r) ∷ [] else []) ps → IsPointWithin farthest p
    by_layer true h = elim (Contains-cases (points_in (xy_of r)) ps [] h) [
      | inl e ↦ corner-within r p near (subst (λ (qs : List Pt). Contains qs p) (sym e ∙ points-read r near) p_in)
      | inr none ↦ absurd (Contains-nil ps none)
    ]
    by_layer false h = absurd (Contains-nil ps h)

-- ---- points

abbrev count : ℕ → Body → ℕ
count layer body = point_count (record { layer = layer; datatype = 0 }) body

five : (layer l : ℕ) (r : Rect) → count layer (boundary_round l r) ≤ 5
five layer l r = go (eqb l layer) (xy-long r)
  where
    go : (b : Bool) → length (xy_of r) ≡ 40 → (if b && true then length (xy_of r) / 8 else 0) ≤ 5
    go true e = omega (arith, e)
    go false e = omega arith

none-on : (layer l : ℕ) (r : Rect) → l ≢ layer → count layer (boundary_round l r) ≡ 0
none-on layer l r apart = go (eqb l layer) (ne_eqb l layer apart)
  where
    go : (b : Bool) → b ≡ false → (if b && true then length (xy_of r) / 8 else 0) ≡ 0
    go true e = absurd (cc)
    go false e = refl

at-most : (layer l : ℕ) (rs : List Rect) → sum_by (count layer) (map (boundary_round l) rs) ≤ 5 * length rs
at-most layer l [] = omega arith
at-most layer l (r ∷ rs) =
    let h = at-most layer l rs in
    let k = five layer l r in
    let s = sum_by-cons (count layer) (boundary_round l r) (map (boundary_round l) rs) in
    omega (arith, h, k, s)

nothing-on : (layer l : ℕ) (rs : List Rect) → l ≢ layer → sum_by (count layer) (map (boundary_round l) rs) ≡ 0
nothing-on layer l [] apart = refl
nothing-on layer l (r ∷ rs) apart =
    let h = nothing-on layer l rs apart in
    let k = none-on layer l r apart in
    let s = sum_by-cons (count layer) (boundary_round l r) (map (boundary_round l) rs) in
    omega (arith, h, k, s)

-- elements that place nothing but their own points
module _ (lib : Library) (layer : ℕ) (below : ℕ → ℕ) where
  abbrev chosen : Layer
  chosen = record { layer = layer; datatype = 0 }

  own-points : (e : Element) → IsOfMask e.body → points_by lib chosen below e ≡ count layer e.body
  own-points e (l, r, near, is) =
      let none : columns_of e.body ≡ 0 = ap columns_of is in
      let copies : columns_of e.body * rows_of e.body ≡ 0 = ap (λ n. n * rows_of e.body) none ∙ zero-mul (rows_of e.body) in
      let all : columns_of e.body * rows_of e.body * points_at below (target_of lib e) ≡ 0 = ap
      (λ n. n * points_at below (target_of lib e)) copies ∙ zero-mul (points_at below (target_of lib e)) in
      omega (arith, all)

  all-points : (es : List Element) → ((e : Element) → Contains es e → IsOfMask e.body) → sum_by (points_by lib chosen below) es ≡ sum_by
      (count layer) (map (λ (e : Element). e.body) es)
  all-points [] of = refl
  all-points (e ∷ es) of =
      let h = all-points es (λ x x_in. of x (Contains-later e x es x_in)) in
      let k = own-points e (of e (Contains-head e es)) in
      let s = sum_by-cons (points_by lib chosen below) e es in
      let t = sum_by-cons (count layer) e.body (map (λ (x : Element). x.body) es) in
      omega (arith, h, k, s, t)

-- ---- the file

module _ (bytes : List ℕ) (la lb : ℕ) (a b : List Rect) (m : AreMasksOf bytes la lb a b) (a_is : IsMask a) (b_is : IsMask b) where
  elements-here : (k : ℕ) → (elements_at m.lib k ≡ m.top.elements) ⊎ (elements_at m.lib k ≡ [])
  elements-here zero = inl (ap (λ (ts : List Structure). elements_or_none (slice_get ts 0)) m.one)
  elements-here (suc k) = inr (ap (λ (ts : List Structure). elements_or_none (slice_get ts (suc k))) m.one)

  top-masks : (e : Element) → Contains m.top.elements e → IsOfMask e.body
  top-masks e e_in =
      let there : Contains (map (boundary_round la) a ++ map (boundary_round lb) b) e.body = subst
      (λ (bs : List Body). Contains bs e.body) m.only (map-in (λ (x : Element). x.body) m.top.elements e e_in) in
      elim (Contains-append_cases (map (boundary_round la) a) (map (boundary_round lb) b) e.body there) [
        | inl one ↦ rounded la a e.body a_is.within one
        | inr two ↦ rounded lb b e.body b_is.within two
      ]

  all-masks : (k : ℕ) (e : Element) → Contains (elements_at m.lib k) e → IsOfMask e.body
  all-masks k e e_in = elim (elements-here k) [
    | inl top ↦ top-masks e (subst (λ (es : List Element). Contains es e) top e_in)
    | inr none ↦ absurd (Contains-nil e (subst (λ (es : List Element). Contains es e) none e_in))
  ]

  no-target : (k j : ℕ) (e : Element) → Contains (elements_at m.lib k) e → target_of m.lib e ≡ Some j → ⊥
  no-target k j e e_in target =
      let (l, r, near, is) = all-masks k e e_in in
      let none : target_of m.lib (record { at = e.at; body = boundary_round l r }) ≡ Some j = subst
      (λ (x : Body). target_of m.lib (record { at = e.at; body = x }) ≡ Some j) is target in
      cc

  few-points : (layer : ℕ) (most : ℕ) → sum_by (count layer) (map (boundary_round la) a ++ map (boundary_round lb) b) ≤ most
      → placed_points m.lib (record { layer = layer; datatype = 0 }) 0 ≤ most
  few-points layer most few =
      let chosen : Layer = record { layer = layer; datatype = 0 } in
      let size : length m.lib.structures ≡ 1 = ap (λ (ts : List Structure). length ts) m.one in
      let top : elements_at m.lib 0 ≡ m.top.elements = ap (λ (ts : List Structure). elements_or_none (slice_get ts 0)) m.one in
      let one : placed_points m.lib chosen 0 ≡ sum_by (points_by m.lib chosen (points_through m.lib chosen 0)) (elements_at m.lib 0) = ap
      (λ n. points_through m.lib chosen n 0) size in
      let two : sum_by (points_by m.lib chosen (points_through m.lib chosen 0)) (elements_at m.lib 0) ≡ sum_by (count layer) (bodies_of m.top) =
      ap (λ (es : List Element). sum_by (points_by m.lib chosen (points_through m.lib chosen 0)) es) top ∙ all-points m.lib layer
      (points_through m.lib chosen 0) m.top.elements top-masks in
      let three : sum_by (count layer) (bodies_of m.top) ≡ sum_by (count layer)
      (map (boundary_round la) a ++ map (boundary_round lb) b) = ap (λ (bs : List Body). sum_by (count layer) bs) m.only in
      omega (arith, one, two, three, few)

  no-steps : (steps : List Step) (k : ℕ) → Leads m.lib 0 steps k → steps ≡ []
  no-steps [] k leads = refl
  no-steps (s ∷ steps) k (j, is, leads) = absurd (no-target 0 j s.element is.inside is.target)

  pub faultless : (layer : ℕ) → sum_by (count layer) (map (boundary_round la) a ++ map (boundary_round lb) b) ≤ most_points
      → IsFaultless m.lib 0 (record { layer = layer; datatype = 0 })
  faultless layer few =
      let chosen : Layer = record { layer = layer; datatype = 0 } in
      record {
        small = record {
          sound = record {
            whole = record {
              complete = λ k e found. (let ((name, named), missing) = found.holds in
                  let gone : None ≡ Some name = sym (no-reference e.body (all-masks k e found.inside)) ∙ named in
                  cc);
              acyclic = λ k e found. (let (j, target, back) = found.holds in no-target k j e found.inside target);
            };
            drawn = λ k e found. (let (f, refused) = found.holds in not-refused chosen e.body f (all-masks k e found.inside) refused);
          };
          few = few-points layer most_points few;
        };
        within = λ k e found. (let (steps, ps, p, placement, ps_in, p_in, out) = found.holds in
            let none = no-steps steps k placement.leads in
            let placed : Contains (placed_loops chosen [] e) ps = subst (λ (ss : List Step). Contains (placed_loops chosen ss e) ps) none ps_in in
            let here : Contains (loops_of chosen e.body) ps = subst (λ (ls : List (List Pt)). Contains ls ps) (unmoved chosen e) placed in
            out (loop-within chosen e.body ps p (all-masks k e found.inside) here p_in));
      }

  pub first-few : lb ≢ la → length a ≤ most_slabs → sum_by (count la) (map (boundary_round la) a ++ map (boundary_round lb) b) ≤ most_points
  first-few apart most =
      let s = sum_by-append (count la) (map (boundary_round la) a) (map (boundary_round lb) b) in
      let h = at-most la la a in
      let k = nothing-on la lb b apart in
      omega (arith, s, h, k, most)

  pub second-few : la ≢ lb → length b ≤ most_slabs → sum_by (count lb) (map (boundary_round la) a ++ map (boundary_round lb) b) ≤ most_points
  second-few apart most =
      let s = sum_by-append (count lb) (map (boundary_round la) a) (map (boundary_round lb) b) in
      let h = at-most lb lb b in
      let k = nothing-on lb la a apart in
      omega (arith, s, h, k, most)

  pub front : copied_of m.lib 0 ≡ Some (frame_bytes (frame_of m.lib m.top))
  front = ap (λ (ts : List Structure). option_map (λ (s : Structure). frame_bytes (frame_of m.lib s)) (slice_get ts 0)) m.one
