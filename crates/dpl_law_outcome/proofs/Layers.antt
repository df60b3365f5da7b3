-- The layers of a library whose one structure has one boundary for each rectangle.
use Rattle.std.proofs.Common.{◌≡◌, ◌≢◌, ℕ, ◌+◌, ◌<◌, ◌⊎◌, inl, inr, Bool, true, false, ◌&&◌, eqb, List, [], ◌∷◌, ◌++◌, length, map}
use Rattle.std.proofs.Common.{slice_get, Some, None, zero, suc, refl, sym, subst, ap, ◌∙◌, arith, rules}
use Rattle.std.specs.Prelude.{◌↔◌, if◌then◌else◌}
use Rattle.std.specs.List.{Contains}
use Rattle.std.proofs.lemmas.Bool.{eqb-true, eq-eqb}
use Rattle.std.proofs.lemmas.List.{map-id, map-append}
use Rattle.std.proofs.lemmas.List.Elements.{Contains-append_left, Contains-append_right, Contains-append_cases}
use Rattle.dpl_spec_split.proofs.Ordered.{Contains-cases, Contains-head, Contains-later, Contains-nil}
use Rattle.dpl_spec_split.proofs.SlabLaws.{Covers-member, member-Covers}
use Rattle.dpl_spec_split.specs.declared.Pt.{Pt}
use Rattle.dpl_spec_split.specs.declared.Rect.{Rect}
use Rattle.dpl_spec_split.specs.Squares.{Has, Covers}
use Rattle.dpl_spec_split.specs.Slabs.{IsSolid}
use Rattle.dpl_spec_split.specs.Loops.{LoopCovers, SomeLoopCovers, IsRectWithin, farthest}
use Rattle.dpl_spec_format.specs.Tree.{Library, Structure, Element, Body, is_boundary, elements_at, elements_or_none}
use Rattle.dpl_spec_layout.specs.declared.Layer.{Layer}
use Rattle.dpl_spec_layout.specs.Elements.{points_in, loops_of}
use Rattle.dpl_spec_layout.specs.Structures.{target_of, Refers, IsRoot, IsTop}
use Rattle.dpl_spec_layout.specs.Placements.{Step, IsStep, Leads, IsInLayer, placed_loops}
use Rattle.dpl_law_outcome.specs.ReadBack.{boundary_round}
use Rattle.dpl_law_outcome.proofs.Decoding.{xy_of, points-read}
use Rattle.dpl_law_outcome.proofs.Rounds.{round-covers}

-- a rectangle on a layer
pub record Shape : Type 0 where
  pub layer : ℕ
  pub rect : Rect

abbrev pub body_of_shape : Shape → Body
body_of_shape s = is_boundary (record { layer = s.layer; datatype = 0; xy = xy_of s.rect })

-- the elements, from an offset on, 64 bytes each
abbrev pub elements_from : ℕ → List Shape → List Element
elements_from at [] = []
elements_from at (s ∷ ss) = record { at = at; body = body_of_shape s } ∷ elements_from (at + 64) ss

pub record IsGoodShape (s : Shape) : Type 0 where
  pub solid : IsSolid s.rect
  pub near : IsRectWithin farthest s.rect

-- each element is of a shape, and each shape has its element
shape-of : (at : ℕ) (ss : List Shape) (e : Element) → Contains (elements_from at ss) e → (s : Shape) × Contains ss s × (e.body ≡ body_of_shape s)
shape-of at [] e h = absurd (Contains-nil e h)
shape-of at (s ∷ ss) e h = elim (Contains-cases (record { at = at; body = body_of_shape s }) e (elements_from (at + 64) ss) h) [
  | inl same ↦ (s, Contains-head s ss, ap (λ x. let y : Element = x in y.body) (sym same))
  | inr later ↦ (let (t, t_in, is) = shape-of (at + 64) ss e later in (t, Contains-later s t ss t_in, is))
]

element-of : (at : ℕ) (ss : List Shape) (s : Shape) → Contains ss s → (e : Element) × Contains (elements_from at ss) e × (e.body ≡ body_of_shape s)
element-of at [] s h = absurd (Contains-nil s h)
element-of at (t ∷ ss) s h = elim (Contains-cases t s ss h) [
  | inl same ↦ (record { at = at; body = body_of_shape t }, Contains-head (record { at = at; body = body_of_shape t }) (elements_from (at + 64) ss), ap body_of_shape same)
  | inr later ↦ (let (e, e_in, is) = element-of (at + 64) ss s later in (e, Contains-later (record { at = at; body = body_of_shape t }) e (elements_from (at + 64) ss) e_in, is))
]

one-loop : (l : List Pt) (p : Pt) → SomeLoopCovers (l ∷ []) p → LoopCovers l p
one-loop l p (k, m, k_in, is, covers) = elim (Contains-cases l m [] (k, k_in, is)) [
  | inl same ↦ subst (λ x. LoopCovers x p)
      (sym same) covers
  | inr later ↦ absurd (Contains-nil m later)
]

no-loop : (p : Pt) → SomeLoopCovers [] p → ⊥
no-loop p (k, m, k_in, is, covers) = omega (arith, k_in)

pub unmoved : (layer : Layer) (e : Element) → placed_loops layer [] e ≡ loops_of layer e.body
unmoved layer e = (λ i. map (λ (ps : List Pt). map-id ps i) (loops_of layer e.body)) ∙ map-id (loops_of layer e.body)

module _ (lib : Library) (at : ℕ) (ss : List Shape) (good : (s : Shape) → Contains ss s → IsGoodShape s) (elements : elements_at lib 0 ≡ elements_from at ss) where
  no-step : (s : Step) (j : ℕ) → IsStep lib 0 s j → ⊥
  no-step s j is =
      let (t, t_in, body) = shape-of at ss s.element (subst (λ es. Contains es s.element) elements is.inside) in
      let none : target_of lib (record { at = s.element.at; body = body_of_shape t }) ≡ Some j = subst
      (λ b. target_of lib (record { at = s.element.at; body = b }) ≡ Some j) body is.target in
      cc

  loops-are : (layer : ℕ) (s : Shape) (p : Pt) → IsGoodShape s
      → SomeLoopCovers (loops_of (record { layer = layer; datatype = 0 }) (body_of_shape s)) p ↔ ((s.layer ≡ layer) × Has s.rect p)
  loops-are layer s p is =
      let points = points-read s.rect is.near in
      let round = round-covers s.rect p is.solid in (
        by_layer (eqb s.layer layer) refl,
        λ (same, has).
            let b : eqb s.layer layer ≡ true = eq-eqb s.layer layer same in
            subst (λ x. SomeLoopCovers (if x && true then points_in (xy_of s.rect) ∷ [] else []) p) (sym b)
            (0, points_in (xy_of s.rect), omega arith, refl, subst (λ l. LoopCovers l p) (sym points) (round.1 has)),
      )
    where
      by_layer : (b : Bool) → eqb s.layer layer ≡ b → SomeLoopCovers (if eqb s.layer layer && true then points_in (xy_of s.rect) ∷ [] else []) p → (s.layer ≡ layer) × Has s.rect p
      by_layer true e c =
          let covers = one-loop (points_in (xy_of s.rect)) p (subst (λ x. SomeLoopCovers (if x && true then points_in (xy_of s.rect) ∷ [] else []) p) e c) in
          (eqb-true s.layer layer e, (round-covers s.rect p is.solid).0 (subst (λ l. LoopCovers l p) (points-read s.rect is.near) covers))
      by_layer false e c = absurd (no-loop p (subst (λ x. SomeLoopCovers (if x && true then points_in (xy_of s.rect) ∷ [] else []) p) e c))

  abbrev InShapes : ℕ → Pt → Type 0
  InShapes layer p = (s : Shape) × Contains ss s × (s.layer ≡ layer) × Has s.rect p

  to-shapes : (layer : ℕ) (p : Pt) (steps : List Step) (k : ℕ) (e : Element) → Leads lib 0 steps k → Contains (elements_at lib k) e
      → SomeLoopCovers (placed_loops (record { layer = layer; datatype = 0 }) steps e) p → InShapes layer p
  to-shapes layer p [] k e leads inside covers =
      let here : Contains (elements_from at ss) e = subst (λ es. Contains es e) elements (subst (λ n. Contains (elements_at lib n) e) (sym leads) inside) in
      let (s, s_in, body) = shape-of at ss e here in
      let chosen : Layer = record { layer = layer; datatype = 0 } in
      let plain = subst (λ ls. SomeLoopCovers ls p) (unmoved chosen e) covers in
      let h = (loops-are layer s p (good s s_in)).0 (subst (λ b. SomeLoopCovers (loops_of chosen b) p) body plain) in
      (s, s_in, h.0, h.1)
  to-shapes layer p (s ∷ steps) k e (j, is, leads) inside covers = absurd (no-step s j is)

  from-shapes : (layer : ℕ) (p : Pt) → InShapes layer p → IsInLayer lib 0 (record { layer = layer; datatype = 0 }) p
  from-shapes layer p (s, s_in, same, has) =
      let (e, e_in, body) = element-of at ss s s_in in
      let chosen : Layer = record { layer = layer; datatype = 0 } in
      let plain = (loops-are layer s p (good s s_in)).1 (same, has) in
      let covers = subst (λ ls. SomeLoopCovers ls p) (sym (unmoved chosen e)) (subst (λ b. SomeLoopCovers (loops_of chosen b) p) (sym body) plain) in
      ([], 0, e, record { leads = refl; inside = subst (λ es. Contains es e) (sym elements) e_in }, covers)

  pub layer-is : (layer : ℕ) (p : Pt) → IsInLayer lib 0 (record { layer = layer; datatype = 0 }) p ↔ InShapes layer p
  layer-is layer p = (λ (steps, k, e, placement, covers). to-shapes layer p steps k e placement.leads placement.inside covers, from-shapes layer p)

-- ---- the top

module _ (lib : Library) (top : Structure) (one : lib.structures ≡ top ∷ []) (at : ℕ) (ss : List Shape) (elements : top.elements ≡ elements_from at ss) where
  all-here : (j : ℕ) → (slice_get lib.structures j ≡ Some top) ⊎ (slice_get lib.structures j ≡ None)
  all-here zero = inl (ap (λ ts. slice_get ts 0) one)
  all-here (suc j) = inr (ap (λ ts. slice_get ts (suc j)) one)

  refers-nowhere : (j k : ℕ) → Refers lib j k → ⊥
  refers-nowhere j k (e, e_in, target) = elim (all-here j) [
    | inl here ↦ (let (t, t_in, body) = shape-of at ss e (subst (λ es. Contains es e) (ap elements_or_none here ∙ elements) e_in) in
        let none : target_of lib (record { at = e.at; body = body_of_shape t }) ≡ Some k = subst (λ b. target_of lib (record { at = e.at; body = b }) ≡ Some k) body target in
        cc)
    | inr none ↦ absurd (Contains-nil e (subst (λ es. Contains es e) (ap elements_or_none none) e_in))
  ]

  root : IsRoot lib 0
  root = let size : length lib.structures ≡ 1 = ap length one in record { known = omega (arith, size); unreferred = λ j. refers-nowhere j 0 }

  the-root : (k : ℕ) → IsRoot lib k → Contains (0 ∷ []) k
  the-root k is =
      let size : length lib.structures ≡ 1 = ap length one in
      let known : k < length lib.structures = is.known in
      let zero_is : 0 ≡ k = omega (arith, size, known) in
      subst (λ n. Contains (0 ∷ []) n) zero_is (Contains-head 0 [])

  only-root : (k : ℕ) → Contains (0 ∷ []) k → IsRoot lib k
  only-root k h = elim (Contains-cases 0 k [] h) [ inl same ↦ subst (IsRoot lib) same root | inr later ↦ absurd (Contains-nil k later) ]

  pub top-is : IsTop lib None 0
  top-is = record { ordered = search rules; exactly = λ k. (only-root k, the-root k) }

-- ---- the shapes of two masks

abbrev pub on_layer : ℕ → Rect → Shape
on_layer layer r = record { layer = layer; rect = r }

abbrev pub shapes_of : ℕ → List Rect → List Shape
shapes_of layer rs = map (on_layer layer) rs

abbrev pub both_shapes : ℕ → ℕ → List Rect → List Rect → List Shape
both_shapes la lb a b = shapes_of la a ++ shapes_of lb b

shape-in : (layer : ℕ) (rs : List Rect) (s : Shape) → Contains (shapes_of layer rs) s → Contains rs s.rect × (s.layer ≡ layer)
shape-in layer [] s h = absurd (Contains-nil s h)
shape-in layer (r ∷ rs) s h = elim (Contains-cases (on_layer layer r) s (shapes_of layer rs) h) [
  | inl same ↦ (subst (λ x. let y : Shape = x in Contains (r ∷ rs) y.rect) same (Contains-head r rs), ap (λ x. let y : Shape = x in y.layer) (sym same))
  | inr later ↦ (let (there, is) = shape-in layer rs s later in (Contains-later r s.rect rs there, is))
]

in-shapes : (layer : ℕ) (rs : List Rect) (r : Rect) → Contains rs r → Contains (shapes_of layer rs) (on_layer layer r)
in-shapes layer [] r h = absurd (Contains-nil r h)
in-shapes layer (q ∷ rs) r h = elim (Contains-cases q r rs h) [
  | inl same ↦ subst (λ x. Contains (shapes_of layer (q ∷ rs)) (on_layer layer x)) same (Contains-head (on_layer layer q) (shapes_of layer rs))
  | inr later ↦ Contains-later (on_layer layer q) (on_layer layer r) (shapes_of layer rs) (in-shapes layer rs r later)
]

pub first-mask : (la lb : ℕ) (a b : List Rect) (p : Pt) → la ≢ lb → ((s : Shape) × Contains (both_shapes la lb a b) s × (s.layer ≡ la) × Has s.rect p) ↔ Covers a p
first-mask la lb a b p apart = (
  λ (s, s_in, same, has). elim (Contains-append_cases (shapes_of la a) (shapes_of lb b) s s_in) [
    | inl one ↦ Covers-member a s.rect p (shape-in la a s one).0 has
    | inr other ↦ absurd (apart (sym same ∙ (shape-in lb b s other).1))
  ],
  λ c. (let (r, r_in, has) = member-Covers a p c in (on_layer la r, Contains-append_left (shapes_of la a) (shapes_of lb b) (on_layer la r) (in-shapes la a r r_in), refl, has)),
)

pub second-mask : (la lb : ℕ) (a b : List Rect) (p : Pt) → la ≢ lb → ((s : Shape) × Contains (both_shapes la lb a b) s × (s.layer ≡ lb) × Has s.rect p) ↔ Covers b p
second-mask la lb a b p apart = (
  λ (s, s_in, same, has). elim (Contains-append_cases (shapes_of la a) (shapes_of lb b) s s_in) [
    | inl one ↦ absurd (apart (sym (shape-in la a s one).1 ∙ same))
    | inr other ↦ Covers-member b s.rect p (shape-in lb b s other).0 has
  ],
  λ c. (let (r, r_in, has) = member-Covers b p c in (on_layer lb r, Contains-append_right (shapes_of la a) (shapes_of lb b) (on_layer lb r) (in-shapes lb b r r_in), refl, has)),
)

-- the elements of the shapes are those of both masks
bodies-from : (at : ℕ) (ss : List Shape) → map (λ (e : Element). e.body) (elements_from at ss) ≡ map body_of_shape ss
bodies-from at [] = refl
bodies-from at (s ∷ ss) = ap (λ bs. body_of_shape s ∷ bs) (bodies-from (at + 64) ss)

bodies-of : (layer : ℕ) (rs : List Rect) → map body_of_shape (shapes_of layer rs) ≡ map (boundary_round layer) rs
bodies-of layer [] = refl
bodies-of layer (r ∷ rs) = ap (λ bs. boundary_round layer r ∷ bs) (bodies-of layer rs)

pub bodies-both : (at la lb : ℕ) (a b : List Rect) → map (λ (e : Element). e.body) (elements_from at (both_shapes la lb a b)) ≡ map
    (boundary_round la) a ++ map (boundary_round lb) b
bodies-both at la lb a b =
    bodies-from at (both_shapes la lb a b)
    ∙ map-append body_of_shape (shapes_of la a) (shapes_of lb b)
    ∙ (λ i. bodies-of la a i ++ bodies-of lb b i)

-- what holds of the shapes of each mask
pub all-shapes : (P : Shape → Type 0) (la lb : ℕ) (a b : List Rect) → ((r : Rect) → Contains a r → P (on_layer la r))
    → ((r : Rect) → Contains b r → P (on_layer lb r)) → (s : Shape) → Contains (both_shapes la lb a b) s → P s
all-shapes P la lb a b one other s s_in = elim (Contains-append_cases (shapes_of la a) (shapes_of lb b) s s_in) [
  | inl here ↦ (let (r_in, is) = shape-in la a s here in subst (λ l. P (record { layer = l; rect = s.rect })) (sym is) (one s.rect r_in))
  | inr there ↦ (let (r_in, is) = shape-in lb b s there in subst (λ l. P (record { layer = l; rect = s.rect })) (sym is) (other s.rect r_in))
]
