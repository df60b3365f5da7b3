-- What a tile finds: the edges of its slabs and themselves, and of its pairs of near slabs.
use Rattle.std.proofs.Common.{◌≡◌, ℕ, ◌<◌, ◌⊎◌, inl, inr, List, [], ◌∷◌, true, length, get_or, refl, sym, ap, subst, ◌∙◌, arith}
use Rattle.std.specs.Prelude.{◌↔◌, ℤ}
use Rattle.std.specs.Int.{int_max}
use Rattle.std.specs.List.{Contains}
use Rattle.std.proofs.lemmas.Int.{ints, clamps, by_lt_z}
use Rattle.std.proofs.lemmas.Bool.{cases_order}
use Rattle.std.proofs.lemmas.List.{get_or_default, get_or-map, length-map}
use Rattle.std.proofs.lemmas.List.FromFn.{get_or-range_with_len}
use Rattle.dpl_spec_split.specs.declared.Pt.{Pt}
use Rattle.dpl_spec_split.specs.declared.Rect.{Rect}
use Rattle.dpl_spec_split.specs.Squares.{Covers, Has, Near, Touch, uniform}
use Rattle.dpl_spec_split.specs.Slabs.{IsCanonical, IsSolid}
use Rattle.dpl_spec_split.specs.Zones.{at, part_at}
use Rattle.dpl_spec_split.specs.Graphs.{AreEdges}
use Rattle.dpl_spec_split.proofs.Ordered.{Contains-cases, Contains-nil}
use Rattle.dpl_spec_split.proofs.SpacingLaws.{few-uniform}
use Rattle.dpl_spec_split.proofs.SquareLaws.{Touch-sym}
use Rattle.dpl_feature.proofs.Links.{Touch-refl}
use Rattle.dpl_slabs.specs.Parts.{union_of}
use Rattle.dpl_tree.specs.declared.items.Item.{Item}
use Rattle.dpl_tree.specs.Trees.{AreItemsOf, LiesApart}
use Rattle.dpl_tile.proofs.Loops.{OfSome}
use Rattle.dpl_edges.specs.InCells.{ConflictIn, in_cell}
use Rattle.dpl_edges.specs.Meetings.{HaveCommon}
use Rattle.dpl_wide.specs.Sheets.{IsOwnEdge, IsPairEdge, below, edges_in, touch_in}
use Rattle.dpl_wide.specs.Touching.{alone, crossed, no_slab, slab_at}
use Rattle.dpl_wide.proofs.Rects.{TouchIn, in-yes, yes-in}
use Rattle.dpl_wide.proofs.Rooting.{slab-solid}
use Rattle.dpl_wide.proofs.Sheeting.{IsEdgeIn, are-edges, edges-are}

common-from : (cell r : Rect) → ¬ LiesApart cell r → HaveCommon cell r
common-from cell r not = record {
  left = by_lt_z cell.x0 r.x1 (λ l. l) (λ m. absurd (not (inl m)));
  right = by_lt_z r.x0 cell.x1 (λ l. l) (λ m. absurd (not (inr (inl m))));
  low = by_lt_z cell.y0 r.y1 (λ l. l) (λ m. absurd (not (inr (inr (inl m)))));
  high = by_lt_z r.y0 cell.y1 (λ l. l) (λ m. absurd (not (inr (inr (inr m)))));
}

-- the first square of both
common-has : (cell r : Rect) (x y : ℤ) → IsSolid cell → IsSolid r → HaveCommon cell r → x ≡ int_max cell.x0 r.x0 → y ≡ int_max cell.y0 r.y0 → Has cell (at x y) × Has r (at x y)
common-has cell r x y cell_solid r_solid c x_is y_is =
    let a = cell_solid.wide in
    let b = cell_solid.tall in
    let d = r_solid.wide in
    let e = r_solid.tall in
    let f = c.left in
    let g = c.right in
    let h = c.low in
    let i = c.high in (
      record {
        left = omega (arith, ints, clamps, x_is);
        right = omega (arith, ints, clamps, x_is, a, g);
        low = omega (arith, ints, clamps, y_is);
        high = omega (arith, ints, clamps, y_is, b, i);
      },
      record {
        left = omega (arith, ints, clamps, x_is);
        right = omega (arith, ints, clamps, x_is, d, f);
        low = omega (arith, ints, clamps, y_is);
        high = omega (arith, ints, clamps, y_is, e, h);
      },
    )

apart-none : (cell r : Rect) (p : Pt) → LiesApart cell r → Has cell p → Has r p → ⊥
apart-none cell r p (inl m) in_cell in_r = let a = in_cell.left in let b = in_r.right in omega (arith, ints, m, a, b)
apart-none cell r p (inr (inl m)) in_cell in_r = let a = in_cell.right in let b = in_r.left in omega (arith, ints, m, a, b)
apart-none cell r p (inr (inr (inl m))) in_cell in_r = let a = in_cell.low in let b = in_r.high in omega (arith, ints, m, a, b)
apart-none cell r p (inr (inr (inr m))) in_cell in_r = let a = in_cell.high in let b = in_r.low in omega (arith, ints, m, a, b)

-- a slab touches itself in each cell where it has a square
self-touch : (cell r : Rect) → IsSolid cell → IsSolid r → ¬ LiesApart cell r → touch_in cell r r ≡ true
self-touch cell r cell_solid r_solid not =
    let p : Pt = at (int_max cell.x0 r.x0) (int_max cell.y0 r.y0) in
    let (in_cell, in_r) = common-has cell r p.x p.y cell_solid r_solid (common-from cell r not) refl refl in
    yes-in cell r r (inl (p, p, (in_r, in_cell), in_r, Touch-refl p))

self-common : (cell r : Rect) → IsSolid r → touch_in cell r r ≡ true → ¬ LiesApart cell r
self-common cell r solid touch apart = elim (in-yes cell r r solid solid touch) [
  | inl (p, q, a, b, t) ↦ apart-none cell r p apart a.1 a.0
  | inr (p, q, a, b, t) ↦ apart-none cell r p apart a.1 a.0
]

near-touch : (p q : Pt) → Near (uniform 1) p q → Touch p q
near-touch p q near = let l = (few-uniform 1 _ _).0 near in omega (arith, l)

touch-near : (p q : Pt) → Touch p q → Near (uniform 1) p q
touch-near p q touch = (few-uniform 1 _ _).1 (omega (arith, touch))

TouchIn-sym : (cell r s : Rect) → TouchIn cell r s → TouchIn cell s r
TouchIn-sym cell r s (inl t) = inr t
TouchIn-sym cell r s (inr t) = inl t

module _ (slabs : List Rect) where
  pub many-alone : length (alone slabs) ≡ length slabs
  many-alone = length-map slabs (λ (r : Rect). r ∷ [])

  pub alone-at : (k : ℕ) → k < length slabs → get_or (alone slabs) k [] ≡ slab_at slabs k ∷ []
  alone-at k l = get_or-map (λ (r : Rect). r ∷ []) slabs k no_slab [] l

  pub one-has : (r : Rect) (p : Pt) → Covers (r ∷ []) p ↔ Has r p
  one-has r p = (
    λ (k, s, k_in, is, has). elim (Contains-cases r s [] (k, k_in, is)) [ inl same ↦ subst (λ (u : Rect). Has u p) (sym same) has | inr none ↦ absurd (Contains-nil s none) ],
    λ has. (0, r, omega arith, refl, has),
  )

  part-slab : (k : ℕ) (p : Pt) → k < length slabs → part_at (alone slabs) k p → Has (slab_at slabs k) p
  part-slab k p l c = (one-has (slab_at slabs k) p).0 (subst (λ (s : List Rect). Covers s p) (alone-at k l) c)

  slab-part : (k : ℕ) (p : Pt) → k < length slabs → Has (slab_at slabs k) p → part_at (alone slabs) k p
  slab-part k p l has = subst (λ (s : List Rect). Covers s p) (sym (alone-at k l)) ((one-has (slab_at slabs k) p).1 has)

  -- the squares of all slabs are those of the layer
  pub covers-union : (p : Pt) → Covers slabs p → union_of (alone slabs) p
  covers-union p (k, r, k_in, is, has) =
      let same : r ≡ slab_at slabs k = sym is ∙ get_or_default slabs k r no_slab k_in in
      let many = many-alone in (
        k,
        get_or (alone slabs) k [],
        omega (arith, k_in, many),
        get_or_default (alone slabs) k _ [] (omega (arith, k_in, many)),
        slab-part k p k_in (subst (λ (u : Rect). Has u p) same has),
      )

  own-number : (k : ℕ) → k < length slabs → get_or (below (length slabs)) k 0 ≡ k
  own-number k l = let e = get_or-range_with_len 0 (length slabs) k 0 l in omega (arith, e)

  module _ (cell : Rect) where
    conflict-touch : (i j : ℕ) → ConflictIn (uniform 1) (alone slabs) (below (length slabs)) cell i j
        → (i < length slabs) × (j < length slabs) × TouchIn cell (slab_at slabs i) (slab_at slabs j)
    conflict-touch i j c =
        let many = many-alone in
        let first = c.first in
        let second = c.second in
        let i_in : i < length slabs = omega (arith, first, many) in
        let j_in : j < length slabs = omega (arith, second, many) in (
          i_in,
          j_in,
          elim c.near [
            | inl (p, q, a, b, near) ↦ inl (p, q, (part-slab i p i_in a.0, a.1), part-slab j q j_in b, near-touch p q near)
            | inr (p, q, a, b, near) ↦ TouchIn-sym cell (slab_at slabs j) (slab_at slabs i)
                (inl (q, p, (part-slab j q j_in b.0, b.1), part-slab i p i_in a, Touch-sym p q (near-touch p q near)))
          ],
        )

    touch-conflict : (i j : ℕ) → i < j → j < length slabs → TouchIn cell (slab_at slabs i) (slab_at slabs j) → ConflictIn (uniform 1) (alone slabs) (below (length slabs)) cell i j
    touch-conflict i j l j_in t =
        let many = many-alone in
        let i_in : i < length slabs = omega (arith, l, j_in) in
        record {
          first = omega (arith, many, i_in);
          second = omega (arith, many, j_in);
          apart = λ e. (let a = own-number i i_in in let b = own-number j j_in in omega (arith, a, b, e, l));
          near = elim t [
            | inl (p, q, a, b, touch) ↦ inl (p, q, (slab-part i p i_in a.0, a.1), slab-part j q j_in b, touch-near p q touch)
            | inr (q, p, b, a, touch) ↦ inr (p, q, slab-part i p i_in a, (slab-part j q j_in b.0, b.1), touch-near p q (Touch-sym q p touch))
          ];
        }

    module _ (canonical : IsCanonical slabs) (solid : IsSolid cell) (items : List Item) (are : AreItemsOf (alone slabs) items)
        (pairs : List (ℕ × ℕ)) (listed : AreEdges (ConflictIn (uniform 1) (alone slabs) (below (length slabs)) cell) pairs) where
      item-slab : (item : Item) → Contains items item → (item.owner < length slabs) × (slab_at slabs item.owner ≡ item.rect)
      item-slab item there =
          let many = many-alone in
          let (k_in, has) = (are item.rect item.owner).0 (item, there, refl, refl) in
          let l : item.owner < length slabs = omega (arith, k_in, many) in (
            l,
            elim (Contains-cases (slab_at slabs item.owner) item.rect [] (subst (λ (s : List Rect). Contains s item.rect) (alone-at item.owner l) has)) [
              | inl same ↦ same
              | inr none ↦ absurd (Contains-nil item.rect none)
            ],
          )

      own-edge : (e : ℕ × ℕ) → OfSome (IsOwnEdge cell) items e → (i j : ℕ) × IsEdgeIn slabs cell i j e
      own-edge e (item, there, (not, is)) =
          let (l, same) = item-slab item there in
          let k = item.owner in (
            k,
            k,
            record {
              first = l;
              second = l;
              touch = self-touch cell (slab_at slabs k) solid (slab-solid slabs canonical k l) (subst (λ (r : Rect). ¬ LiesApart cell r) (sym same) not);
              is = is;
            },
          )

      edge-own : (k : ℕ) (e : ℕ × ℕ) → k < length slabs → touch_in cell (slab_at slabs k) (slab_at slabs k) ≡ true → e ≡ crossed k k → OfSome (IsOwnEdge cell) items e
      edge-own k e l touch is =
          let many = many-alone in
          let has : Contains (get_or (alone slabs) k []) (slab_at slabs k) = subst (λ (s : List Rect). Contains s (slab_at slabs k)) (sym (alone-at k l)) (0, omega arith, refl) in
          let (item, there, rect_is, own_is) = (are (slab_at slabs k) k).1 (omega (arith, many, l), has) in
          let not : ¬ LiesApart cell (slab_at slabs k) = self-common cell (slab_at slabs k) (slab-solid slabs canonical k l) touch in
          (item, there, (subst (λ (r : Rect). ¬ LiesApart cell r) (sym rect_is) not, is ∙ ap (λ (m : ℕ). crossed m m) (sym own_is)))

      pair-edge : (e : ℕ × ℕ) → OfSome IsPairEdge pairs e → (i j : ℕ) × IsEdgeIn slabs cell i j e
      pair-edge e (pair, there, either) =
          let (order, c) = (listed.exactly pair.0 pair.1).0 there in
          let (i_in, j_in, t) = conflict-touch pair.0 pair.1 c in
          elim either [
            | inl is ↦ (pair.0, pair.1, record { first = i_in; second = j_in; touch = yes-in cell _ _ t; is = is })
            | inr is ↦ (pair.1, pair.0, record { first = j_in; second = i_in; touch = yes-in cell _ _ (TouchIn-sym cell _ _ t); is = is })
          ]

      edge-pair : (i j : ℕ) → i < j → (e : ℕ × ℕ) → j < length slabs → TouchIn cell (slab_at slabs i) (slab_at slabs j) → IsPairEdge (i, j) e → OfSome IsPairEdge pairs e
      edge-pair i j l e j_in t either = ((i, j), (listed.exactly i j).1 (l, touch-conflict i j l j_in t), either)

      touching-of : (i j : ℕ) (e : ℕ × ℕ) → IsEdgeIn slabs cell i j e → TouchIn cell (slab_at slabs i) (slab_at slabs j)
      touching-of i j e h = in-yes cell (slab_at slabs i) (slab_at slabs j) (slab-solid slabs canonical i h.first) (slab-solid slabs canonical j h.second) h.touch

      edge-either : (i j : ℕ) (e : ℕ × ℕ) → IsEdgeIn slabs cell i j e → OfSome (IsOwnEdge cell) items e ⊎ OfSome IsPairEdge pairs e
      edge-either i j e h = elim (cases_order i j) [
        | inl same ↦ inl (edge-own i e h.first (subst (λ (m : ℕ). touch_in cell (slab_at slabs i) (slab_at slabs m) ≡ true) (sym same) h.touch)
            (h.is ∙ ap (λ (m : ℕ). crossed i m) (sym same)))
        | inr other ↦ elim other [
          | inl l ↦ inr (edge-pair i j l e h.second (touching-of i j e h) (inl h.is))
          | inr l ↦ inr (edge-pair j i l e h.first (TouchIn-sym cell _ _ (touching-of i j e h)) (inr h.is))
        ]
      ]

      -- the edges of both kinds are those of the tile's list
      pub both-kinds : (found : List (ℕ × ℕ)) → ((e : ℕ × ℕ) → Contains found e ↔ (OfSome (IsOwnEdge cell) items e ⊎ OfSome IsPairEdge pairs e))
          → (e : ℕ × ℕ) → Contains found e ↔ Contains (edges_in slabs cell) e
      both-kinds found adds e = (
        λ c. (let (i, j, h) = elim ((adds e).0 c) as (λ _. (i j : ℕ) × IsEdgeIn slabs cell i j e) [ inl own ↦ own-edge e own | inr pair ↦ pair-edge e pair ] in
            are-edges slabs cell i j e h),
        λ c. (let (i, j, h) = edges-are slabs cell e c in (adds e).1 (edge-either i j e h)),
      )
