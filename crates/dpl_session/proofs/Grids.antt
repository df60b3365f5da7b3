-- The cells of a plan over a layer and the least square that any may have.
use Rattle.std.proofs.Common.{◌≡◌, ◌∙◌, ◌+◌, ◌*◌, ◌^◌, ◌<◌, ◌≤◌, ℕ, zero, suc, ◌⊎◌, inl, inr, List, [], ◌∷◌, get_or, subst, sym, refl, ap, arith}
use Rattle.std.specs.Prelude.{◌↔◌, pos, ◌+ℤ◌, ◌≤ℤ◌, ◌<ℤ◌}
use Rattle.std.specs.List.{Contains}
use Rattle.std.proofs.lemmas.Int.{ints}
use Rattle.std.proofs.lemmas.Bool.{cases_lt}
use Rattle.std.proofs.lemmas.List.Elements.{Contains-get_or}
use Rattle.std.proofs.Math.Nat.{pow-suc}
use Rattle.dpl_spec_split.specs.declared.Pt.{Pt}
use Rattle.dpl_spec_split.specs.declared.Rect.{Rect}
use Rattle.dpl_spec_split.specs.Squares.{Region, Covers}
use Rattle.dpl_spec_split.specs.Slabs.{AreSlabsOf, IsSolid}
use Rattle.dpl_spec_split.specs.Loops.{farthest, AreRectsWithin}
use Rattle.dpl_slabs.specs.Parts.{AreParts, union_of}
use Rattle.dpl_tile.specs.declared.grid.Grid.{Grid}
use Rattle.dpl_tile.specs.Tiles.{AreCells as AreCellsOf, AreTiles, IsCoarse, IsGrid, cell_at}
use Rattle.dpl_tile.proofs.TileLaws.{doubled-some, squares-one_cell}
use Rattle.dpl_session.proofs.Alone.{alone_only, only_alone, zero_rect}
use Rattle.dpl_session.specs.Kept.{AreCells, AreWide, IsClose}
use Rattle.dpl_session.specs.Tiles.{IsSide, corner, grid, with_corner}

-- a square that a layer may have
pub record IsNearby (p : Pt) : Type 0 where
  pub left : corner ≤ℤ p.x
  pub low : corner ≤ℤ p.y
  pub right : p.x <ℤ pos 1000000000
  pub high : p.y <ℤ pos 1000000000

-- the least such square
abbrev pub first : Pt
first = record { x = corner; y = corner }

pub nearby : (rs : List Rect) (p : Pt) → AreRectsWithin farthest rs → Covers rs p → IsNearby p
nearby rs p within (k, r, k_in, is, has) =
    let w = within r (k, k_in, is) in
    let a = has.left in
    let b = has.right in
    let c = has.low in
    let d = has.high in
    let e = w.left in
    let f = w.right in
    let g = w.low in
    let h = w.high in
    record { left = omega (arith, ints, a, e); low = omega (arith, ints, c, g); right = omega (arith, ints, b, f); high = omega (arith, ints, d, h) }

-- the squares of one set
pub in_one : (rs : List Rect) (p : Pt) → Covers rs p → union_of (rs ∷ []) p
in_one rs p h = (0, rs, omega arith, refl, h)

pub one_in : (rs : List Rect) (p : Pt) → union_of (rs ∷ []) p → Covers rs p
one_in rs p (zero, s, l, is, h) = subst (λ t. Covers t p) (sym is) h
one_in rs p (suc k, s, l, is, h) = absurd (omega (arith, l))

product : (t m : ℕ) → t * m * 2 ≡ t * (m * 2)
product t m = grind arith

-- what the cells over squares are, the first one among them
pub record AreSided (rs : List Rect) (tile : ℕ) (cells : List Rect) (side : ℕ) : Type 0 where
  pub doublings : ℕ
  pub doubled : side ≡ tile * 2 ^ doublings
  pub coarse : IsCoarse (rs ∷ []) (grid side)
  pub least : (k : ℕ) → k < doublings → IsCoarse (rs ∷ []) (grid (tile * 2 ^ k)) → ⊥
  pub wide : AreWide cells side
  pub are : AreCells (Covers rs) side cells

module _ (rs : List Rect) (tile : ℕ) (cells : List Rect) (within : AreRectsWithin farthest rs) (has_first : Covers rs first) (some : 1 ≤ tile) (small : tile < 2 ^ 32) (g : Grid)
    (is : IsGrid (rs ∷ []) tile g) (all : AreCellsOf (rs ∷ []) g cells) where
  x_is : g.x ≡ corner
  x_is =
      let (p, p_in, left) = is.bounded.left in
      let near = (nearby rs p within (one_in rs p p_in)).left in
      let inside = (is.bounded.inside first (in_one rs first has_first)).left in
      let low = is.left in
      omega (arith, ints, left, near, inside, low)

  y_is : g.y ≡ corner
  y_is =
      let (p, p_in, low) = is.bounded.low in
      let near = (nearby rs p within (one_in rs p p_in)).low in
      let inside = (is.bounded.inside first (in_one rs first has_first)).low in
      let here = is.low in
      omega (arith, ints, low, near, inside, here)

  same_cell : (e : ℕ × ℕ) → cell_at g e ≡ cell_at (grid g.side) e
  same_cell e = ap (λ x. cell_at (record { x = x; y = g.y; side = g.side }) e) x_is ∙ ap (λ y. cell_at (record { x = corner; y = y; side = g.side }) e) y_is

  small_side : (n : ℕ) → g.side ≡ tile * 2 ^ n → ((k : ℕ) → k < n → IsCoarse (rs ∷ []) (record { x = g.x; y = g.y; side = tile * 2 ^ k }) → ⊥) → g.side < 2 ^ 32
  small_side zero same least = omega (arith, same, small)
  small_side (suc k) same least =
      let twice : g.side ≡ tile * 2 ^ k * 2 = same ∙ (ap (λ m. tile * m) (pow-suc 2 k) ∙ sym (product tile (2 ^ k))) in
      elim (cases_lt g.side (2 ^ 32)) [
        | inl l ↦ l
        | inr m ↦ absurd (least k (omega arith) (inr (λ p p_in. (
            let near = nearby rs p within (one_in rs p p_in) in
            let a = near.left in
            let b = near.right in
            let c = near.low in
            let d = near.high in
            let x = x_is in
            let y = y_is in
            record { left = omega (arith, ints, a, x); right = omega (arith, ints, b, x, twice, m); low = omega (arith, ints, c, y); high = omega (arith, ints, d, y, twice, m) }))))
      ]

  to_corner : (side : ℕ) → IsCoarse (rs ∷ []) (record { x = g.x; y = g.y; side = side }) → IsCoarse (rs ∷ []) (grid side)
  to_corner side c = subst (λ x. IsCoarse (rs ∷ []) (record { x = x; y = corner; side = side })) x_is
      (subst (λ y. IsCoarse (rs ∷ []) (record { x = g.x; y = y; side = side })) y_is c)

  from_corner : (side : ℕ) → IsCoarse (rs ∷ []) (grid side) → IsCoarse (rs ∷ []) (record { x = g.x; y = g.y; side = side })
  from_corner side c = subst (λ x. IsCoarse (rs ∷ []) (record { x = x; y = g.y; side = side })) (sym x_is)
      (subst (λ y. IsCoarse (rs ∷ []) (record { x = corner; y = y; side = side })) (sym y_is) c)

  few : g.side < 2 ^ 32
  few = small_side is.doublings is.side is.least

  one : 1 ≤ g.side
  one = doubled-some tile g.side some (is.doublings, is.side)

  close : (c : Rect) → Contains cells c → IsClose c × (IsSolid c × (c.x1 ≡ c.x0 +ℤ pos g.side))
  close c c_in =
      let ((e, same), (p, p_in, has)) = (all.exactly c).0 c_in in
      let near = nearby rs p within (one_in rs p p_in) in
      let a = near.right in
      let b = near.high in
      let left = has.left in
      let low = has.low in
      let x0 : c.x0 ≡ g.x +ℤ pos (e.1 * g.side) = ap (λ (r : Rect). r.x0) same in
      let x1 : c.x1 ≡ g.x +ℤ pos (e.1 * g.side + g.side) = ap (λ (r : Rect). r.x1) same in
      let y0 : c.y0 ≡ g.y +ℤ pos (e.0 * g.side) = ap (λ (r : Rect). r.y0) same in
      let y1 : c.y1 ≡ g.y +ℤ pos (e.0 * g.side + g.side) = ap (λ (r : Rect). r.y1) same in
      let x = x_is in
      let y = y_is in
      let f = few in
      let o = one in (
        record {
          left = omega (arith, ints, x0, x);
          low = omega (arith, ints, y0, y);
          across = omega (arith, ints, a, left);
          up = omega (arith, ints, b, low);
          right = omega (arith, ints, a, left, x0, x1, f);
          high = omega (arith, ints, b, low, y0, y1, f);
        },
        (record { wide = omega (arith, ints, x0, x1, o); tall = omega (arith, ints, y0, y1, o) }, omega (arith, ints, x0, x1)),
      )

  are_sided : AreTiles (rs ∷ []) tile cells → AreSided rs tile cells g.side
  are_sided tiles =
      let (first_cell, only) = squares-one_cell (rs ∷ []) tile cells some tiles first (in_one rs first has_first) in
      let (k, k_in, k_is) = only.listed in
      record {
        doublings = is.doublings;
        doubled = is.side;
        coarse = to_corner g.side is.coarse;
        least = λ k l c. is.least k l (from_corner (tile * 2 ^ k) c);
        wide = record { few = few; some = omega (arith, k_in); width = λ k d k_in. (close (get_or cells k d) (Contains-get_or cells k d k_in)).1.1 };
        are = record {
          rising = all.ordered;
          each = λ k d k_in. (let ((e, same), occupied) = (all.exactly (get_or cells k d)).0 (Contains-get_or cells k d k_in) in (e, same ∙ same_cell e));
          solid = λ k d k_in. (close (get_or cells k d) (Contains-get_or cells k d k_in)).1.0;
          close = λ k d k_in. (close (get_or cells k d) (Contains-get_or cells k d k_in)).0;
          full = λ p p_in. (let (c, only) = squares-one_cell (rs ∷ []) tile cells some tiles p (in_one rs p p_in) in (c, only.listed, only.inside));
        };
      }

pub sided : (rs : List Rect) (tile : ℕ) (cells : List Rect) → AreRectsWithin farthest rs → Covers rs first → 1 ≤ tile → tile < 2 ^ 32 → AreTiles (rs ∷ []) tile cells
    → (side : ℕ) × AreSided rs tile cells side
sided rs tile cells within has_first some small (inl (is, none)) = absurd (none first (in_one rs first has_first))
sided rs tile cells within has_first some small (inr (g, is, all)) = (g.side, are_sided rs tile cells within has_first some small g is all (inr (g, is, all)))

-- the cells over part of what they are over
pub fewer_squares : (a b : Region) (side : ℕ) (cells : List Rect) → ((p : Pt) → b p → a p) → AreCells a side cells → AreCells b side cells
fewer_squares a b side cells into c = record { rising = c.rising; each = c.each; solid = c.solid; close = c.close; full = λ p p_in. c.full p (into p p_in) }

-- a layer with the first square of all
pub cornered : (layer one all : List Rect) (r : Rect) → one ≡ r ∷ [] → r.x0 ≡ corner → r.y0 ≡ corner → r.x1 ≡ corner +ℤ pos 1 → r.y1 ≡ corner +ℤ pos 1
    → AreSlabsOf (λ p. Covers layer p ⊎ Covers one p) all
    → (p : Pt) → Covers all p ↔ (Covers layer p ⊎ ((p.x ≡ corner) × (p.y ≡ corner)))
cornered layer one all r is x0 y0 x1 y1 are p = (
  λ h. elim ((are.covers p).0 h) [
    | inl a ↦ inl a
    | inr b ↦ (let has = alone_only r p (subst (λ s. Covers s p) is b) in
        let a = has.left in
        let b = has.right in
        let c = has.low in
        let d = has.high in
        inr (omega (arith, ints, a, b, x0, x1), omega (arith, ints, c, d, y0, y1)))
  ],
  λ h. (are.covers p).1 (elim h [
    | inl a ↦ inl a
    | inr (x, y) ↦ inr (subst (λ s. Covers s p) (sym is)
        (only_alone r p (record {
          left = omega (arith, ints, x, x0);
          right = omega (arith, ints, x, x1);
          low = omega (arith, ints, y, y0);
          high = omega
              (arith, ints, y, y1);
        })))
  ]),
)

-- the cells over a layer with that square
pub record AreLaid (layer : List Rect) (tile : ℕ) (cells : List Rect) (side : ℕ) : Type 0 where
  pub side_is : IsSide (Covers layer) tile side
  pub wide : AreWide cells side
  pub are : AreCells (Covers layer) side cells

pub layer_cells : (layer : List Rect) (parts : List (List Rect)) (tile : ℕ) (cells : List Rect) → AreParts parts → 1 ≤ tile → tile < 2 ^ 32
    → ((rs : List Rect) × (parts ≡ rs ∷ []) × ((p : Pt) → Covers rs p ↔ with_corner (Covers layer) p)) → AreTiles parts tile cells
    → (side : ℕ) × AreLaid layer tile cells side
layer_cells layer parts tile cells parted some small (rs, is, squares) tiles =
    let one : AreParts (rs ∷ []) = subst AreParts is parted in
    let (side, s) = sided rs tile cells (one.within 0 [] (omega arith)) ((squares first).1 (inr (refl, refl))) some small (subst (λ ps. AreTiles ps tile cells) is tiles) in (
      side,
      record {
        side_is = record {
          slabs = rs;
          slabs_of = record { canonical = one.canonical 0 [] (omega arith); covers = squares };
          doublings = s.doublings;
          doubled = s.doubled;
          coarse = s.coarse;
          least = s.least;
        };
        wide = s.wide;
        are = fewer_squares (Covers rs) (Covers layer) side cells (λ p h. (squares p).1 (inl h)) s.are;
      },
    )

-- cells have one width
pub one_width : (cells : List Rect) (side other : ℕ) → AreWide cells side → AreWide cells other → side ≡ other
one_width cells side other a b =
    let x = a.width 0 zero_rect a.some in
    let y = b.width 0 zero_rect b.some in
    omega (arith, ints, x, y)

pub at_start : (cells : List Rect) (side : ℕ) (c : Rect) → AreWide cells side → c ≡ get_or cells 0 c → c.x1 ≡ c.x0 +ℤ pos side
at_start cells side c wide is = subst (λ (r : Rect). r.x1 ≡ r.x0 +ℤ pos side) (sym is) (wide.width 0 c wide.some)
