-- The cells that rectangles meet.
use Rattle.std.proofs.Common.{◌≡◌, ℕ, ◌+◌, ◌*◌, ◌<◌, ◌≤◌, inl, inr, List, [], ◌∷◌, length, get_or, map, sym, ap, ◌∙◌, subst, arith}
use Rattle.std.specs.Prelude.{◌↔◌, pos, ◌+ℤ◌, ◌≤ℤ◌, unsigned_abs}
use Rattle.std.specs.List.{All, AllPairs, Contains}
use Rattle.std.proofs.lemmas.Int.{ints}
use Rattle.std.proofs.lemmas.Nat.{mul-le}
use Rattle.std.proofs.lemmas.List.{get_or-map, length-map, get_or_default}
use Rattle.dpl_spec_split.specs.declared.Pt.{Pt}
use Rattle.dpl_spec_split.specs.declared.Rect.{Rect}
use Rattle.dpl_spec_split.specs.Squares.{Has, IsSolidWithin}
use Rattle.dpl_spec_split.specs.Slabs.{Before, IsCanonical, IsSolid}
use Rattle.dpl_spec_split.specs.Graphs.{Precedes}
use Rattle.dpl_spec_split.specs.Loops.{farthest, AreRectsWithin, IsRectWithin}
use Rattle.dpl_slabs.specs.Parts.{AreParts, union_of}
use Rattle.dpl_tile.specs.declared.grid.Grid.{Grid}
use Rattle.dpl_tile.specs.Tiles.{IsBounds, IsOccupied, AreCells, cell_at, number_in}
use Rattle.dpl_tile.specs.Kept.{IsSound, IsOver, AreOver, IsMet, IsMetByPart, ArePlaces, IsClose}
use Rattle.dpl_tile.proofs.Numbers.{InCells, number-in, number-is, span-met, met-from_span}

-- a square in a cell, by its row and its column
pub has-columns : (g : Grid) (e : ℕ × ℕ) (p : Pt) → Has (cell_at g e) p → InCells g.side g.x e.1 p.x
has-columns g e p h = record { from = h.left; below = h.right }

pub has-rows : (g : Grid) (e : ℕ × ℕ) (p : Pt) → Has (cell_at g e) p → InCells g.side g.y e.0 p.y
has-rows g e p h = record { from = h.low; below = h.high }

pub in-cell : (g : Grid) (e : ℕ × ℕ) (p : Pt) → InCells g.side g.y e.0 p.y → InCells g.side g.x e.1 p.x → Has (cell_at g e) p
in-cell g e p rows columns = record { left = columns.from; right = columns.below; low = rows.from; high = rows.below }

-- the cell that has a square right of and above the corner
pub own-cell : (g : Grid) (p : Pt) → 1 ≤ g.side → g.x ≤ℤ p.x → g.y ≤ℤ p.y → Has (cell_at g (number_in g.side g.y p.y, number_in g.side g.x p.x)) p
own-cell g p some right up = in-cell g (number_in g.side g.y p.y, number_in g.side g.x p.x) p (number-in g.side g.y p.y some up) (number-in g.side g.x p.x some right)

-- a square is in one cell
pub one-cell : (g : Grid) (e f : ℕ × ℕ) (p : Pt) → 1 ≤ g.side → Has (cell_at g e) p → Has (cell_at g f) p → e ≡ f
one-cell g e f p some a b =
    let rows : e.0 ≡ f.0 = sym (number-is g.side g.y p.y e.0 some (has-rows g e p a)) ∙ number-is g.side g.y p.y f.0 some (has-rows g f p b) in
    let columns : e.1 ≡ f.1 = sym (number-is g.side g.x p.x e.1 some (has-columns g e p a)) ∙ number-is g.side g.x p.x f.1 some (has-columns g f p b) in
    ap (λ m. (m, e.1)) rows ∙ ap (λ m. (f.0, m)) columns

met_square : (g : Grid) (r : Rect) (e : ℕ × ℕ) → 1 ≤ g.side → IsOver g r → IsMet g r e → (p : Pt) × Has r p × Has (cell_at g e) p
met_square g r e some over met =
    let (x, a, b, columns) = span-met g.side g.x r.x0 r.x1 e.1 some over.right over.solid.wide met.from_column met.to_column in
    let (y, c, d, rows) = span-met g.side g.y r.y0 r.y1 e.0 some over.up over.solid.tall met.from_row met.to_row in
    let p : Pt = record { x = x; y = y } in
    (p, record { left = a; right = b; low = c; high = d }, in-cell g e p rows columns)

pub square-met : (g : Grid) (r : Rect) (e : ℕ × ℕ) (p : Pt) → 1 ≤ g.side → IsOver g r → Has r p → Has (cell_at g e) p → IsMet g r e
square-met g r e p some over h c =
    let columns = met-from_span g.side g.x r.x0 r.x1 p.x e.1 some over.right h.left h.right (has-columns g e p c) in
    let rows = met-from_span g.side g.y r.y0 r.y1 p.y e.0 some over.up h.low h.high (has-rows g e p c) in
    record { from_row = rows.0; to_row = rows.1; from_column = columns.0; to_column = columns.1 }

module _ (g : Grid) (parts : List (List Rect)) (some : 1 ≤ g.side) (over : All (AreOver g) parts) where
  part_over : (part : List Rect) (r : Rect) → Contains parts part → Contains part r → IsOver g r
  part_over part r (k, k_in, is) r_in = subst (λ u. AreOver g u) is (over k part k_in) r r_in

  -- a cell is met by a slab of some part where some square of the parts is in it
  pub met-occupied : (e : ℕ × ℕ) → IsMetByPart g parts e ↔ IsOccupied parts (cell_at g e)
  met-occupied e = (
    λ (part, (k, k_in, is), (r, (m, m_in, r_is), met)). (
        let (p, h, c) = met_square g r e some (part_over part r (k, k_in, is) (m, m_in, r_is)) met in
        (p, (k, part, k_in, is, (m, r, m_in, r_is, h)), c)),
    λ (p, (k, part, k_in, is, (m, r, m_in, r_is, h)), c). (part, (k, k_in, is), (r, (m, m_in, r_is), square-met g r e p some (part_over part r (k, k_in, is) (m, m_in, r_is)) h c)),
  )

before_cells : (g : Grid) (e f : ℕ × ℕ) → 1 ≤ g.side → Precedes e f → Before (cell_at g e) (cell_at g f)
before_cells g e f some (inl l) =
    let m : (e.0 + 1) * g.side ≤ f.0 * g.side = mul-le (e.0 + 1) g.side f.0 g.side (omega (arith, l)) (omega arith) in
    let k : (e.0 + 1) * g.side ≡ e.0 * g.side + g.side = grind arith in
    inl (omega (arith, ints, m, k, some))
before_cells g e f some (inr (same, l)) =
    let m : (e.1 + 1) * g.side ≤ f.1 * g.side = mul-le (e.1 + 1) g.side f.1 g.side (omega (arith, l)) (omega arith) in
    let k : (e.1 + 1) * g.side ≡ e.1 * g.side + g.side = grind arith in
    inr (ap (λ n. g.y +ℤ pos (n * g.side)) same, omega (arith, ints, m, k, some))

-- the cells of places
pub cells-member : (g : Grid) (places : List (ℕ × ℕ)) (r : Rect) → Contains (map (cell_at g) places) r ↔ ((e : ℕ × ℕ) × Contains places e × (r ≡ cell_at g e))
cells-member g places r = (
  λ (k, k_in, is). (
      let l : k < length places = subst (λ n. k < n) (length-map places (cell_at g)) k_in in
      let e : ℕ × ℕ = get_or places k (0, 0) in
      (e, (k, l, get_or_default places k e (0, 0) l), sym is ∙ get_or-map (cell_at g) places k (0, 0) r l)),
  λ (e, (k, k_in, is), r_is). (k, subst (λ n. k < n) (sym (length-map places (cell_at g))) k_in, get_or-map (cell_at g) places k e r k_in ∙ (ap (cell_at g) is ∙ sym r_is)),
)

pub cells-ordered : (g : Grid) (places : List (ℕ × ℕ)) → 1 ≤ g.side → AllPairs Precedes places → AllPairs Before (map (cell_at g) places)
cells-ordered g places some ordered i j d l j_in =
    let k : j < length places = subst (λ n. j < n) (length-map places (cell_at g)) j_in in
    let a : get_or (map (cell_at g) places) i d ≡ cell_at g (get_or places i (0, 0)) = get_or-map (cell_at g) places i (0, 0) d (omega (arith, l, k)) in
    let b : get_or (map (cell_at g) places) j d ≡ cell_at g (get_or places j (0, 0)) = get_or-map (cell_at g) places j (0, 0) d k in
    rw (a, b) (before_cells g (get_or places i (0, 0)) (get_or places j (0, 0)) some (ordered i j (0, 0) l k))

pub places-cells : (g : Grid) (parts : List (List Rect)) (places : List (ℕ × ℕ)) → 1 ≤ g.side → All (AreOver g) parts
    → ArePlaces g parts places → AreCells parts g (map (cell_at g) places)
places-cells g parts places some over h =
    record {
      ordered = cells-ordered g places some h.ordered;
      exactly = λ r. (
        λ r_in. (
            let (e, e_in, is) = (cells-member g places r).0 r_in in
            ((e, is), subst (λ u. IsOccupied parts u) (sym is) ((met-occupied g parts some over e).0 ((h.exactly e).0 e_in)))),
        λ ((e, is), q). (cells-member g places r).1 (e, (h.exactly e).1 ((met-occupied g parts some over e).1 (subst (λ u. IsOccupied parts u) is q)), is),
      );
    }

-- where the first cell has all squares it is the only one
pub first-cells : (g : Grid) (parts : List (List Rect)) (q : Pt) → 1 ≤ g.side → union_of parts q
    → ((p : Pt) → union_of parts p → Has (cell_at g (0, 0)) p) → AreCells parts g (map (cell_at g) ((0, 0) ∷ []))
first-cells g parts q some q_in all =
    record {
      ordered = λ i j d l j_in. absurd (omega (arith, l, j_in));
      exactly = λ r. (
        λ r_in. (
            let (e, (k, k_in, e_is), is) = (cells-member g ((0, 0) ∷ []) r).0 r_in in
            let z : k ≡ 0 = omega (arith, k_in) in
            let zero_is : e ≡ (0, 0) = sym (subst (λ i. get_or ((0, 0) ∷ []) i e ≡ e) z e_is) in
            ((e, is), (q, q_in, subst (λ u. Has u q) (ap (cell_at g) (sym zero_is) ∙ sym is) (all q q_in)))),
        λ ((e, is), (p, p_in, h)). (cells-member g ((0, 0) ∷ []) r).1 (e, (0, omega arith, one-cell g (0, 0) e p some (all p p_in) (subst (λ u. Has u p) is h)), is),
      );
    }

solid-part : (parts : List (List Rect)) (part : List Rect) (r : Rect) → AreParts parts → Contains parts part → Contains part r → IsSolidWithin farthest r
solid-part parts part r h (k, k_in, k_is) (m, m_in, is) =
    let canonical : IsCanonical part = subst (λ u. IsCanonical u) k_is (h.canonical k part k_in) in
    let within : AreRectsWithin farthest part = subst (λ u. AreRectsWithin farthest u) k_is (h.within k part k_in) in
    let solid : IsSolid r = subst (λ u. IsSolid u) is (canonical.solid m r m_in) in
    let w : IsRectWithin farthest r = within r (m, m_in, is) in
    record { wide = solid.wide; tall = solid.tall; left = w.left; right = w.right; low = w.low; high = w.high }

pub solid-of_part : (parts : List (List Rect)) → AreParts parts → (part : List Rect) (r : Rect) → Contains parts part → Contains part r → IsSolid r
solid-of_part parts h part r part_in r_in = let s = solid-part parts part r h part_in r_in in record { wide = s.wide; tall = s.tall }

-- slabs stand right of and above the corner of their bounds
pub parts-over : (g : Grid) (parts : List (List Rect)) (b : Rect) → AreParts parts → IsBounds (union_of parts) b → g.x ≡ b.x0 → g.y ≡ b.y0 → All (AreOver g) parts
parts-over g parts b h bounds x_is y_is k d k_in r r_in =
    let part = get_or parts k d in
    let part_in : Contains parts part = (k, k_in, get_or_default parts k part d k_in) in
    let s : IsSolidWithin farthest r = solid-part parts part r h part_in r_in in
    let (m, m_in, is) = r_in in
    let w = s.wide in
    let t = s.tall in
    let corner : Has b (record { x = r.x0; y = r.y0 }) =
    bounds.inside (record { x = r.x0; y = r.y0 })
    (k, part, k_in, get_or_default parts k part d k_in, (m, r, m_in, is, record { left = omega (arith, ints); right = w; low = omega (arith, ints); high = t })) in
    let l = corner.left in
    let lo = corner.low in
    record { solid = s; right = omega (arith, ints, l, x_is); up = omega (arith, ints, lo, y_is) }

-- a square of a layer
record IsSquareWithin (p : Pt) : Type 0 where
  left : unsigned_abs p.x ≤ farthest
  right : unsigned_abs (p.x +ℤ pos 1) ≤ farthest
  low : unsigned_abs p.y ≤ farthest
  high : unsigned_abs (p.y +ℤ pos 1) ≤ farthest

-- a square of the parts lies in the layer's range
square-within : (parts : List (List Rect)) (p : Pt) → AreParts parts → union_of parts p → IsSquareWithin p
square-within parts p h (k, part, k_in, is, (m, r, m_in, r_is, has)) =
    let s = solid-part parts part r h (k, k_in, is) (m, m_in, r_is) in
    let a = has.left in
    let b = has.right in
    let c = has.low in
    let d = has.high in
    let e = s.left in
    let f = s.right in
    let u = s.low in
    let v = s.high in
    record { left = omega (arith, ints, a, b, e, f); right = omega (arith, ints, a, b, e, f); low = omega (arith, ints, c, d, u, v); high = omega (arith, ints, c, d, u, v) }

pub bounds-over : (g : Grid) (parts : List (List Rect)) (b : Rect) → AreParts parts → IsBounds (union_of parts) b → g.x ≡ b.x0 → g.y ≡ b.y0 → IsOver g b
bounds-over g parts b h bounds x_is y_is =
    let (p, p_in, left) = bounds.left in
    let (q, q_in, right) = bounds.right in
    let (s, s_in, low) = bounds.low in
    let (t, t_in, high) = bounds.high in
    let has = bounds.inside p p_in in
    let l = has.left in
    let r = has.right in
    let lo = has.low in
    let hi = has.high in
    let pw = (square-within parts p h p_in).left in
    let qw = (square-within parts q h q_in).right in
    let sw = (square-within parts s h s_in).low in
    let tw = (square-within parts t h t_in).high in
    let solid : IsSolidWithin farthest b =
    record {
      wide = omega (arith, ints, l, r);
      tall = omega (arith, ints, lo, hi);
      left = subst (λ i. unsigned_abs i ≤ farthest) left pw;
      right = subst (λ i. unsigned_abs i ≤ farthest) right qw;
      low = subst (λ i. unsigned_abs i ≤ farthest) low sw;
      high = subst (λ i. unsigned_abs i ≤ farthest) high tw;
    } in
    record { solid = solid; right = omega (arith, ints, x_is); up = omega (arith, ints, y_is) }

pub close-from_occupied : (g : Grid) (parts : List (List Rect)) (e : ℕ × ℕ) → AreParts parts → IsSound g → IsOccupied parts (cell_at g e) → IsClose g e
close-from_occupied g parts e h sound (p, p_in, c) =
    let w = square-within parts p h p_in in
    let across = w.left in
    let up = w.low in
    let a = sound.left in
    let b = sound.low in
    let l = c.left in
    let lo = c.low in
    record { up = omega (arith, ints, up, b, lo); across = omega (arith, ints, across, a, l) }
