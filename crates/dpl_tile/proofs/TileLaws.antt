-- Tiles of parts.
use Rattle.std.proofs.Common.{◌≡◌, ℕ, suc, ◌+◌, ◌*◌, ◌^◌, ◌<◌, ◌≤◌, inl, inr, List, [], ◌∷◌, get_or, map, sym, refl, ap, ◌∙◌, subst, arith}
use Rattle.std.specs.List.{All, Contains}
use Rattle.std.proofs.lemmas.Int.{ints}
use Rattle.std.proofs.lemmas.Nat.{mul-le, pow_pos}
use Rattle.std.proofs.lemmas.Bool.{cases_eq}
use Rattle.std.proofs.lemmas.List.{get_or_default}
use Rattle.std.proofs.Math.Nat.{pow-suc}
use Rattle.dpl_spec_split.specs.declared.Pt.{Pt}
use Rattle.dpl_spec_split.specs.declared.Rect.{Rect}
use Rattle.dpl_spec_split.specs.Squares.{Has}
use Rattle.dpl_slabs.specs.Parts.{AreParts, union_of}
use Rattle.dpl_tile.specs.declared.grid.Grid.{Grid}
use Rattle.dpl_tile.specs.Tiles.{IsBounds, IsCoarse, IsDoubled, LiesIn, IsGrid, AreCells, cell_at, number_in, pairs_of, most_pairs}
use Rattle.dpl_tile.specs.Kept.{IsSound, AreOver, ArePlaces, AreLaid}
use Rattle.dpl_tile.specs.Laws.{SquaresHaveOneCell}
use Rattle.dpl_tile.proofs.CellLaws.{own-cell, one-cell, met-occupied, places-cells, first-cells, parts-over, solid-of_part, close-from_occupied}

-- the first cell has all squares where it has their bounds
pub bounds-in_first : (g : Grid) (parts : List (List Rect)) (b : Rect) → IsBounds (union_of parts) b → LiesIn b (cell_at g (0, 0))
    → (p : Pt) → union_of parts p → Has (cell_at g (0, 0)) p
bounds-in_first g parts b bounds inside p p_in =
    let h = bounds.inside p p_in in
    let a = h.left in
    let c = h.right in
    let d = h.low in
    let e = h.high in
    let u = inside.left in
    let v = inside.right in
    let w = inside.low in
    let x = inside.high in
    record { left = omega (arith, ints, a, u); right = omega (arith, ints, c, v); low = omega (arith, ints, d, w); high = omega (arith, ints, e, x) }

pub first-has_bounds : (g : Grid) (parts : List (List Rect)) (b : Rect) → IsBounds (union_of parts) b
    → ((p : Pt) → union_of parts p → Has (cell_at g (0, 0)) p) → LiesIn b (cell_at g (0, 0))
first-has_bounds g parts b bounds all =
    let (p, p_in, left) = bounds.left in
    let (q, q_in, right) = bounds.right in
    let (s, s_in, low) = bounds.low in
    let (t, t_in, high) = bounds.high in
    let a = (all p p_in).left in
    let c = (all q q_in).right in
    let d = (all s s_in).low in
    let e = (all t t_in).high in
    record { left = omega (arith, ints, a, left); right = omega (arith, ints, c, right); low = omega (arith, ints, d, low); high = omega (arith, ints, e, high) }

-- k doublings of the side aren't enough
abbrev pub AreTooFine : List (List Rect) → Grid → ℕ → ℕ → Type 0
AreTooFine parts g tile n = (k : ℕ) → k < n → IsCoarse parts (record { x = g.x; y = g.y; side = tile * 2 ^ k }) → ⊥

product : (t m : ℕ) → t * m * 2 ≡ t * (m * 2)
product t m = grind arith

-- a side that was doubled some times, each time because it wasn't enough
abbrev pub IsDoubledAtNeed : List (List Rect) → ℕ → Grid → Type 0
IsDoubledAtNeed parts tile g = (n : ℕ) × (g.side ≡ tile * 2 ^ n) × AreTooFine parts g tile n

twice : (t n : ℕ) → t * 2 ^ n * 2 ≡ t * 2 ^ (n + 1)
twice t n =
    let s : n + 1 ≡ suc n = omega arith in
    let e : 2 ^ (n + 1) ≡ 2 ^ n * 2 = ap (λ m. 2 ^ m) s ∙ pow-suc 2 n in
    rw e (product t (2 ^ n))

pub doubled-some : (tile side : ℕ) → 0 < tile → IsDoubled tile side → 1 ≤ side
doubled-some tile side some (n, is) = let p = pow_pos n in let m : 1 * 1 ≤ tile * 2 ^ n = mul-le 1 1 tile (2 ^ n) (omega (arith, some)) (omega (arith, p)) in omega (arith, m, is)

pub doubled-twice : (tile side more : ℕ) → more ≡ side * 2 → IsDoubled tile side → IsDoubled tile more
doubled-twice tile side more is (n, before) = (n + 1, is ∙ (ap (λ s. s * 2) before ∙ twice tile n))

pub doubled-more : (parts : List (List Rect)) (tile : ℕ) (g h : Grid) → h.x ≡ g.x → h.y ≡ g.y → h.side ≡ g.side * 2
    → (IsCoarse parts g → ⊥) → IsDoubledAtNeed parts tile g → IsDoubledAtNeed parts tile h
doubled-more parts tile g h x_is y_is side_is fine (n, is, before) = (
  n + 1,
  side_is ∙ (ap (λ s. s * 2) is ∙ twice tile n),
  λ k l. rw (x_is, y_is) (elim (cases_eq k n) [
    | inl same ↦ λ c. fine (subst (λ s. IsCoarse parts (record { x = g.x; y = g.y; side = s })) (sym is)
        (subst (λ m. IsCoarse parts (record { x = g.x; y = g.y; side = tile * 2 ^ m })) same c))
    | inr ne ↦ before k (omega (arith, l, ne))
  ]),
)

-- tiles of few pairs
pub laid-by_places : (parts : List (List Rect)) (tile : ℕ) (g : Grid) (b : Rect) (places : List (ℕ × ℕ)) → AreParts parts
    → IsBounds (union_of parts) b → g.x ≡ b.x0 → g.y ≡ b.y0 → IsSound g → IsGrid parts tile g
    → (LiesIn b (cell_at g (0, 0)) → ⊥) → ArePlaces g parts places → AreLaid parts tile g places
laid-by_places parts tile g b places h bounds x_is y_is sound grid many placed =
    let over : All (AreOver g) parts = parts-over g parts b h bounds x_is y_is in
    let few : pairs_of g parts ≤ most_pairs = elim grid.coarse [ inl l ↦ l | inr all ↦ absurd (many (first-has_bounds g parts b bounds all)) ] in
    let n = placed.few in
    record {
      sound = sound;
      few = omega (arith, few, n);
      close = λ k d k_in. close-from_occupied g parts (get_or places k d) h sound
          ((met-occupied g parts sound.some over (get_or places k d)).0
          ((placed.exactly (get_or places k d)).0 (k, k_in, get_or_default places k (get_or places k d) d k_in)));
      over = over;
      tiles = inr (g, grid, places-cells g parts places sound.some over placed);
    }

-- one tile
pub laid-by_first : (parts : List (List Rect)) (tile : ℕ) (g : Grid) (b : Rect) (places : List (ℕ × ℕ)) → AreParts parts → IsBounds (union_of parts) b
    → g.x ≡ b.x0 → g.y ≡ b.y0 → IsSound g → IsGrid parts tile g → LiesIn b (cell_at g (0, 0)) → places ≡ (0, 0) ∷ [] → AreLaid parts tile g places
laid-by_first parts tile g b places h bounds x_is y_is sound grid all is =
    let (p, p_in, left) = bounds.left in
    let c : AreCells parts g (map (cell_at g) ((0, 0) ∷ [])) = first-cells g parts p sound.some p_in (bounds-in_first g parts b bounds all) in
    rw is (record {
      sound = sound;
      few = omega arith;
      close = λ k d k_in. rw (let z : k ≡ 0 = omega (arith, k_in) in
          z) (record { up = omega arith; across = omega arith });
      over = parts-over g parts b h bounds x_is y_is;
      tiles = inr (g, grid, c);
    })

pub laid-by_none : (parts : List (List Rect)) (tile : ℕ) (g : Grid) (places : List (ℕ × ℕ)) → AreParts parts → IsSound g → ((p : Pt) → union_of parts p → ⊥)
    → places ≡ [] → AreLaid parts tile g places
laid-by_none parts tile g places h sound none is = rw is (record {
  sound = sound;
  few = omega arith;
  close = λ k d k_in. omega (arith, k_in);
  over = λ k d k_in r (m, m_in, r_is). (
      let part = get_or parts k d in
      let part_in : Contains parts part = (k, k_in, get_or_default parts k part d k_in) in
      let solid = solid-of_part parts h part r part_in (m, m_in, r_is) in
      let w = solid.wide in
      let t = solid.tall in
      absurd (none (record { x = r.x0; y = r.y0 }) (
        k,
        part,
        k_in,
        get_or_default parts k part d k_in,
        (m, r, m_in, r_is, record { left = omega (arith, ints); right = w; low = omega (arith, ints); high = t }),
      )));
  tiles = inl (refl, none);
})

pub squares-one_cell : SquaresHaveOneCell
squares-one_cell parts tile cells some (inl (is, none)) p p_in = absurd (none p p_in)
squares-one_cell parts tile cells some (inr (g, grid, h)) p p_in =
    let one : 1 ≤ g.side = doubled-some tile g.side some (grid.doublings, grid.side) in
    let c = grid.bounded.inside p p_in in
    let l = c.left in
    let lo = c.low in
    let x_is = grid.left in
    let y_is = grid.low in
    let e : ℕ × ℕ = (number_in g.side g.y p.y, number_in g.side g.x p.x) in
    let own : Has (cell_at g e) p = own-cell g p one (omega (arith, ints, l, x_is)) (omega (arith, ints, lo, y_is)) in (
      cell_at g e,
      record {
        listed = (h.exactly (cell_at g e)).1 ((e, refl), (p, p_in, own));
        inside = own;
        only = λ other other_in has. (let ((f, is), q) = (h.exactly other).0 other_in in is ∙ ap (cell_at g) (one-cell g f e p one (subst (λ r. Has r p) is has) own));
      },
    )
