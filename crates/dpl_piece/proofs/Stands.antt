-- On each side of a zone a piece has a slab with a corner of the zone.
use Rattle.std.proofs.Common.{◌≡◌, ℕ, ◌≤◌, ◌<◌, inl, inr, List, [], length, get_or, refl, ap, ◌∙◌, subst, arith}
use Rattle.std.specs.Prelude.{ℤ, pos, ◌+ℤ◌, ◌-ℤ◌, ◌<ℤ◌, unsigned_abs}
use Rattle.std.specs.List.{All, Contains}
use Rattle.std.proofs.lemmas.Int.{ints}
use Rattle.std.proofs.lemmas.List.Elements.{All-contains}
use Rattle.dpl_spec_split.specs.declared.Spacing.{Spacing}
use Rattle.dpl_spec_split.specs.declared.Pt.{Pt}
use Rattle.dpl_spec_split.specs.declared.Rect.{Rect}
use Rattle.dpl_spec_split.specs.declared.Zone.{Zone}
use Rattle.dpl_spec_split.specs.Squares.{Region, Covers, Has, Touch, AreTouching, IsSolidWithin}
use Rattle.dpl_spec_split.specs.Slabs.{IsSolid, IsCanonical}
use Rattle.dpl_spec_split.specs.Loops.{farthest, IsRectWithin, AreRectsWithin}
use Rattle.dpl_spec_split.specs.Components.{AreComponents}
use Rattle.dpl_spec_split.specs.Zones.{at, IsHorizontalZone, IsVerticalZone, IsKeptZone, transposed, transposed_rect, AreSomeZones, part_at}
use Rattle.dpl_spec_split.specs.Pieces.{without, IsFirstSide, IsSecondSide, AreSides}
use Rattle.dpl_spec_split.proofs.SlabLaws.{Covers-member, member-Covers}
use Rattle.dpl_sides.specs.declared.corner.Corner.{Corner}
use Rattle.dpl_sides.specs.declared.corner.Kind.TheVariants.{LowerLeft, LowerRight, UpperLeft}
use Rattle.dpl_sides.specs.Corners.{corner_at, IsCornerOf, StandBeside}
use Rattle.dpl_piece.proofs.Steps.{back-again, before-it, begins-at, down-one, ends-at, near-above, near-below, near-left, near-right}
use Rattle.dpl_piece.proofs.Steps.{one-less, past-one, same-before, same-from, self, touch-lower_left, touch-lower_right, touch-upper_left, two-more, up-to}
use Rattle.dpl_piece.proofs.Beside.{in-set, some-part, closed, kept, kept-inside, rest-across, rest-up}

-- a zone has some square, and its stretch goes on beyond it by a column on each side
pub record IsBroad (stretch zone : Rect) : Type 0 where
  pub wide : zone.x0 <ℤ zone.x1
  pub tall : zone.y0 <ℤ zone.y1
  pub left : stretch.x0 <ℤ zone.x0
  pub right : zone.x1 <ℤ stretch.x1

pub broad : (spacing : Spacing) (overlap : ℕ) (layer f : Region) (z : Rect) → 1 ≤ overlap → (h : IsHorizontalZone spacing overlap layer f z) → IsBroad h.stretch z
broad spacing overlap layer f z some h =
    let r : Rect = h.stretch in
    let long = h.is.long in
    let width = h.middle.width in
    let rows = h.middle.rows in
    let run = h.is.runs r.x0 (omega (arith, ints)) (omega (arith, ints, long)) in
    let tall = run.some in
    elim h.middle.middle [
      | inl e ↦ record {
        wide = omega (arith, ints, width, some);
        tall = omega (arith, ints, tall, rows.0, rows.1);
        left = omega
            (arith, ints, e, long, width);
        right = omega (arith, ints, e, long, width);
      }
      | inr e ↦ record {
        wide = omega (arith, ints, width, some);
        tall = omega (arith, ints, tall, rows.0, rows.1);
        left = omega
            (arith, ints, e, long, width);
        right = omega (arith, ints, e, long, width);
      }
    ]

pub record IsSquareWithin (bound : ℕ) (p : Pt) : Type 0 where
  pub column : unsigned_abs p.x ≤ bound
  pub row : unsigned_abs p.y ≤ bound
  pub next_column : unsigned_abs (p.x +ℤ pos 1) ≤ bound
  pub next_row : unsigned_abs (p.y +ℤ pos 1) ≤ bound

pub square-within : (rs : List Rect) (p : Pt) → AreRectsWithin farthest rs → Covers rs p → IsSquareWithin farthest p
square-within rs p within covered =
    let found = member-Covers rs p covered in
    let w : IsRectWithin farthest found.0 = within found.0 found.1 in
    let has : Has found.0 p = found.2 in
    let a = w.left in
    let b = w.right in
    let d = w.low in
    let e = w.high in
    let f = has.left in
    let g = has.right in
    let h = has.low in
    let i = has.high in
    record {
      column = omega (arith, ints, a, b, f, g);
      row = omega (arith, ints, d, e, h, i);
      next_column = omega
          (arith, ints, a, b, f, g);
      next_row = omega (arith, ints, d, e, h, i);
    }

pub corner-same : (x y u v : ℤ) (k : ℕ) → x ≡ u → y ≡ v → corner_at x y k ≡ corner_at u v k
corner-same x y u v k e f = ap (λ i. corner_at i y k) e ∙ ap (λ i. corner_at u i k) f

-- a zone has some square, and lies within the range of its feature
module _ (spacing : Spacing) (overlap : ℕ) (layer : Region) (features : List (List Rect)) (zones : List Zone) (some : 1 ≤ overlap)
    (c : AreComponents layer features) (zs : AreSomeZones spacing overlap layer features zones) (z : Zone) (z_in : Contains zones z) where
  solid-kept : IsKeptZone spacing overlap layer (part_at features z.feature) z.rect → (z.rect.x0 <ℤ z.rect.x1) × (z.rect.y0 <ℤ z.rect.y1)
  solid-kept (inl h) = let s = broad spacing overlap layer (part_at features z.feature) z.rect some h in (s.wide, s.tall)
  solid-kept (inr (h, none)) = let s = broad spacing overlap (transposed layer) (transposed (part_at features z.feature)) (transposed_rect z.rect) some h in (s.tall, s.wide)

  pub solid-zone : (z.rect.x0 <ℤ z.rect.x1) × (z.rect.y0 <ℤ z.rect.y1)
  solid-zone = solid-kept (kept spacing overlap layer features zones c zs z z_in).1

  pub zone-within : All (AreRectsWithin farthest) features → IsSolidWithin farthest z.rect
  zone-within within =
      let k = kept spacing overlap layer features zones c zs z z_in in
      let zw = solid-zone.0 in
      let zt = solid-zone.1 in
      let p : Pt = at z.rect.x0 z.rect.y0 in
      let q : Pt = at (z.rect.x1 -ℤ pos 1) (z.rect.y1 -ℤ pos 1) in
      let p_in : Has z.rect p = record { left = self z.rect.x0; right = zw; low = self z.rect.y0; high = zt } in
      let q_in : Has z.rect q = record {
        left = up-to z.rect.x0 z.rect.x1 zw;
        right = before-it z.rect.x1;
        low = up-to z.rect.y0 z.rect.y1 zt;
        high = before-it z.rect.y1;
      } in
      let one = square-within (get_or features z.feature []) p (within z.feature [] k.0)
      (kept-inside spacing overlap layer features zones c zs (part_at features z.feature) z.rect p k.1 p_in) in
      let two = square-within (get_or features z.feature []) q (within z.feature [] k.0)
      (kept-inside spacing overlap layer features zones c zs (part_at features z.feature) z.rect q k.1 q_in) in
      let ox = one.column in
      let oy = one.row in
      let tx = two.next_column in
      let ty = two.next_row in
      record { wide = zw; tall = zt; left = ox; right = omega (arith, ints, tx); low = oy; high = omega (arith, ints, ty) }

-- parts with squares of what the zones leave of a layer alone, among them all of a feature
pub record AreLeftOf (layer : Region) (zones : List Zone) (feature : Region) (parts : List (List Rect)) : Type 0 where
  pub canonical : All IsCanonical parts
  pub inside : (i : ℕ) (p : Pt) → i < length parts → part_at parts i p → without layer zones p
  pub all : (p : Pt) → without layer zones p → feature p → (i : ℕ) × (i < length parts) × part_at parts i p

-- all pieces
pub left-of : (layer : Region) (zones : List Zone) (feature : Region) (pieces : List (List Rect)) → AreComponents (without layer zones) pieces → AreLeftOf layer zones feature pieces
left-of layer zones feature pieces ps = record {
  canonical = ps.canonical;
  inside = λ i p i_in has. in-set (without layer zones) pieces i p ps i_in has;
  all = λ p rest in_f. some-part (without layer zones) pieces p ps rest;
}

module _ (spacing : Spacing) (overlap : ℕ) (layer : Region) (features pieces : List (List Rect)) (zones : List Zone) (some : 1 ≤ overlap)
    (c : AreComponents layer features) (zs : AreSomeZones spacing overlap layer features zones) where
  module _ (z : Zone) (z_in : Contains zones z) (ls : AreLeftOf layer zones (part_at features z.feature) pieces) where
    slab-rest : (i : ℕ) (r : Rect) (p : Pt) → i < length pieces → Contains (get_or pieces i []) r → Has r p → without layer zones p
    slab-rest i r p i_in r_in has = ls.inside i p i_in (Covers-member (get_or pieces i []) r p r_in has)

    slab-solid : (i : ℕ) (r : Rect) → i < length pieces → Contains (get_or pieces i []) r → IsSolid r
    slab-solid i r i_in r_in = let k : IsCanonical (get_or pieces i []) = ls.canonical i [] i_in in All-contains IsSolid (get_or pieces i []) r k.solid r_in

    not-in-zone : (p : Pt) → without layer zones p → Has z.rect p → ⊥
    not-in-zone p rest has = let (n, n_in, n_is) = z_in in rest.1 (n, z, n_in, n_is, has)

    -- a square of the rest that touches the zone is in the zone's feature
    touching-in : (p q : Pt) → without layer zones p → Has z.rect q → Touch p q → part_at features z.feature p
    touching-in p q rest has touch =
        let k = kept spacing overlap layer features zones c zs z z_in in
        closed layer features z.feature p q c k.0 rest.0 (kept-inside spacing overlap layer features zones c zs (part_at features z.feature) z.rect q k.1 has) touch

    -- a slab of a piece that has such a square
    beside-slab : (p q : Pt) → without layer zones p → Has z.rect q → Touch p q
        → (i : ℕ) × (r : Rect) × (i < length pieces) × Contains (get_or pieces i []) r × Has r p
    beside-slab p q rest has touch =
        let (i, i_in, covered) = ls.all p rest (touching-in p q rest has touch) in
        let found = member-Covers (get_or pieces i []) p covered in
        (i, found.0, i_in, found.1, found.2)

    module _ (h : IsHorizontalZone spacing overlap layer (part_at features z.feature) z.rect) where
      abbrev b : IsBroad h.stretch z.rect
      b = broad spacing overlap layer (part_at features z.feature) z.rect some h

      first-across : (k : ℕ) × IsCornerOf LowerRight pieces (corner_at z.rect.x0 z.rect.y0 k)
      first-across =
          let wide = b.wide in
          let tall = b.tall in
          let rows = h.middle.rows in
          let x : ℤ = z.rect.x0 -ℤ pos 1 in
          let p : Pt = at x z.rect.y0 in
          let q : Pt = at z.rect.x0 z.rect.y0 in
          let q_in : Has z.rect q = record { left = self z.rect.x0; right = wide; low = self z.rect.y0; high = tall } in
          let (i, r, i_in, r_in, has) = beside-slab p q (rest-across spacing overlap layer features zones c zs z z_in h x z.rect.y0
          (inl (back-again z.rect.x0)) wide (self z.rect.y0) tall) q_in (near-left z.rect.x0 z.rect.y0 z.rect.x0 z.rect.y0 refl refl) in
          let column : r.x1 ≡ z.rect.x0 = ends-at z.rect.x0 r.x1 has.right
          (λ l. not-in-zone q (slab-rest i r q i_in r_in (record { left = past-one r.x0 z.rect.x0 has.left; right = l; low = has.low; high = has.high })) q_in) in
          let row : r.y0 ≡ z.rect.y0 = begins-at r.y0 z.rect.y0 has.low
          (λ l.
          let s : Pt = at x (z.rect.y0 -ℤ pos 1) in
          let rest = slab-rest i r s i_in r_in
          (record { left = has.left; right = has.right; low = up-to r.y0 z.rect.y0 l; high = down-one z.rect.y0 r.y1 has.high }) in
          let in_f = touching-in s q rest q_in (touch-lower_left z.rect.x0 z.rect.y0) in
          let run = h.is.runs x (up-to h.stretch.x0 z.rect.x0 b.left) (one-less z.rect.x0 z.rect.x1 h.stretch.x1 wide b.right) in
          run.below (subst (λ y. part_at features z.feature (at x y)) (ap (λ y. y -ℤ pos 1) rows.0) in_f)) in
          (i, (i, r, i_in, r_in, corner-same r.x1 r.y0 z.rect.x0 z.rect.y0 i column row))

      second-across : (k : ℕ) × IsCornerOf LowerLeft pieces (corner_at z.rect.x1 z.rect.y0 k)
      second-across =
          let wide = b.wide in
          let tall = b.tall in
          let rows = h.middle.rows in
          let x : ℤ = z.rect.x1 in
          let p : Pt = at x z.rect.y0 in
          let q : Pt = at (z.rect.x1 -ℤ pos 1) z.rect.y0 in
          let q_in : Has z.rect q = record { left = up-to z.rect.x0 z.rect.x1 wide; right = before-it z.rect.x1; low = self z.rect.y0; high = tall } in
          let (i, r, i_in, r_in, has) = beside-slab p q (rest-across spacing overlap layer features zones c zs z z_in h x z.rect.y0
          (inr refl) wide (self z.rect.y0) tall) q_in (near-right z.rect.x1 z.rect.y0 z.rect.x1 z.rect.y0 refl refl) in
          let column : r.x0 ≡ z.rect.x1 = begins-at r.x0 z.rect.x1 has.left
          (λ l. not-in-zone q (slab-rest i r q i_in r_in
          (record { left = up-to r.x0 z.rect.x1 l; right = down-one z.rect.x1 r.x1 has.right; low = has.low; high = has.high })) q_in) in
          let row : r.y0 ≡ z.rect.y0 = begins-at r.y0 z.rect.y0 has.low
          (λ l.
          let s : Pt = at x (z.rect.y0 -ℤ pos 1) in
          let rest = slab-rest i r s i_in r_in
          (record { left = has.left; right = has.right; low = up-to r.y0 z.rect.y0 l; high = down-one z.rect.y0 r.y1 has.high }) in
          let in_f = touching-in s q rest q_in (touch-lower_right z.rect.x1 z.rect.y0) in
          let run = h.is.runs x (two-more h.stretch.x0 z.rect.x0 z.rect.x1 b.left wide) b.right in
          run.below (subst (λ y. part_at features z.feature (at x y)) (ap (λ y. y -ℤ pos 1) rows.0) in_f)) in
          (i, (i, r, i_in, r_in, corner-same r.x0 r.y0 z.rect.x1 z.rect.y0 i column row))

    module _ (h : IsVerticalZone spacing overlap layer (part_at features z.feature) z.rect) (none : (r : Rect)
        → IsHorizontalZone spacing overlap layer (part_at features z.feature) r → ¬ AreTouching (Has r) (Has z.rect)) where
      abbrev v : IsBroad h.stretch (transposed_rect z.rect)
      v = broad spacing overlap (transposed layer) (transposed (part_at features z.feature)) (transposed_rect z.rect) some h

      first-up : (k : ℕ) × IsCornerOf UpperLeft pieces (corner_at z.rect.x0 z.rect.y0 k)
      first-up =
          let tall : z.rect.y0 <ℤ z.rect.y1 = v.wide in
          let wide : z.rect.x0 <ℤ z.rect.x1 = v.tall in
          let rows = h.middle.rows in
          let y : ℤ = z.rect.y0 -ℤ pos 1 in
          let p : Pt = at z.rect.x0 y in
          let q : Pt = at z.rect.x0 z.rect.y0 in
          let q_in : Has z.rect q = record { left = self z.rect.x0; right = wide; low = self z.rect.y0; high = tall } in
          let (i, r, i_in, r_in, has) = beside-slab p q (rest-up spacing overlap layer features zones c zs z z_in h none z.rect.x0 y
          (inl (back-again z.rect.y0)) tall (self z.rect.x0) wide) q_in (near-below z.rect.x0 z.rect.y0 z.rect.x0 z.rect.y0 refl refl) in
          let row : r.y1 ≡ z.rect.y0 = ends-at z.rect.y0 r.y1 has.high
          (λ l. not-in-zone q (slab-rest i r q i_in r_in (record { left = has.left; right = has.right; low = past-one r.y0 z.rect.y0 has.low; high = l })) q_in) in
          let column : r.x0 ≡ z.rect.x0 = begins-at r.x0 z.rect.x0 has.left
          (λ l.
          let s : Pt = at (z.rect.x0 -ℤ pos 1) y in
          let rest = slab-rest i r s i_in r_in
          (record { left = up-to r.x0 z.rect.x0 l; right = down-one z.rect.x0 r.x1 has.right; low = has.low; high = has.high }) in
          let in_f = touching-in s q rest q_in (touch-lower_left z.rect.x0 z.rect.y0) in
          let run = h.is.runs y (up-to h.stretch.x0 z.rect.y0 v.left) (one-less z.rect.y0 z.rect.y1 h.stretch.x1 tall v.right) in
          run.below (subst (λ x. part_at features z.feature (at x y)) (ap (λ x. x -ℤ pos 1) rows.0) in_f)) in
          (i, (i, r, i_in, r_in, corner-same r.x0 r.y1 z.rect.x0 z.rect.y0 i column row))

      second-up : (k : ℕ) × IsCornerOf LowerLeft pieces (corner_at z.rect.x0 z.rect.y1 k)
      second-up =
          let tall : z.rect.y0 <ℤ z.rect.y1 = v.wide in
          let wide : z.rect.x0 <ℤ z.rect.x1 = v.tall in
          let rows = h.middle.rows in
          let y : ℤ = z.rect.y1 in
          let p : Pt = at z.rect.x0 y in
          let q : Pt = at z.rect.x0 (z.rect.y1 -ℤ pos 1) in
          let q_in : Has z.rect q = record { left = self z.rect.x0; right = wide; low = up-to z.rect.y0 z.rect.y1 tall; high = before-it z.rect.y1 } in
          let (i, r, i_in, r_in, has) = beside-slab p q (rest-up spacing overlap layer features zones c zs z z_in h none z.rect.x0 y
          (inr refl) tall (self z.rect.x0) wide) q_in (near-above z.rect.x0 z.rect.y1 z.rect.x0 z.rect.y1 refl refl) in
          let row : r.y0 ≡ z.rect.y1 = begins-at r.y0 z.rect.y1 has.low
          (λ l. not-in-zone q (slab-rest i r q i_in r_in
          (record { left = has.left; right = has.right; low = up-to r.y0 z.rect.y1 l; high = down-one z.rect.y1 r.y1 has.high })) q_in) in
          let column : r.x0 ≡ z.rect.x0 = begins-at r.x0 z.rect.x0 has.left
          (λ l.
          let s : Pt = at (z.rect.x0 -ℤ pos 1) y in
          let rest = slab-rest i r s i_in r_in
          (record { left = up-to r.x0 z.rect.x0 l; right = down-one z.rect.x0 r.x1 has.right; low = has.low; high = has.high }) in
          let in_f = touching-in s q rest q_in (touch-upper_left z.rect.x0 z.rect.y1) in
          let run = h.is.runs y (two-more h.stretch.x0 z.rect.y0 z.rect.y1 v.left tall) v.right in
          run.below (subst (λ x. part_at features z.feature (at x y)) (ap (λ x. x -ℤ pos 1) rows.0) in_f)) in
          (i, (i, r, i_in, r_in, corner-same r.x0 r.y0 z.rect.x0 z.rect.y1 i column row))

    stand-kept : IsKeptZone spacing overlap layer (part_at features z.feature) z.rect → (side : ℕ × ℕ) × StandBeside pieces z side
    stand-kept (inl h) = let one = first-across h in let two = second-across h in ((one.0, two.0), (inl one.1, inl two.1))
    stand-kept (inr (h, none)) = let one = first-up h none in let two = second-up h none in ((one.0, two.0), (inr one.1, inr two.1))

    pub stand : (side : ℕ × ℕ) × StandBeside pieces z side
    stand = stand-kept (kept spacing overlap layer features zones c zs z z_in).1

    solid : (z.rect.x0 <ℤ z.rect.x1) × (z.rect.y0 <ℤ z.rect.y1)
    solid = solid-zone spacing overlap layer features zones some c zs z z_in

    -- a piece whose slab has the corner
    from-left : (k : ℕ) → IsCornerOf LowerRight pieces (corner_at z.rect.x0 z.rect.y0 k) → (k < length pieces) × IsFirstSide (part_at pieces k) z.rect
    from-left k (i, r, i_in, r_in, is) =
        let same : i ≡ k = ap (λ t. let u : Corner = t in u.number) is in
        let x : r.x1 ≡ z.rect.x0 = ap (λ t. let u : Corner = t in u.x) is in
        let y : r.y0 ≡ z.rect.y0 = ap (λ t. let u : Corner = t in u.y) is in
        let s = slab-solid i r i_in r_in in
        let p : Pt = at (r.x1 -ℤ pos 1) r.y0 in
        let q : Pt = at z.rect.x0 z.rect.y0 in
        let p_in : part_at pieces i p = Covers-member (get_or pieces i []) r p r_in
        (record { left = up-to r.x0 r.x1 s.wide; right = before-it r.x1; low = self r.y0; high = s.tall }) in
        let q_in : Has z.rect q = record { left = self z.rect.x0; right = solid.0; low = self z.rect.y0; high = solid.1 } in
        subst (λ n. (n < length pieces) × IsFirstSide (part_at pieces n) z.rect) same (
          i_in,
          (
            p,
            q,
            p_in,
            q_in,
            near-left r.x1 r.y0 z.rect.x0 z.rect.y0 x y,
            inl (same-before r.x1 z.rect.x0 x),
          ),
        )

    from-below : (k : ℕ) → IsCornerOf UpperLeft pieces (corner_at z.rect.x0 z.rect.y0 k) → (k < length pieces) × IsFirstSide (part_at pieces k) z.rect
    from-below k (i, r, i_in, r_in, is) =
        let same : i ≡ k = ap (λ t. let u : Corner = t in u.number) is in
        let x : r.x0 ≡ z.rect.x0 = ap (λ t. let u : Corner = t in u.x) is in
        let y : r.y1 ≡ z.rect.y0 = ap (λ t. let u : Corner = t in u.y) is in
        let s = slab-solid i r i_in r_in in
        let p : Pt = at r.x0 (r.y1 -ℤ pos 1) in
        let q : Pt = at z.rect.x0 z.rect.y0 in
        let p_in : part_at pieces i p = Covers-member (get_or pieces i []) r p r_in
        (record { left = self r.x0; right = s.wide; low = up-to r.y0 r.y1 s.tall; high = before-it r.y1 }) in
        let q_in : Has z.rect q = record { left = self z.rect.x0; right = solid.0; low = self z.rect.y0; high = solid.1 } in
        subst (λ n. (n < length pieces) × IsFirstSide (part_at pieces n) z.rect) same (
          i_in,
          (
            p,
            q,
            p_in,
            q_in,
            near-below r.x0 r.y1 z.rect.x0 z.rect.y0 x y,
            inr (same-before r.y1 z.rect.y0 y),
          ),
        )

    from-right : (k : ℕ) → IsCornerOf LowerLeft pieces (corner_at z.rect.x1 z.rect.y0 k) → (k < length pieces) × IsSecondSide (part_at pieces k) z.rect
    from-right k (i, r, i_in, r_in, is) =
        let same : i ≡ k = ap (λ t. let u : Corner = t in u.number) is in
        let x : r.x0 ≡ z.rect.x1 = ap (λ t. let u : Corner = t in u.x) is in
        let y : r.y0 ≡ z.rect.y0 = ap (λ t. let u : Corner = t in u.y) is in
        let s = slab-solid i r i_in r_in in
        let p : Pt = at r.x0 r.y0 in
        let q : Pt = at (z.rect.x1 -ℤ pos 1) z.rect.y0 in
        let p_in : part_at pieces i p = Covers-member (get_or pieces i []) r p r_in (record { left = self r.x0; right = s.wide; low = self r.y0; high = s.tall }) in
        let q_in : Has z.rect q = record { left = up-to z.rect.x0 z.rect.x1 solid.0; right = before-it z.rect.x1; low = self z.rect.y0; high = solid.1 } in
        subst (λ n. (n < length pieces) × IsSecondSide (part_at pieces n) z.rect) same (
          i_in,
          (
            p,
            q,
            p_in,
            q_in,
            near-right r.x0 r.y0 z.rect.x1 z.rect.y0 x y,
            inl (same-from r.x0 z.rect.x1 x),
          ),
        )

    from-above : (k : ℕ) → IsCornerOf LowerLeft pieces (corner_at z.rect.x0 z.rect.y1 k) → (k < length pieces) × IsSecondSide (part_at pieces k) z.rect
    from-above k (i, r, i_in, r_in, is) =
        let same : i ≡ k = ap (λ t. let u : Corner = t in u.number) is in
        let x : r.x0 ≡ z.rect.x0 = ap (λ t. let u : Corner = t in u.x) is in
        let y : r.y0 ≡ z.rect.y1 = ap (λ t. let u : Corner = t in u.y) is in
        let s = slab-solid i r i_in r_in in
        let p : Pt = at r.x0 r.y0 in
        let q : Pt = at z.rect.x0 (z.rect.y1 -ℤ pos 1) in
        let p_in : part_at pieces i p = Covers-member (get_or pieces i []) r p r_in (record { left = self r.x0; right = s.wide; low = self r.y0; high = s.tall }) in
        let q_in : Has z.rect q = record { left = self z.rect.x0; right = solid.0; low = up-to z.rect.y0 z.rect.y1 solid.1; high = before-it z.rect.y1 } in
        subst (λ n. (n < length pieces) × IsSecondSide (part_at pieces n) z.rect) same (
          i_in,
          (
            p,
            q,
            p_in,
            q_in,
            near-above r.x0 r.y0 z.rect.x0 z.rect.y1 x y,
            inr (same-from r.y0 z.rect.y1 y),
          ),
        )

    -- pieces with corners of the zone stand on its sides
    pub sides-from_stand : (side : ℕ × ℕ) → StandBeside pieces z side → AreSides features pieces z side
    sides-from_stand side (one, two) =
        let first = elim one as (λ t. (side.0 < length pieces) × IsFirstSide (part_at pieces side.0) z.rect) [ inl h ↦ from-left side.0 h | inr h ↦ from-below side.0 h ] in
        let second = elim two as (λ t. (side.1 < length pieces) × IsSecondSide (part_at pieces side.1) z.rect) [ inl h ↦ from-right side.1 h | inr h ↦ from-above side.1 h ] in
        record { known = (first.0, second.0); first = first.1; second = second.1 }
