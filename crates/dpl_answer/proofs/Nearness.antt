-- Squares in lists, and whether some are near.
use Rattle.std.proofs.Common.{◌≡◌, ◌≢◌, ℕ, ◌+◌, ◌<◌, ◌*◌, ◌⊎◌, inl, inr, refl, ℤ, pos, ◌+ℤ◌, ◌-ℤ◌, ◌≤ℤ◌, ◌<ℤ◌, List, map, true, false, ap, sym, subst, ◌∙◌, arith}
use Rattle.std.proofs.lemmas.Int.{ints}
use Rattle.std.specs.Prelude.{◌&&◌, ◌||◌, ◌==◌, if◌then◌else◌, nat_lt, int_le, int_lt, unsigned_abs}
use Rattle.std.specs.List.{Contains, flat_map, list_any}
use Rattle.std.proofs.lemmas.Bool.{and_parts, and_from, cases_eq, eq-eqb, lt-ltb, ltb-true, ne_eqb, or_left, or_right}
use Rattle.dpl_spec_split.specs.declared.Spacing.{Spacing}
use Rattle.dpl_spec_split.specs.declared.Pt.{Pt}
use Rattle.dpl_spec_split.specs.declared.Rect.{Rect}
use Rattle.dpl_spec_split.specs.Squares.{AreNear, Covers, Has, TooFew, in_line, at_corner, gap}
use Rattle.dpl_spec_split.specs.Zones.{at}
use Rattle.dpl_edges.specs.InCells.{in_cell}
use Rattle.dpl_board.proofs.Flats.{from-flat, in-flat}
use Rattle.dpl_answer.specs.Sheets.{all_squares, below, is_in, is_near_in, squares_of, is_few, is_near}
use Rattle.dpl_spec_split.proofs.Ordered.{map-has}
use Rattle.dpl_answer.proofs.Members.{any-has, below-has, has-any, has-kept, has-passed, kept-has, passed-has}

le-yes : (a b : ℤ) → int_le a b ≡ true → a ≤ℤ b
le-yes a b h = grind (arith, ints)

lt-yes : (a b : ℤ) → int_lt a b ≡ true → a <ℤ b
lt-yes a b h = grind (arith, ints)

yes-le : (a b : ℤ) → a ≤ℤ b → int_le a b ≡ true
yes-le a b h = grind (arith, ints)

yes-lt : (a b : ℤ) → a <ℤ b → int_lt a b ≡ true
yes-lt a b h = grind (arith, ints)

pub in-has : (r : Rect) (p : Pt) → is_in r p ≡ true → Has r p
in-has r p h =
    let (x, y) = and_parts (int_le r.x0 p.x && int_lt p.x r.x1) (int_le r.y0 p.y && int_lt p.y r.y1) h in
    let (left, right) = and_parts (int_le r.x0 p.x) (int_lt p.x r.x1) x in
    let (low, high) = and_parts (int_le r.y0 p.y) (int_lt p.y r.y1) y in
    record { left = le-yes r.x0 p.x left; right = lt-yes p.x r.x1 right; low = le-yes r.y0 p.y low; high = lt-yes p.y r.y1 high }

pub has-in : (r : Rect) (p : Pt) → Has r p → is_in r p ≡ true
has-in r p h =
    and_from (int_le r.x0 p.x && int_lt p.x r.x1) (int_le r.y0 p.y && int_lt p.y r.y1)
    (and_from (int_le r.x0 p.x) (int_lt p.x r.x1) (yes-le r.x0 p.x h.left) (yes-lt p.x r.x1 h.right))
    (and_from (int_le r.y0 p.y) (int_lt p.y r.y1) (yes-le r.y0 p.y h.low) (yes-lt p.y r.y1 h.high))

short : (low i high : ℤ) → low ≤ℤ i → i <ℤ high → unsigned_abs (i -ℤ low) < unsigned_abs (high -ℤ low)
short low i high from to = omega (arith, ints, from, to)

reached : (low i : ℤ) → low ≤ℤ i → low +ℤ pos (unsigned_abs (i -ℤ low)) ≡ i
reached low i from = omega (arith, ints, from)

pub has-square : (r : Rect) (p : Pt) → Has r p → Contains (squares_of r) p
has-square r p h =
    let left = h.left in let right = h.right in let low = h.low in let high = h.high in
    let i = unsigned_abs (p.x -ℤ r.x0) in
    let j = unsigned_abs (p.y -ℤ r.y0) in
    let row : ℕ → List Pt = λ j. map (λ (i : ℕ). at (r.x0 +ℤ pos i) (r.y0 +ℤ pos j)) (below (unsigned_abs (r.x1 -ℤ r.x0))) in
    has-kept (is_in r) (flat_map row (below (unsigned_abs (r.y1 -ℤ r.y0)))) p
    (in-flat row (below (unsigned_abs (r.y1 -ℤ r.y0))) j p (below-has (unsigned_abs (r.y1 -ℤ r.y0)) j (short r.y0 p.y r.y1 low high))
    (map-has (λ (i : ℕ). at (r.x0 +ℤ pos i) (r.y0 +ℤ pos j)) (below (unsigned_abs (r.x1 -ℤ r.x0))) i p (below-has (unsigned_abs (r.x1 -ℤ r.x0)) i (short r.x0 p.x r.x1 left right))
    (ap (λ (x : ℤ). at x (r.y0 +ℤ pos j)) (reached r.x0 p.x left) ∙ ap (λ (y : ℤ). at p.x y) (reached r.y0 p.y low))))
    (has-in r p h)

pub square-has : (r : Rect) (p : Pt) → Contains (squares_of r) p → Has r p
square-has r p c = in-has r p (kept-has (is_in r) _ p c).1

pub covers-square : (slabs : List Rect) (p : Pt) → Covers slabs p → Contains (all_squares slabs) p
covers-square slabs p c = let (r, listed, h) = any-has (λ r. Has r p) slabs c in in-flat squares_of slabs r p listed (has-square r p h)

pub square-covers : (slabs : List Rect) (p : Pt) → Contains (all_squares slabs) p → Covers slabs p
square-covers slabs p c = let (r, listed, h) = from-flat squares_of slabs p c in has-any (λ r. Has r p) slabs r listed (square-has r p h)

in-line : (dx dy : ℕ) → (dx ≡ 0) ⊎ (dy ≡ 0) → (dx == 0 || dy == 0) ≡ true
in-line dx dy (inl none) = or_left (dx == 0) (dy == 0) (eq-eqb dx 0 none)
in-line dx dy (inr none) = or_right (dx == 0) (dy == 0) (eq-eqb dy 0 none)

at-corner : (dx dy : ℕ) → dx ≢ 0 → dy ≢ 0 → (dx == 0 || dy == 0) ≡ false
at-corner dx dy some_x some_y = rw (ne_eqb dx 0 some_x, ne_eqb dy 0 some_y) refl

few-yes : (spacing : Spacing) (dx dy : ℕ) → TooFew spacing dx dy → is_few spacing dx dy ≡ true
few-yes spacing dx dy (in_line axis close) =
    subst (λ b. nat_lt (dx * dx + dy * dy) (if b then spacing.rule * spacing.rule else spacing.corner * spacing.corner) ≡ true) (sym (in-line dx dy axis))
    (lt-ltb (dx * dx + dy * dy) (spacing.rule * spacing.rule) close)
few-yes spacing dx dy (at_corner some_x some_y close) =
    subst (λ b. nat_lt (dx * dx + dy * dy) (if b then spacing.rule * spacing.rule else spacing.corner * spacing.corner) ≡ true)
    (sym (at-corner dx dy (λ e. omega (arith, e, some_x)) (λ e. omega (arith, e, some_y))))
    (lt-ltb (dx * dx + dy * dy) (spacing.corner * spacing.corner) close)

few-in_line : (spacing : Spacing) (dx dy : ℕ) → (dx ≡ 0) ⊎ (dy ≡ 0) → is_few spacing dx dy ≡ true → TooFew spacing dx dy
few-in_line spacing dx dy axis h = in_line axis
    (ltb-true (dx * dx + dy * dy) (spacing.rule * spacing.rule)
    (subst (λ b. nat_lt (dx * dx + dy * dy) (if b then spacing.rule * spacing.rule else spacing.corner * spacing.corner) ≡ true) (in-line dx dy axis) h))

yes-few : (spacing : Spacing) (dx dy : ℕ) → is_few spacing dx dy ≡ true → TooFew spacing dx dy
yes-few spacing dx dy h = elim (cases_eq dx 0) [
  | inl none ↦ few-in_line spacing dx dy (inl none) h
  | inr some_x ↦ elim (cases_eq dy 0) [
    | inl none ↦ few-in_line spacing dx dy (inr none) h
    | inr some_y ↦ at_corner (omega (arith, some_x)) (omega (arith, some_y))
        (ltb-true (dx * dx + dy * dy) (spacing.corner * spacing.corner)
        (subst (λ b. nat_lt (dx * dx + dy * dy) (if b then spacing.rule * spacing.rule else spacing.corner * spacing.corner) ≡ true) (at-corner dx dy some_x some_y) h))
  ]
]

module _ (spacing : Spacing) (cell : Rect) (a b : List Rect) where
  pub near-yes : AreNear spacing (in_cell cell (Covers a)) (Covers b) → is_near_in spacing cell a b ≡ true
  near-yes (p, q, (in_a, in_cell), in_b, l) =
      has-passed (λ p. is_in cell p && list_any (λ q. is_near spacing p q) (all_squares b)) (all_squares a) p (covers-square a p in_a)
      (and_from (is_in cell p) (list_any (λ q. is_near spacing p q) (all_squares b)) (has-in cell p in_cell)
      (has-passed (λ q. is_near spacing p q) (all_squares b) q (covers-square b q in_b) (few-yes spacing (gap p.x q.x) (gap p.y q.y) l)))

  pub yes-near : is_near_in spacing cell a b ≡ true → AreNear spacing (in_cell cell (Covers a)) (Covers b)
  yes-near h =
      let (p, in_a, both) = passed-has (λ p. is_in cell p && list_any (λ q. is_near spacing p q) (all_squares b)) (all_squares a) h in
      let (inside, some) = and_parts (is_in cell p) (list_any (λ q. is_near spacing p q) (all_squares b)) both in
      let (q, in_b, l) = passed-has (λ q. is_near spacing p q) (all_squares b) some in
      (p, q, (square-covers a p in_a, in-has cell p inside), square-covers b q in_b, yes-few spacing (gap p.x q.x) (gap p.y q.y) l)
