-- What is drawn lies within a bound.
use Rattle.std.proofs.Common.{◌≡◌, ℕ, ◌*◌, ◌^◌, ◌<◌, ◌≤◌, ⊎_elim, Bool, true, false, cond, ℤ, pos, ◌≤ℤ◌, List, [], ◌∷◌, map, refl, arith, inl, inr}
use Rattle.std.proofs.Math.Nat.{mul-le-mul_left}
use Rattle.std.proofs.lemmas.Int.{ints, by_lt_z}
use Rattle.std.proofs.lemmas.List.Elements.{All-cons, All-tail, All-head}
use Rattle.std.specs.List.{All}
use Rattle.std.specs.Prelude.{unsigned_abs}
use Rattle.dpl_spec_split.specs.declared.Pt.{Pt}
use Rattle.dpl_spec_split.specs.declared.Rect.{Rect}
use Rattle.dpl_spec_split.specs.Loops.{IsPointWithin, ArePointsWithin, AreLoopsWithin, IsRectWithin, IsLevelOrUpright, IsRectilinear}
use Rattle.dpl_spec_split.proofs.Ordered.{Contains-head, Contains-later, Contains-cases, Contains-nil}
use Rattle.dpl_spec_elements.specs.declared.Heading.{Heading}
use Rattle.dpl_spec_elements.specs.declared.Heading.TheVariants.{East, North, West, South}
use Rattle.dpl_spec_elements.specs.declared.Segment.{Segment}
use Rattle.dpl_spec_elements.specs.Boundaries.{IsSlanted}
use Rattle.dpl_spec_elements.specs.Paths.{same, heading, same_heading, segments_from, bar, bar_to, bars, square_round, half_of, past_end}
use Rattle.dpl_spec_elements.specs.Paths.{rects_through, path_rects, path_of, corners_of, distinct, PathElement}
use Rattle.dpl_shapes.specs.declared.fault.ShapeFault.{ShapeFault}
use Rattle.dpl_shapes.specs.declared.fault.ShapeFault.TheVariants.{SlantedBoundary, Path, NoMemory}
use Rattle.dpl_shapes.specs.Refusals.{RefusesPath}
use Rattle.dpl_shapes.specs.Strokes.{IsSegmentWithin}
use Rattle.dpl_shapes.proofs.Members.{Contains-distinct}
use Rattle.dpl_shapes.proofs.Ends.{past-within}
use Rattle.dpl_spec_layout.specs.declared.ElementFault.{ElementFault}
use Rattle.dpl_spec_layout.specs.declared.ElementFault.TheVariants as faults
use Rattle.dpl_spec_layout.specs.Elements.{IsPathFault, IsReferenceFault, IsTurnedAskew, IsArray}
use Rattle.dpl_spec_format.specs.Tree.{Trans}

all_nil : {X : Type 0} (P : X → Type 0) → All P []
all_nil P k d h = absurd (omega (arith, h))

cond_all : {X : Type 0} (P : X → Type 0) (b : Bool) (xs ys : List X) → All P xs → All P ys → All P (cond b xs ys)
cond_all P true xs ys h g = h
cond_all P false xs ys h g = g

segments_within : (p q : Pt) (rs : List Pt) → IsPointWithin (2 ^ 31) p → IsPointWithin (2 ^ 31) q → ArePointsWithin (2 ^ 31) rs
    → All (IsSegmentWithin (2 ^ 31)) (segments_from p q rs)
segments_within p q [] hp hq hr = All-cons (IsSegmentWithin (2 ^ 31)) (record { from = p; to = q }) [] (record { from = hp; to = hq }) (all_nil (IsSegmentWithin (2 ^ 31)))
segments_within p q (r ∷ rs) hp hq hr =
    let h = hr r (Contains-head r rs) in
    let t : ArePointsWithin (2 ^ 31) rs = λ x c. hr x (Contains-later r x rs c) in
    cond_all (IsSegmentWithin (2 ^ 31)) (same_heading (heading p q) (heading q r)) (segments_from p r rs) (record { from = p; to = q } ∷ segments_from q r rs)
    (segments_within p r rs hp h t)
    (All-cons (IsSegmentWithin (2 ^ 31)) (record { from = p; to = q }) (segments_from q r rs) (record { from = hp; to = hq }) (segments_within q r rs hq h t))

bar_to_within : (h : Heading) (half begin end : ℤ) (s : Segment) → unsigned_abs half ≤ 2 ^ 31 → unsigned_abs begin ≤ 2 ^ 31
    → unsigned_abs end ≤ 2 ^ 31 → IsSegmentWithin (2 ^ 31) s → IsRectWithin (2 ^ 61) (bar_to h half begin end s)
bar_to_within East half begin end s a b c w = let f = w.from in let t = w.to in
    record {
      left = omega (arith, ints, a, b, c, f.column, t.column);
      low = omega (arith, ints, a, b, c, f.row, t.row);
      right = omega
          (arith, ints, a, b, c, f.column, t.column);
      high = omega (arith, ints, a, b, c, f.row, t.row);
    }
bar_to_within North half begin end s a b c w = let f = w.from in let t = w.to in
    record {
      left = omega (arith, ints, a, b, c, f.column, t.column);
      low = omega (arith, ints, a, b, c, f.row, t.row);
      right = omega
          (arith, ints, a, b, c, f.column, t.column);
      high = omega (arith, ints, a, b, c, f.row, t.row);
    }
bar_to_within West half begin end s a b c w = let f = w.from in let t = w.to in
    record {
      left = omega (arith, ints, a, b, c, f.column, t.column);
      low = omega (arith, ints, a, b, c, f.row, t.row);
      right = omega
          (arith, ints, a, b, c, f.column, t.column);
      high = omega (arith, ints, a, b, c, f.row, t.row);
    }
bar_to_within South half begin end s a b c w = let f = w.from in let t = w.to in
    record {
      left = omega (arith, ints, a, b, c, f.column, t.column);
      low = omega (arith, ints, a, b, c, f.row, t.row);
      right = omega
          (arith, ints, a, b, c, f.column, t.column);
      high = omega (arith, ints, a, b, c, f.row, t.row);
    }

bars_within : (half begin end : ℤ) (ss : List Segment) → unsigned_abs half ≤ 2 ^ 31 → unsigned_abs begin ≤ 2 ^ 31
    → unsigned_abs end ≤ 2 ^ 31 → All (IsSegmentWithin (2 ^ 31)) ss → All (IsRectWithin (2 ^ 61)) (bars half begin end ss)
bars_within half begin end [] a b c w = all_nil (IsRectWithin (2 ^ 61))
bars_within half begin end (s ∷ []) a b c w = All-cons (IsRectWithin (2 ^ 61)) (bar half begin end s) []
    (bar_to_within (heading s.from s.to) half begin end s a b c (All-head (IsSegmentWithin (2 ^ 31)) s [] w))
    (all_nil (IsRectWithin (2 ^ 61)))
bars_within half begin end (s ∷ t ∷ ts) a b c w =
    All-cons (IsRectWithin (2 ^ 61)) (bar half begin half s) (bars half half end (t ∷ ts))
    (bar_to_within (heading s.from s.to) half begin half s a b a (All-head (IsSegmentWithin (2 ^ 31)) s (t ∷ ts) w))
    (bars_within half half end (t ∷ ts) a a c (All-tail (IsSegmentWithin (2 ^ 31)) s (t ∷ ts) w))

square_within : (half : ℤ) (p : Pt) → unsigned_abs half ≤ 2 ^ 31 → IsPointWithin (2 ^ 31) p → IsRectWithin (2 ^ 61) (square_round half p)
square_within half p a w = record {
  left = omega (arith, ints, a, w.column);
  low = omega (arith, ints, a, w.row);
  right = omega
      (arith, ints, a, w.column);
  high = omega (arith, ints, a, w.row);
}

through_within : (p : PathElement) (qs : List Pt) → unsigned_abs p.width ≤ 2 ^ 31 → unsigned_abs p.begin_ext ≤ 2 ^ 31
    → unsigned_abs p.end_ext ≤ 2 ^ 31 → ArePointsWithin (2 ^ 31) qs → All (IsRectWithin (2 ^ 61)) (rects_through p qs)
through_within p [] w b e h = all_nil (IsRectWithin (2 ^ 61))
through_within p (q ∷ []) w b e h =
    let a : unsigned_abs (half_of p) ≤ 2 ^ 31 = omega (arith, w) in
    cond_all (IsRectWithin (2 ^ 61)) (same p.kind (pos 2)) (square_round (half_of p) q ∷ []) []
    (All-cons (IsRectWithin (2 ^ 61)) (square_round (half_of p) q) [] (square_within (half_of p) q a (h q (Contains-head q []))) (all_nil (IsRectWithin (2 ^ 61))))
    (all_nil (IsRectWithin (2 ^ 61)))
through_within p (q ∷ r ∷ rs) w b e h =
    let a : unsigned_abs (half_of p) ≤ 2 ^ 31 = omega (arith, w) in
    bars_within (half_of p) (past_end p.kind (half_of p) p.begin_ext) (past_end p.kind (half_of p) p.end_ext) (segments_from q r rs) a
    (past-within p.kind (half_of p) p.begin_ext (2 ^ 31) a b)
    (past-within p.kind (half_of p) p.end_ext (2 ^ 31) a e)
    (segments_within q r rs (h q (Contains-head q (r ∷ rs))) (h r (Contains-later q r (r ∷ rs) (Contains-head r rs)))
    (λ x c. h x (Contains-later q x (r ∷ rs) (Contains-later r x rs c))))

four_within : (bound : ℕ) (a b c d : Pt) → IsPointWithin bound a → IsPointWithin bound b → IsPointWithin bound c → IsPointWithin bound d
    → ArePointsWithin bound (a ∷ b ∷ c ∷ d ∷ [])
four_within bound a b c d ha hb hc hd p i =
    ⊎_elim (λ (e : a ≡ p). rw (← e) ha)
    (λ j. ⊎_elim (λ (e : b ≡ p). rw (← e) hb)
    (λ k. ⊎_elim (λ (e : c ≡ p). rw (← e) hc)
    (λ l. ⊎_elim (λ (e : d ≡ p). rw (← e) hd) (λ n. absurd (Contains-nil p n)) (Contains-cases d p [] l))
    (Contains-cases c p (d ∷ []) k))
    (Contains-cases b p (c ∷ d ∷ []) j))
    (Contains-cases a p (b ∷ c ∷ d ∷ []) i)

pub corners_within : (bound : ℕ) (r : Rect) → IsRectWithin bound r → ArePointsWithin bound (corners_of r)
corners_within bound r w =
    four_within bound (record { x = r.x0; y = r.y0 }) (record { x = r.x1; y = r.y0 }) (record { x = r.x1; y = r.y1 }) (record { x = r.x0; y = r.y1 })
    (record { column = w.left; row = w.low }) (record { column = w.right; row = w.low }) (record { column = w.right; row = w.high }) (record { column = w.left; row = w.high })

loops_within : (rs : List Rect) → All (IsRectWithin (2 ^ 61)) rs → AreLoopsWithin (2 ^ 61) (map corners_of rs)
loops_within [] w = all_nil (λ ps. ArePointsWithin (2 ^ 61) ps)
loops_within (r ∷ rs) w = All-cons (λ ps. ArePointsWithin (2 ^ 61) ps) (corners_of r) (map corners_of rs)
    (corners_within (2 ^ 61) r (All-head (IsRectWithin (2 ^ 61)) r rs w)) (loops_within rs (All-tail (IsRectWithin (2 ^ 61)) r rs w))

pub path_within : (ps : List Pt) (width kind begin end : ℤ) → ArePointsWithin (2 ^ 31) ps → unsigned_abs width ≤ 2 ^ 31
    → unsigned_abs begin ≤ 2 ^ 31 → unsigned_abs end ≤ 2 ^ 31
    → AreLoopsWithin (2 ^ 61) (map corners_of (path_rects (path_of ps width kind begin end)))
path_within ps width kind begin end h w b e =
    loops_within (path_rects (path_of ps width kind begin end))
    (cond_all (IsRectWithin (2 ^ 61)) (same width (pos 0)) [] (rects_through (path_of ps width kind begin end) (distinct ps)) (all_nil (IsRectWithin (2 ^ 61)))
    (through_within (path_of ps width kind begin end) (distinct ps) w b e (λ p c. h p (Contains-distinct ps p c))))

pub one_within : (ps : List Pt) → ArePointsWithin (2 ^ 31) ps → AreLoopsWithin (2 ^ 61) (ps ∷ [])
one_within ps w = All-cons (λ qs. ArePointsWithin (2 ^ 61) qs) ps [] (λ p c. wider p (w p c)) (all_nil (λ qs. ArePointsWithin (2 ^ 61) qs))
  where
    wider : (p : Pt) → IsPointWithin (2 ^ 31) p → IsPointWithin (2 ^ 61) p
    wider p h = let x = h.column in let y = h.row in record { column = omega (arith, x); row = omega (arith, y) }

-- ---- what isn't refused

-- an edge is parallel to an axis, or it isn't
level_or_upright : (p q : Pt) → ((IsLevelOrUpright p q → ⊥) → ⊥) → IsLevelOrUpright p q
level_or_upright p q h =
    by_lt_z p.x q.x
    (λ k. row (λ e. omega (arith, ints, k, e)))
    (λ k. by_lt_z q.x p.x (λ l. row (λ e. omega (arith, ints, l, e))) (λ l. inl (omega (arith, ints, k, l))))
  where
    row : (p.x ≡ q.x → ⊥) → IsLevelOrUpright p q
    row x =
        by_lt_z p.y q.y
        (λ k. absurd (h (λ e. ⊎_elim x (λ (y : p.y ≡ q.y). omega (arith, ints, k, y)) e)))
        (λ k. by_lt_z q.y p.y (λ l. absurd (h (λ e. ⊎_elim x (λ (y : p.y ≡ q.y). omega (arith, ints, l, y)) e))) (λ l. inr (omega (arith, ints, k, l))))

pub one_straight : (ps : List Pt) → ¬ IsSlanted ps → All IsRectilinear (ps ∷ [])
one_straight ps h = All-cons IsRectilinear ps [] (record {
  between = λ k d l. level_or_upright _ _ (λ slanted. h (λ r. slanted (r.between k d l)));
  closing = λ d. level_or_upright _ _ (λ slanted. h (λ r. slanted (r.closing d)));
}) (all_nil IsRectilinear)

pub only_path_memory : (p : PathElement) (e : ShapeFault) → ((f : ElementFault) → ¬ IsPathFault p f) → RefusesPath p e → e ≡ NoMemory
only_path_memory p SlantedBoundary h r = absurd r
only_path_memory p NoMemory h r = refl
only_path_memory p (Path f) h r = absurd (h (faults.Path f) r)

pub not_askew : (t : Trans) (unlaid : Type 0) → ((f : ElementFault) → ¬ IsReferenceFault t unlaid f) → ¬ IsTurnedAskew t.angle
not_askew t unlaid h a = h faults.AngleNotRight (h faults.AbsoluteTransform, λ m. h faults.Magnified (h faults.AbsoluteTransform, m), a)

not_unlaid : (t : Trans) (unlaid : Type 0) → ((f : ElementFault) → ¬ IsReferenceFault t unlaid f) → ¬ unlaid
not_unlaid t unlaid h u = h faults.BadArray (h faults.AbsoluteTransform, λ m. h faults.Magnified (h faults.AbsoluteTransform, m), not_askew t unlaid h, u)

pub some_columns : (t : Trans) (columns rows : ℤ) (xy : List ℕ) → ((f : ElementFault) → ¬ IsReferenceFault t (¬ IsArray columns rows xy) f) → pos 1 ≤ℤ columns
some_columns t columns rows xy h = by_lt_z columns (pos 1) (λ l. absurd (not_le (omega (arith, ints, l)))) (λ l. omega (arith, ints, l))
  where
    not_le : ¬ (columns ≤ℤ pos 0)
    not_le l = not_unlaid t (¬ IsArray columns rows xy) h (λ a. let c = a.column in absurd (omega (arith, ints, c, l)))

pub some_rows : (t : Trans) (columns rows : ℤ) (xy : List ℕ) → ((f : ElementFault) → ¬ IsReferenceFault t (¬ IsArray columns rows xy) f) → pos 1 ≤ℤ rows
some_rows t columns rows xy h = by_lt_z rows (pos 1) (λ l. absurd (not_le (omega (arith, ints, l)))) (λ l. omega (arith, ints, l))
  where
    not_le : ¬ (rows ≤ℤ pos 0)
    not_le l = not_unlaid t (¬ IsArray columns rows xy) h (λ a. let c = a.row in absurd (omega (arith, ints, c, l)))

-- ---- steps

pub steps_within : (i n s b : ℕ) → i < n → n * s ≤ b → i * s ≤ b
steps_within i n s b h l = let m = mul_right i n s h in omega (arith, l, m)
  where
    mul_right : (i n s : ℕ) → i < n → i * s ≤ n * s
    mul_right i n s h = let e = mul-le-mul_left s (let k : i ≤ n = omega (arith, h) in k) in let x : s * i ≡ i * s = omega arith in
        let y : s * n ≡ n * s = omega arith in omega (arith, e, x, y)
