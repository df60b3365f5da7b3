-- Sets told by sums.
use Rattle.std.proofs.Common.{◌≡◌, ℕ, ◌≤◌, ◌⊎◌, inl, inr, List, [], ◌∷◌, ◌++◌, length, refl, sym, subst, arith}
use Rattle.std.specs.Prelude.{◌↔◌, ℤ, pos, ◌+ℤ◌, ◌-ℤ◌, unsigned_abs}
use Rattle.std.proofs.lemmas.Int.{ints, by_lt_z}
use Rattle.std.proofs.lemmas.List.Elements.{All-contains, Contains-push_cases}
use Rattle.dpl_spec_split.specs.declared.Pt.{Pt}
use Rattle.dpl_spec_split.specs.declared.Rect.{Rect}
use Rattle.dpl_spec_split.specs.Squares.{Has, Covers}
use Rattle.dpl_spec_split.specs.Slabs.{IsSolid, IsCanonical, AreSlabsOf}
use Rattle.dpl_spec_split.specs.Loops.{IsRectWithin, AreRectsWithin}
use Rattle.dpl_spec_split.specs.Zones.{at, transposed, transposed_rect}
use Rattle.dpl_spec_split.proofs.Ordered.{Contains-head, Contains-later, Contains-cases, Contains-nil}
use Rattle.dpl_spec_split.proofs.SlabLaws.{Covers-member, member-Covers}
use Rattle.dpl_sweep.specs.declared.edge.Edge.{Edge}
use Rattle.dpl_sweep.specs.declared.edge.Rule.{Rule}
use Rattle.dpl_sweep.specs.declared.edge.Rule.TheVariants.{Either, Minus, Both}
use Rattle.dpl_sweep.specs.Edges.{Holds, Told, sum_left, change_a, change_b}
use Rattle.dpl_sweep.specs.Passes.{AreUnitEdges, IsClosed}
use Rattle.dpl_sweep.proofs.EdgeLaws.{none-told}
use Rattle.dpl_slabs.specs.Cells.{cells, AddsRects, transposed_rects}
use Rattle.dpl_slabs.specs.Slices.{Without}
use Rattle.dpl_slabs.proofs.CellLaws.{cells-zero, cells-least, covered-sum, sum-covered, adds-closed}

pub told-either : (rs ss : List Rect) (p : Pt) → Holds Either (cells (pos 1) rs p) (cells (pos 1) ss p) ↔ (Covers rs p ⊎ Covers ss p)
told-either rs ss p = (
  λ h. by_lt_z (pos 0) (cells (pos 1) rs p)
      (λ l. inl (sum-covered rs p (λ e. omega (arith, ints, l, e))))
      (λ m. (let least = cells-least rs p in inr (sum-covered ss p (h (omega (arith, ints, m, least)))))),
  λ h. elim h [ inl a ↦ (λ e f. covered-sum rs p a e) | inr b ↦ (λ e f. covered-sum ss p b f) ],
)

pub told-first : (rs : List Rect) (p : Pt) → Holds Either (cells (pos 1) rs p) (cells (pos 1) [] p) ↔ Covers rs p
told-first rs p = (λ h. sum-covered rs p (λ e. h e refl), λ h e f. covered-sum rs p h e)

pub told-minus : (rs ss : List Rect) (p : Pt) → Holds Minus (cells (pos 1) rs p) (cells (pos 1) ss p) ↔ Without rs ss p
told-minus rs ss p = (
  λ (h, k). (sum-covered rs p h, λ c. covered-sum ss p c k),
  λ (h, k). (
    covered-sum rs p h,
    by_lt_z (pos 0) (cells (pos 1) ss p) (λ l. absurd (k (sum-covered ss p (λ e. omega (arith, ints, l, e)))))
        (λ m. (let least = cells-least ss p in omega (arith, ints, m, least))),
  ),
)

-- what no holes leave of rectangles
pub without-none : (rs ss : List Rect) (p : Pt) → length ss ≤ 0 → Covers rs p ↔ Without rs ss p
without-none rs [] p none = ((λ c. (c, λ h. (let found = member-Covers [] p h in Contains-nil found.0 found.1))), λ c. c.0)
without-none rs (s ∷ ss) p none = absurd (omega (arith, none))

pub told-without_none : (rs ss : List Rect) (p : Pt) → length ss ≤ 0 → Holds Either (cells (pos 1) rs p) (cells (pos 1) ss p) ↔ Without rs ss p
told-without_none rs [] p none = let same = without-none rs [] p none in (λ h. same.0 ((told-first rs p).0 h), λ h. (told-first rs p).1 (same.1 h))
told-without_none rs (s ∷ ss) p none = absurd (omega (arith, none))

pub told-both : (rs ss : List Rect) (p : Pt) → Holds Both (cells (pos 1) rs p) (cells (pos 1) ss p) ↔ (Covers rs p × Covers ss p)
told-both rs ss p = (λ (h, k). (sum-covered rs p h, sum-covered ss p k), λ (h, k). (covered-sum rs p h, covered-sum ss p k))

pub slabs-of-same : (a b : Pt → Type 0) (rs : List Rect) → ((p : Pt) → a p ↔ b p) → AreSlabsOf a rs → AreSlabsOf b rs
slabs-of-same a b rs same s = record { canonical = s.canonical; covers = λ p. (λ h. (same p).0 ((s.covers p).0 h), λ h. (s.covers p).1 ((same p).1 h)) }

pub rects-more : (n : ℕ) (rs : List Rect) (r : Rect) → AreRectsWithin n rs → IsRectWithin n r → AreRectsWithin n (rs ++ r ∷ [])
rects-more n rs r w v s s_in = elim (Contains-push_cases rs r s s_in) [ inl old ↦ w s old | inr same ↦ subst (IsRectWithin n) same v ]

pub rects-none : (n : ℕ) → AreRectsWithin n []
rects-none n r r_in = absurd (Contains-nil r r_in)

-- some sum isn't 0 of squares in the set
holds-some : (rule : Rule) (x y : ℤ) → Holds rule x y → x ≡ pos 0 → y ≡ pos 0 → ⊥
holds-some rule x y h e f = none-told rule x y e f h

square-within : (bound : ℕ) (rs : List Rect) (p : Pt) → AreRectsWithin bound rs → Covers rs p → (unsigned_abs p.x ≤ bound)
    × (unsigned_abs p.y ≤ bound) × (unsigned_abs (p.x +ℤ pos 1) ≤ bound) × (unsigned_abs (p.y +ℤ pos 1) ≤ bound)
square-within bound rs p w h =
    let found = member-Covers rs p h in
    let has : Has found.0 p = found.2 in
    let within : IsRectWithin bound found.0 = w found.0 found.1 in
    let a = within.left in let b = within.low in let c = within.right in let d = within.high in
    let e = has.left in let f = has.right in let g = has.low in let i = has.high in
    (omega (arith, ints, a, c, e, f), omega (arith, ints, b, d, g, i), omega (arith, ints, a, c, e, f), omega (arith, ints, b, d, g, i))

inside : (rule : Rule) (bound : ℕ) (rs ss : List Rect) (p : Pt) → AreRectsWithin bound rs → AreRectsWithin bound ss
    → Holds rule (cells (pos 1) rs p) (cells (pos 1) ss p) → (unsigned_abs p.x ≤ bound) × (unsigned_abs p.y ≤ bound)
    × (unsigned_abs (p.x +ℤ pos 1) ≤ bound) × (unsigned_abs (p.y +ℤ pos 1) ≤ bound)
inside rule bound rs ss p v w h =
    elim ((told-either rs ss p).0 (holds-some rule (cells (pos 1) rs p) (cells (pos 1) ss p) h)) [ inl a ↦ square-within bound rs p v a | inr b ↦ square-within bound ss p w b ]

-- slabs of squares that rectangles within the bound have lie within it
pub slabs-within : (rule : Rule) (bound : ℕ) (rs ss slabs : List Rect) → AreRectsWithin bound rs → AreRectsWithin bound ss
    → AreSlabsOf (λ p. Holds rule (cells (pos 1) rs p) (cells (pos 1) ss p)) slabs → AreRectsWithin bound slabs
slabs-within rule bound rs ss slabs v w s r r_in =
    let solid : IsSolid r = All-contains IsSolid slabs r s.canonical.solid r_in in
    let wide = solid.wide in
    let tall = solid.tall in
    let low : Pt = record { x = r.x0; y = r.y0 } in
    let high : Pt = record { x = r.x1 -ℤ pos 1; y = r.y1 -ℤ pos 1 } in
    let a = inside rule bound rs ss low v w
    ((s.covers low).0 (Covers-member slabs r low r_in
    (record { left = omega (arith, ints); right = wide; low = omega (arith, ints); high = tall }))) in
    let b = inside rule bound rs ss high v w
    ((s.covers high).0 (Covers-member slabs r high r_in
    (record {
      left = omega (arith, ints, wide);
      right = omega (arith, ints);
      low = omega (arith, ints, tall);
      high = omega
          (arith, ints);
    }))) in
    let (a0, a1, a2, a3) = a in
    let (b0, b1, b2, b3) = b in
    record { left = a0; low = a1; right = omega (arith, ints, b2); high = omega (arith, ints, b3) }

-- the edges of both lists
module _ (rule : Rule) (rs ss : List Rect) (mid new : List Edge) (f : AddsRects (pos 1) (pos 0) [] mid rs) (g : AddsRects (pos 0) (pos 1) mid new ss) where
  pub both-told : (p : Pt) → Told rule new p ↔ Holds rule (cells (pos 1) rs p) (cells (pos 1) ss p)
  both-told p =
      let fa = f.sums_a p in
      let fb = f.sums_b p in
      let ga = g.sums_a p in
      let gb = g.sums_b p in
      let za = cells-zero rs p in
      let zb = cells-zero ss p in
      let a : sum_left change_a new p ≡ cells (pos 1) rs p = omega (arith, ints, fa, ga, zb) in
      let b : sum_left change_b new p ≡ cells (pos 1) ss p = omega (arith, ints, fb, gb, za) in
      (λ h. rw (← a, ← b) h, λ h. rw (a, b) h)

  pub both-closed : IsClosed rule new
  both-closed p left told =
      none-told rule _ _
      (adds-closed (pos 1) (pos 1) (pos 0) [] mid rs p f (λ e e_in. left e (g.keeps e e_in)))
      (adds-closed (pos 1) (pos 0) (pos 1) mid new ss p g left)
      ((both-told p).0 told)

  pub both-units : AreUnitEdges new
  both-units = g.units (f.units (λ e e_in. absurd (Contains-nil e e_in)))

-- transposed
from-transposed : (rs : List Rect) (p : Pt) → Covers (transposed_rects rs) p → transposed (Covers rs) p
from-transposed [] p h = absurd (let found = member-Covers [] p h in Contains-nil found.0 found.1)
from-transposed (r ∷ rs) p h =
    let found = member-Covers (transposed_rect r ∷ transposed_rects rs) p h in
    elim (Contains-cases (transposed_rect r) found.0 (transposed_rects rs) found.1) [
      | inl e ↦ (let has : Has (transposed_rect r) p = subst (λ t. Has t p) (sym e) found.2 in
          Covers-member (r ∷ rs) r (at p.y p.x) (Contains-head r rs) (record { left = has.low; right = has.high; low = has.left; high = has.right }))
      | inr later ↦ (let rest = from-transposed rs p (Covers-member (transposed_rects rs) found.0 p later found.2) in
          let there = member-Covers rs (at p.y p.x) rest in
          Covers-member (r ∷ rs) there.0 (at p.y p.x) (Contains-later r there.0 rs there.1) there.2)
    ]

to-transposed : (rs : List Rect) (p : Pt) → transposed (Covers rs) p → Covers (transposed_rects rs) p
to-transposed [] p h = absurd (let found = member-Covers [] (at p.y p.x) h in Contains-nil found.0 found.1)
to-transposed (r ∷ rs) p h =
    let found = member-Covers (r ∷ rs) (at p.y p.x) h in
    elim (Contains-cases r found.0 rs found.1) [
      | inl e ↦ (let has : Has r (at p.y p.x) = subst (λ t. Has t (at p.y p.x)) (sym e) found.2 in
          Covers-member (transposed_rect r ∷ transposed_rects rs) (transposed_rect r) p (Contains-head (transposed_rect r) (transposed_rects rs))
          (record { left = has.low; right = has.high; low = has.left; high = has.right }))
      | inr later ↦ (let rest = to-transposed rs p (Covers-member rs found.0 (at p.y p.x) later found.2) in
          let there = member-Covers (transposed_rects rs) p rest in
          Covers-member (transposed_rect r ∷ transposed_rects rs) there.0 p (Contains-later (transposed_rect r) there.0 (transposed_rects rs) there.1) there.2)
    ]

pub covers-transposed : (rs : List Rect) (p : Pt) → Covers (transposed_rects rs) p ↔ transposed (Covers rs) p
covers-transposed rs p = (from-transposed rs p, to-transposed rs p)

pub transposed-within : (bound : ℕ) (rs : List Rect) → AreRectsWithin bound rs → AreRectsWithin bound (transposed_rects rs)
transposed-within bound [] w r r_in = absurd (Contains-nil r r_in)
transposed-within bound (s ∷ rs) w r r_in =
    elim (Contains-cases (transposed_rect s) r (transposed_rects rs) r_in) [
      | inl e ↦ (let h : IsRectWithin bound s = w s (Contains-head s rs) in
          subst (IsRectWithin bound) e (record { left = h.low; low = h.left; right = h.high; high = h.right }))
      | inr later ↦ transposed-within bound rs (λ t t_in. w t (Contains-later s t rs t_in)) r later
    ]

-- one transposed slab
pub transposed-one : (rs : List Rect) → IsCanonical rs → length (transposed_rects rs) ≡ 1 → AreSlabsOf (transposed (Covers rs)) (transposed_rects rs)
transposed-one [] c one = absurd (omega (arith, one))
transposed-one (r ∷ s ∷ rs) c one = absurd (omega (arith, one))
transposed-one (r ∷ []) c one =
    let solid : IsSolid r = All-contains IsSolid (r ∷ []) r c.solid (Contains-head r []) in
    record {
      canonical = record {
        solid = λ i d k. (let e : i ≡ 0 = omega (arith, k) in rw e (record { wide = solid.tall; tall = solid.wide }));
        follow = λ i j d l k. absurd (omega (arith, l, k));
      };
      covers = λ p. (from-transposed (r ∷ []) p, to-transposed (r ∷ []) p);
    }
