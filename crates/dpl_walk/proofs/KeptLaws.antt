-- What a walk keeps.
use Rattle.std.proofs.Common.{◌≡◌, ℕ, ◌+◌, ◌<◌, ◌⊎◌, inl, inr, true, false, List, [], ◌∷◌, ◌++◌, Some, None, map, length, get_or, take}
use Rattle.std.proofs.Common.{refl, sym, subst, ⊎_elim, arith}
use Rattle.std.specs.List.{Contains}
use Rattle.std.specs.Prelude.{◌↔◌}
use Rattle.std.proofs.lemmas.List.Elements.{Contains-get_or, Contains-append_left, Contains-push, Contains-push_cases}
use Rattle.dpl_spec_split.specs.declared.Pt.{Pt}
use Rattle.dpl_spec_split.specs.declared.Rect.{Rect}
use Rattle.dpl_spec_split.specs.Squares.{Covers, Has}
use Rattle.dpl_spec_split.specs.Loops.{LoopCovers, SomeLoopCovers, IsPointWithin, ArePointsWithin, IsRectWithin, farthest}
use Rattle.dpl_spec_split.proofs.Ordered.{Contains-nil}
use Rattle.dpl_links.proofs.TakeLaws.{Contains-take_more}
use Rattle.dpl_spec_split.proofs.SlabLaws.{Covers-member, member-Covers}
use Rattle.dpl_spec_elements.specs.Motions.{Motion, image}
use Rattle.dpl_corners.specs.declared.bar.Bar.{Bar}
use Rattle.dpl_corners.specs.Corners.{IsSpanned, loop_round}
use Rattle.dpl_corners.proofs.CornerLaws.{spanned-within}
use Rattle.dpl_corners.proofs.BarLaws.{bar-covers, bar-within, corner-in, opposite-in, image-loop}
use Rattle.dpl_walk.specs.Least.{earlier, IsAtMost}
use Rattle.dpl_walk.specs.declared.cells.Cell.{Cell}
use Rattle.dpl_walk.specs.declared.cells.Outline.{Outline}
use Rattle.dpl_walk.specs.declared.gathered.Gathered.{Gathered}
use Rattle.dpl_walk.specs.Kept.{KeptCovers, SomeLoopInRangeCovers, IsAdded, IsKept, AreKept, Keeps}
use Rattle.dpl_walk.specs.Walk.{Gathers, HasFarPoint, IsWalk}
use Rattle.dpl_walk.proofs.BarImages.{placed-bar}
use Rattle.dpl_walk.proofs.WalkLaws.{gathers_one, gathers_none, gathers_more}

-- ---- bars

-- the rectangle between where the corners are taken has the squares of the loop, and lies in range with them
pub bar-placed : (m : Motion) (a : Bar) (b : Rect) → IsSpanned (image m a.corner) (image m a.opposite) b → (s : Pt)
    → Has b s ↔ LoopCovers (map (image m) (loop_round a)) s
bar-placed m a b o s =
    let i = placed-bar m a in
    let p : IsSpanned i.0.corner i.0.opposite b = rw (i.1.corner, i.1.opposite) o in
    subst (λ (ps : List Pt). Has b s ↔ LoopCovers ps s) (sym (image-loop (image m) a i.0 i.1)) (bar-covers i.0 b p s)

pub bar-placed-within : (m : Motion) (a : Bar) → IsPointWithin farthest (image m a.corner) → IsPointWithin farthest (image m a.opposite)
    → ArePointsWithin farthest (map (image m) (loop_round a))
bar-placed-within m a v w =
    let i = placed-bar m a in
    subst (ArePointsWithin farthest) (sym (image-loop (image m) a i.0 i.1)) (bar-within farthest i.0 (rw i.1.corner v) (rw i.1.opposite w))

pub corner-far : (m : Motion) (a : Bar) → ¬ IsPointWithin farthest (image m a.corner) → HasFarPoint (map (image m) (loop_round a))
corner-far m a far =
    let i = placed-bar m a in
    subst HasFarPoint (sym (image-loop (image m) a i.0 i.1)) (i.0.corner, corner-in i.0, rw i.1.corner far)

pub opposite-far : (m : Motion) (a : Bar) → ¬ IsPointWithin farthest (image m a.opposite) → HasFarPoint (map (image m) (loop_round a))
opposite-far m a far =
    let i = placed-bar m a in
    subst HasFarPoint (sym (image-loop (image m) a i.0 i.1)) (i.0.opposite, opposite-in i.0, rw i.1.opposite far)

-- ---- one more

pub covers-pushed : (rs : List Rect) (r : Rect) (s : Pt) → Covers (rs ++ r ∷ []) s ↔ (Covers rs s ⊎ Has r s)
covers-pushed rs r s = (
  (λ h. let found = member-Covers (rs ++ r ∷ []) s h in
      elim (Contains-push_cases rs r found.0 found.1) [
        | inl one ↦ inl (Covers-member rs found.0 s one found.2)
        | inr other ↦ inr (subst (λ t. Has t s) (sym other) found.2)
      ]),
  λ h. elim h [
    | inl one ↦ (let found = member-Covers rs s one in Covers-member (rs ++ r ∷ []) found.0 s (Contains-append_left rs (r ∷ []) found.0 found.1) found.2)
    | inr other ↦ Covers-member (rs ++ r ∷ []) r s (Contains-push rs r) other
  ],
)

pub loops-pushed : (ls : List (List Pt)) (ps : List Pt) (s : Pt) → SomeLoopCovers (ls ++ ps ∷ []) s ↔ (SomeLoopCovers ls s ⊎ LoopCovers ps s)
loops-pushed ls ps s = (
  (λ (k, qs, k_in, is, has). elim (Contains-push_cases ls ps qs (k, k_in, is)) [
    | inl (j, j_in, same) ↦ inl (j, qs, j_in, same, has)
    | inr other ↦ inr (subst (λ t. LoopCovers t s) (sym other) has)
  ]),
  λ h. elim h [
    | inl (k, qs, k_in, is, has) ↦ (let (j, j_in, same) = Contains-append_left ls (ps ∷ []) qs (k, k_in, is) in (j, qs, j_in, same, has))
    | inr has ↦ (let (j, j_in, same) = Contains-push ls ps in (j, ps, j_in, same, has))
  ],
)

-- one more loop in range, and one that isn't
in-range-pushed : (ls : List (List Pt)) (ps : List Pt) → ArePointsWithin farthest ps → (s : Pt)
    → SomeLoopInRangeCovers (ls ++ ps ∷ []) s ↔ (SomeLoopInRangeCovers ls s ⊎ LoopCovers ps s)
in-range-pushed ls ps within s = (
  (λ (qs, qs_in, inside, has). elim (Contains-push_cases ls ps qs qs_in) [
    | inl old ↦ inl (qs, old, inside, has)
    | inr other ↦ inr (subst (λ t. LoopCovers t s) (sym other) has)
  ]),
  λ h. elim h [
    | inl (qs, qs_in, inside, has) ↦ (qs, Contains-append_left ls (ps ∷ []) qs qs_in, inside, has)
    | inr has ↦ (ps, Contains-push ls ps, within, has)
  ],
)

far-pushed : (ls : List (List Pt)) (ps : List Pt) → HasFarPoint ps → (s : Pt) → SomeLoopInRangeCovers (ls ++ ps ∷ []) s ↔ SomeLoopInRangeCovers ls s
far-pushed ls ps (p, p_in, out) s = (
  (λ (qs, qs_in, inside, has). elim (Contains-push_cases ls ps qs qs_in) [
    | inl old ↦ (qs, old, inside, has)
    | inr other ↦ absurd (out (inside p (subst (λ t. Contains t p) other p_in)))
  ]),
  λ (qs, qs_in, inside, has). (qs, Contains-append_left ls (ps ∷ []) qs qs_in, inside, has),
)

-- a rectangle was kept for the loop
pub added-rect : (ps : List Pt) (r : Rect) (old new : Gathered) → ((s : Pt) → Has r s ↔ LoopCovers ps s) → IsRectWithin farthest r
    → new.rects.items ≡ old.rects.items ++ r ∷ [] → new.loops.items ≡ old.loops.items → IsAdded ps old new
added-rect ps r old new same within re le = record {
  covers = λ s. (
    λ h. elim h [
      | inl c ↦ elim ((covers-pushed old.rects.items r s).0 (rw re at c)) [ inl o ↦ inl (inl o) | inr n ↦ inr ((same s).0 n) ]
      | inr c ↦ inl (inr (rw le at c))
    ],
    λ h. elim h [
      | inl (inl c) ↦ inl (rw re ((covers-pushed old.rects.items r s).1 (inl c)))
      | inl (inr c) ↦ inr (rw le c)
      | inr c ↦ inl (rw re ((covers-pushed old.rects.items r s).1 (inr ((same s).1 c))))
    ],
  );
  rects = λ w b b_in. elim (Contains-push_cases old.rects.items r b (rw re at b_in)) [ inl o ↦ w b o | inr e ↦ rw (← e) within ];
  among = λ qs c. inl (rw le at c);
}

-- the loop was kept as it is
pub added-loop : (ps : List Pt) (old new : Gathered) → new.rects.items ≡ old.rects.items → new.loops.items ≡ old.loops.items ++ ps ∷ [] → IsAdded ps old new
added-loop ps old new re le = record {
  covers = λ s. (
    λ h. elim h [
      | inl c ↦ inl (inl (rw re at c))
      | inr c ↦ elim ((loops-pushed old.loops.items ps s).0 (rw le at c)) [ inl o ↦ inl (inr o) | inr n ↦ inr n ]
    ],
    λ h. elim h [
      | inl (inl c) ↦ inl (rw re c)
      | inl (inr c) ↦ inr (rw le ((loops-pushed old.loops.items ps s).1 (inl c)))
      | inr c ↦ inr (rw le ((loops-pushed old.loops.items ps s).1 (inr c)))
    ],
  );
  rects = λ w. rw re w;
  among = λ qs c. elim (Contains-push_cases old.loops.items ps qs (rw le at c)) [ inl o ↦ inl o | inr e ↦ inr (sym e) ];
}

-- a bar was kept that is placed by m
pub kept-bar : (m : Motion) (a : Bar) (p r : Pt) (b : Rect) (at : ℕ) (old new : Gathered) → p ≡ image m a.corner → r ≡ image m a.opposite
    → IsPointWithin farthest p → IsPointWithin farthest r → IsSpanned p r b → new.far ≡ old.far
    → new.rects.items ≡ old.rects.items ++ b ∷ [] → new.loops.items ≡ old.loops.items → IsKept (map (image m) (loop_round a)) at old new
kept-bar m a p r b at old new p_is r_is v w o fe re le = inl (
  bar-placed-within m a (rw (← p_is) v) (rw (← r_is) w),
  fe,
  added-rect (map (image m) (loop_round a)) b old new (bar-placed m a b (rw (← p_is, ← r_is) o)) (spanned-within farthest p r b o v w) re le,
)

-- or goes too far
pub far-bar : (m : Motion) (a : Bar) (p r : Pt) (at : ℕ) (old new : Gathered) → p ≡ image m a.corner → r ≡ image m a.opposite
    → (¬ IsPointWithin farthest p) ⊎ (¬ IsPointWithin farthest r) → new.far ≡ earlier old.far (Some at)
    → new.rects.items ≡ old.rects.items → new.loops.items ≡ old.loops.items → IsKept (map (image m) (loop_round a)) at old new
far-bar m a p r at old new p_is r_is far fe re le = inr (
  elim far [ inl v ↦ corner-far m a (rw (← p_is) v) | inr w ↦ opposite-far m a (rw (← r_is) w) ],
  fe,
  re,
  le,
)

-- ---- outlines

kept-one : (o : Outline) (f : Pt → Pt) (old new : Gathered) → ArePointsWithin farthest (map f o.points) → new.far ≡ old.far
    → IsAdded (map f o.points) old new → (all : List (List Pt)) → AreKept all old
    → (more : List (List Pt)) × Gathers (o ∷ []) f all more old.far new.far × AreKept more new
kept-one o f old new within far added all k = (
  all ++ map f o.points ∷ [],
  gathers_one o f all (all ++ map f o.points ∷ []) old.far new.far (map f o.points) true refl (λ e. within) (λ e. absurd cc) refl far,
  record {
    covers = λ s. let more = in-range-pushed all (map f o.points) within s in (
      λ h. more.1 (elim ((added.covers s).0 h) [ inl c ↦ inl ((k.covers s).0 c) | inr c ↦ inr c ]),
      λ h. (added.covers s).1 (elim (more.0 h) [ inl c ↦ inl ((k.covers s).1 c) | inr c ↦ inr c ]),
    );
    rects = added.rects k.rects;
    loops = λ i d h. elim (added.among (get_or new.loops.items i d) (Contains-get_or new.loops.items i d h)) [
      | inl c ↦ old_within (get_or new.loops.items i d) c
      | inr e ↦ rw e within
    ];
    among = λ ps c. elim (added.among ps c) [
      | inl old_in ↦ Contains-append_left all (map f o.points ∷ []) ps (k.among ps old_in)
      | inr e ↦ rw e (Contains-push all (map f o.points))
    ];
  },
)
  where
    old_within : (ps : List Pt) → Contains old.loops.items ps → ArePointsWithin farthest ps
    old_within ps (i, i_in, is) = rw (← is) (k.loops i ps i_in)

missed-one : (o : Outline) (f : Pt → Pt) (old new : Gathered) → HasFarPoint (map f o.points) → new.far ≡ earlier old.far (Some o.at)
    → new.rects.items ≡ old.rects.items → new.loops.items ≡ old.loops.items → (all : List (List Pt)) → AreKept all old
    → (more : List (List Pt)) × Gathers (o ∷ []) f all more old.far new.far × AreKept more new
missed-one o f old new miss far re le all k = (
  all ++ map f o.points ∷ [],
  gathers_one o f all (all ++ map f o.points ∷ []) old.far new.far (map f o.points) false refl (λ e. absurd cc) (λ e. miss) refl far,
  record {
    covers = λ s. let same = far-pushed all (map f o.points) miss s in (
      λ h. same.1 ((k.covers s).0 (elim h [ inl c ↦ inl (rw re at c) | inr c ↦ inr (rw le at c) ])),
      λ h. elim ((k.covers s).1 (same.0 h)) [ inl c ↦ inl (rw re c) | inr c ↦ inr (rw le c) ],
    );
    rects = rw re k.rects;
    loops = rw le k.loops;
    among = λ ps c. Contains-append_left all (map f o.points ∷ []) ps (k.among ps (rw le at c));
  },
)

pub keeps-one : (o : Outline) (f : Pt → Pt) (old new : Gathered) → IsKept (map f o.points) o.at old new → Keeps (o ∷ []) f old new
keeps-one o f old new (inl (within, far, added)) = record { keeps = λ all k. kept-one o f old new within far added all k }
keeps-one o f old new (inr (miss, far, re, le)) = record { keeps = λ all k. missed-one o f old new miss far re le all k }

pub keeps-none : (f : Pt → Pt) (g : Gathered) → Keeps [] f g g
keeps-none f g = record { keeps = λ all k. (all, gathers_none f all g.far, k) }

pub keeps-more : (os : List Outline) (i : ℕ) (d : Outline) (f : Pt → Pt) (a b c : Gathered) → i < length os → Keeps (take i os) f a b
    → Keeps (get_or os i d ∷ []) f b c → Keeps (take (i + 1) os) f a c
keeps-more os i d f a b c h first one = record {
  keeps = λ all k.
      let x = first.keeps all k in
      let y = one.keeps x.0 x.2 in
      (y.0, gathers_more os i d f all x.0 y.0 a.far b.far c.far h x.1 y.1, y.2);
}

-- nothing was gathered
pub kept-start : (g : Gathered) → g.rects.items ≡ [] → g.loops.items ≡ [] → AreKept [] g
kept-start g re le = record {
  covers = λ s. (
    λ h. elim h [
      | inl c ↦ (let (r, r_in, has) = member-Covers [] s (rw re at c) in absurd (Contains-nil r r_in))
      | inr c ↦ (let (i, ps, i_in, is, has) = rw le at c in absurd (Contains-nil ps (i, i_in, is)))
    ],
    λ (ps, ps_in, inside, has). absurd (Contains-nil ps ps_in),
  );
  rects = λ r r_in. absurd (Contains-nil r (rw re at r_in));
  loops = λ i d h. (let none = rw le at h in absurd (omega (arith, none)));
  among = λ ps c. rw le at c;
}

-- ---- where nothing lies too far out

pub all-in-range : (cells : List Cell) (top : ℕ) (all : List (List Pt)) → IsWalk cells top all None → (ps : List Pt) → Contains all ps
    → ArePointsWithin farthest ps
all-in-range cells top all walk ps ps_in =
    let w = walk.sound ps ps_in in
    let g = walk.complete ps w.0 w.1 in
    ⊎_elim (λ x. x) (λ (x : IsAtMost None w.0). absurd x) g.1

-- what was kept covers what all loops cover
pub all-covered : (cells : List Cell) (top : ℕ) (all : List (List Pt)) (g : Gathered) → IsWalk cells top all None → AreKept all g → (s : Pt)
    → KeptCovers g s ↔ SomeLoopCovers all s
all-covered cells top all g walk kept s = (
  λ h. (let (ps, ps_in, inside, has) = (kept.covers s).0 h in (ps_in.0, ps, ps_in.1, ps_in.2, has)),
  λ (i, ps, i_in, is, has). (kept.covers s).1 (ps, (i, i_in, is), all-in-range cells top all walk ps (i, i_in, is), has),
)

-- ---- points in range

pub range_more : (ps : List Pt) (i : ℕ) (d : Pt) → i < length ps → ArePointsWithin farthest (take i ps) → IsPointWithin farthest (get_or ps i d)
    → ArePointsWithin farthest (take (i + 1) ps)
range_more ps i d h before here p c =
    ⊎_elim (λ m. before p m) (λ (q : p ≡ get_or ps i d). rw q here) (Contains-take_more ps i d p h c)

pub far_at : (ps : List Pt) (i : ℕ) (d : Pt) → i < length ps → ¬ IsPointWithin farthest (get_or ps i d) → HasFarPoint ps
far_at ps i d h far = (get_or ps i d, Contains-get_or ps i d h, far)
