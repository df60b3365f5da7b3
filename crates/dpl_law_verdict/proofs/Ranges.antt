-- The squares of a layer without a fault lie within its range.
use Rattle.std.proofs.Common.{◌≡◌, ℕ, zero, suc, ◌+◌, ◌-◌, ◌<◌, ◌≤◌, inl, inr, List, [], ◌∷◌, length, get_or, refl, ap, subst, arith}
use Rattle.std.specs.Prelude.{pos, ◌-ℤ◌, ◌≤ℤ◌, ◌<ℤ◌, neg_ℤ, unsigned_abs}
use Rattle.std.specs.List.{Contains}
use Rattle.std.proofs.lemmas.Int.{ints, by_lt_z}
use Rattle.std.proofs.lemmas.Bool.{cases_lt}
use Rattle.std.proofs.lemmas.List.{get_or_default}
use Rattle.dpl_spec_split.specs.declared.Pt.{Pt}
use Rattle.dpl_spec_split.specs.declared.Rect.{Rect}
use Rattle.dpl_spec_split.specs.Squares.{Covers}
use Rattle.dpl_spec_split.specs.Slabs.{AreSlabsOf, IsCanonical}
use Rattle.dpl_spec_split.specs.Loops.{step, steps, winding, LoopCovers, IsPointWithin, ArePointsWithin, AreRectsWithin, IsRectWithin, farthest}
use Rattle.dpl_spec_split.proofs.SlabLaws.{member-Covers}
use Rattle.dpl_spec_split.proofs.SquareLaws.{SameSquares-refl}
use Rattle.dpl_spec_format.specs.Tree.{Library}
use Rattle.dpl_spec_layout.specs.declared.Layer.{Layer}
use Rattle.dpl_spec_layout.specs.Structures.{Reaches, here, on}
use Rattle.dpl_spec_layout.specs.Placements.{Step, Leads, IsInLayer}
use Rattle.dpl_spec_layout.specs.Faults.{IsFaultless}
use Rattle.dpl_slabs.specs.Loops.{above}
use Rattle.dpl_slabs.proofs.LoopLaws.{Inside, slabs-inside, step-left, step-level}

-- ---- edges that don't count

step-before : (p q s : Pt) → s.x <ℤ p.x → step p q s ≡ pos 0
step-before p q s l = grind (arith, ints, l)

step-under : (p q s : Pt) → s.y <ℤ p.y → s.y <ℤ q.y → step p q s ≡ pos 0
step-under p q s l k = grind (arith, ints, l, k)

step-over : (p q s : Pt) → p.y ≤ℤ s.y → q.y ≤ℤ s.y → step p q s ≡ pos 0
step-over p q s l k = grind (arith, ints, l, k)

module _ (ps : List Pt) (s : Pt) where
  there : (n : ℕ) → n < length ps → Contains ps (get_or ps n s)
  there n l = (n, l, get_or_default ps n (get_or ps n s) s l)

  none-along : ((p q : Pt) → Contains ps p → Contains ps q → step p q s ≡ pos 0) → (n : ℕ) → n < length ps → steps ps n s ≡ pos 0
  none-along none zero l = refl
  none-along none (suc n) l =
      let h = none-along none n (omega (arith, l)) in
      let k = none (get_or ps n s) (get_or ps (n + 1) s) (there n (omega (arith, l))) (there (n + 1) (omega (arith, l))) in
      omega (arith, ints, h, k)

  -- where all edges stand left of the square, only the ends tell
  risen : ((p : Pt) → Contains ps p → p.x ≤ℤ s.x) → (n : ℕ) → n < length ps → steps ps n s ≡ above s (get_or ps n s).y -ℤ above s (get_or ps 0 s).y
  risen left zero l = omega (arith, ints)
  risen left (suc n) l =
      let h = risen left n (omega (arith, l)) in
      let k = step-left (get_or ps n s) (get_or ps (n + 1) s) s (left (get_or ps n s) (there n (omega (arith, l)))) in
      let next : n + 1 ≡ suc n = omega arith in
      let same : above s (get_or ps (n + 1) s).y ≡ above s (get_or ps (suc n) s).y = ap (λ m. above s (get_or ps m s).y) next in
      omega (arith, ints, h, k, same)

wound-none : (ps : List Pt) (s : Pt) → ((p q : Pt) → Contains ps p → Contains ps q → step p q s ≡ pos 0) → winding ps s ≡ pos 0
wound-none [] s none = (let h = step-level s s s refl in omega (arith, ints, h))
wound-none (p ∷ ps) s none =
    let all : List Pt = p ∷ ps in
    let last : length all - 1 < length all = omega arith in
    let h = none-along all s none (length all - 1) last in
    let k = none (get_or all (length all - 1) s) (get_or all 0 s) (there all s (length all - 1) last) (there all s 0 (omega arith)) in
    omega (arith, ints, h, k)

wound-left : (ps : List Pt) (s : Pt) → ((p : Pt) → Contains ps p → p.x ≤ℤ s.x) → winding ps s ≡ pos 0
wound-left [] s left = (let h = step-level s s s refl in omega (arith, ints, h))
wound-left (p ∷ ps) s left =
    let all : List Pt = p ∷ ps in
    let last : length all - 1 < length all = omega arith in
    let h = risen all s left (length all - 1) last in
    let k = step-left (get_or all (length all - 1) s) (get_or all 0 s) s (left (get_or all (length all - 1) s) (there all s (length all - 1) last)) in
    omega (arith, ints, h, k)

-- ---- the squares of loops

loop-inside : (bound : ℕ) (ps : List Pt) (s : Pt) → ArePointsWithin bound ps → LoopCovers ps s → Inside bound s
loop-inside bound ps s w covers =
    let left : neg_ℤ (pos bound) ≤ℤ s.x = by_lt_z s.x (neg_ℤ (pos bound))
    (λ l. absurd (covers (wound-none ps s (λ p q p_in q_in. (let h = (w p p_in).column in
    step-before p q s (omega (arith, ints, l, h))))))) (λ m. m) in
    let right : s.x <ℤ pos bound = by_lt_z s.x (pos bound) (λ l. l) (λ m. absurd (covers (wound-left ps s (λ p p_in. (let h = (w p p_in).column in omega (arith, ints, m, h)))))) in
    let low : neg_ℤ (pos bound) ≤ℤ s.y = by_lt_z s.y (neg_ℤ (pos bound))
    (λ l. absurd (covers (wound-none ps s (λ p q p_in q_in. (let h = (w p p_in).row in let k = (w q q_in).row in
    step-under p q s (omega (arith, ints, l, h)) (omega (arith, ints, l, k))))))) (λ m. m) in
    let high : s.y <ℤ pos bound = by_lt_z s.y (pos bound) (λ l. l)
    (λ m. absurd (covers (wound-none ps s (λ p q p_in q_in. (let h = (w p p_in).row in let k = (w q q_in).row in
    step-over p q s (omega (arith, ints, m, h)) (omega (arith, ints, m, k))))))) in
    (omega (arith, ints, left, right), omega (arith, ints, low, high), omega (arith, ints, left, right), omega (arith, ints, low, high))

-- ---- layers

leads-reach : (lib : Library) (k : ℕ) (steps : List Step) (l : ℕ) → Leads lib k steps l → Reaches lib k l
leads-reach lib k [] l e = subst (λ n. Reaches lib k n) e here
leads-reach lib k (s ∷ steps) l (j, is, rest) = on (s.element, is.inside, is.target) (leads-reach lib j steps l rest)

most-where : (m n : ℕ) → ((m ≤ n → ⊥) → ⊥) → m ≤ n
most-where m n never = elim (cases_lt n m) [ inl l ↦ absurd (never (λ k. omega (arith, l, k))) | inr le ↦ le ]

point-where : (p : Pt) → ((IsPointWithin farthest p → ⊥) → ⊥) → IsPointWithin farthest p
point-where p never = record {
  column = most-where (unsigned_abs p.x) farthest (λ past. never (λ w. past w.column));
  row = most-where (unsigned_abs p.y) farthest (λ past. never (λ w. past w.row));
}

layer-inside : (lib : Library) (top : ℕ) (chosen : Layer) (s : Pt) → IsFaultless lib top chosen → IsInLayer lib top chosen s → Inside farthest s
layer-inside lib top chosen s faultless (steps, k, e, placement, (i, ps, i_in, i_is, covers)) =
    loop-inside farthest ps s
    (λ p p_in. point-where p
    (λ out. faultless.within k e
    (record {
      reached = leads-reach lib top steps k placement.leads;
      inside = placement.inside;
      holds = (
        steps,
        ps,
        p,
        placement,
        (i, i_in, i_is),
        p_in,
        out,
      );
    })))
    covers

pub layer-within : (lib : Library) (top : ℕ) (chosen : Layer) (slabs : List Rect) → IsFaultless lib top chosen
    → AreSlabsOf (IsInLayer lib top chosen) slabs → AreRectsWithin farthest slabs
layer-within lib top chosen slabs faultless are = slabs-inside (IsInLayer lib top chosen) farthest slabs (λ s in_layer. layer-inside lib top chosen s faultless in_layer) are

pub covered-inside : (rs : List Rect) (p : Pt) → AreRectsWithin farthest rs → Covers rs p → Inside farthest p
covered-inside rs p w h =
    let (r, r_in, has) = member-Covers rs p h in
    let within : IsRectWithin farthest r = w r r_in in
    let a = within.left in let b = within.low in let c = within.right in let d = within.high in
    let e = has.left in let f = has.right in let g = has.low in let i = has.high in
    (omega (arith, ints, a, c, e, f), omega (arith, ints, b, d, g, i), omega (arith, ints, a, c, e, f), omega (arith, ints, b, d, g, i))

-- slabs of squares of others lie where those lie
pub part-within : (rs slabs : List Rect) → AreRectsWithin farthest rs → IsCanonical slabs → ((p : Pt) → Covers slabs p → Covers rs p) → AreRectsWithin farthest slabs
part-within rs slabs w canonical inside =
    slabs-inside (Covers slabs) farthest slabs (λ p h. covered-inside rs p w (inside p h)) (record { canonical = canonical; covers = SameSquares-refl (Covers slabs) })
