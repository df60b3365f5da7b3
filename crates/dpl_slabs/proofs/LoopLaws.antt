-- Edges of loops.
use Rattle.std.proofs.Common.{◌≡◌, ℕ, suc, ◌+◌, ◌-◌, ◌%◌, ◌≤◌, ◌<◌, ◌⊎◌, inl, inr, List, [], ◌∷◌, ◌++◌, length, get_or, refl, sym, ap, ◌∙◌, subst, arith, w32, w64, to_z, of_z}
use Rattle.std.specs.Prelude.{◌↔◌, Vec, Result, Ok, IfOk, ℤ, pos, negsuc, ◌+ℤ◌, ◌-ℤ◌, neg_ℤ, ◌≤ℤ◌, ◌<ℤ◌, unsigned_abs}
use Rattle.std.specs.Global.{Global}
use Rattle.std.specs.List.{Contains}
use Rattle.std.specs.List.Sorted.{IsPermutation}
use Rattle.std.proofs.Math.Nat.{mod-lt, mod-one}
use Rattle.std.proofs.lemmas.Int.{ints, by_lt_z}
use Rattle.std.proofs.lemmas.List.{get_or_append_left, get_or_at, get_or_default, length_push}
use Rattle.std.proofs.lemmas.List.Sorted.{Contains-permutation, IsPermutation-sym}
use Rattle.std.proofs.lemmas.List.Elements.{All-contains, Contains-append_left, Contains-push, Contains-push_cases, Contains-append_right, Contains-append_cases}
use Rattle.dpl_spec_split.specs.declared.Pt.{Pt}
use Rattle.dpl_spec_split.specs.declared.Rect.{Rect}
use Rattle.dpl_spec_split.specs.Squares.{Region, SameSquares, Covers, Has}
use Rattle.dpl_spec_split.specs.Slabs.{IsSolid, AreSlabsOf}
use Rattle.dpl_spec_split.proofs.Ordered.{Contains-head, Contains-later, Contains-nil}
use Rattle.dpl_spec_split.proofs.SlabLaws.{Covers-member, member-Covers}
use Rattle.dpl_sweep.specs.declared.edge.Edge.{Edge}
use Rattle.dpl_sweep.specs.declared.edge.Rule.{Rule}
use Rattle.dpl_sweep.specs.declared.edge.Rule.TheVariants.{Either}
use Rattle.dpl_sweep.specs.Edges.{Told, part, sum_left, change_a, change_b}
use Rattle.dpl_sweep.specs.Passes.{IsClosed, IsUnitEdge}
use Rattle.dpl_sweep.proofs.EdgeLaws.{none-told, sum_left-push, part-before, part-off}
use Rattle.dpl_spec_split.specs.Loops.{farthest, step, steps, winding, LoopCovers, SomeLoopCovers, IsPointWithin, AreRectsWithin}
use Rattle.dpl_slabs.specs.Loops.{above, IsEdgeWithin, AreEdgesWithin, AddsStep, AreStepsOf, AreEdgesOf, AreRectsOf, SomeDealtCovers}
use Rattle.dpl_order.proofs.JoinLaws.{covers-same}
use Rattle.std.proofs.lemmas.Bool.{cases_eq}

-- a coordinate of a point within the bound is what it is in fewer bits
pub narrowed : (i : ℤ) → unsigned_abs i ≤ farthest → to_z w32 (of_z w32 (to_z w64 (of_z w64 i))) ≡ i
narrowed i small = omega (arith, ints)

-- an edge that goes up
part-up : (e : Edge) (p q s : Pt) → p.y <ℤ q.y → e.x ≡ p.x → e.y0 ≡ p.y → e.y1 ≡ q.y → e.a ≡ pos 1 → part change_a e s ≡ step p q s
part-up e p q s up x y0 y1 a = grind (arith, ints, up, x, y0, y1, a)

part-down : (e : Edge) (p q s : Pt) → q.y <ℤ p.y → e.x ≡ p.x → e.y0 ≡ q.y → e.y1 ≡ p.y → e.a ≡ negsuc 0 → part change_a e s ≡ step p q s
part-down e p q s down x y0 y1 a = grind (arith, ints, down, x, y0, y1, a)

part-zero : (e : Edge) (s : Pt) → e.b ≡ pos 0 → part change_b e s ≡ pos 0
part-zero e s b = grind (arith, ints, b)

pub step-left : (p q s : Pt) → p.x ≤ℤ s.x → step p q s ≡ above s q.y -ℤ above s p.y
step-left p q s left =
    by_lt_z s.y p.y
    (λ a. by_lt_z s.y q.y (λ b. grind (arith, ints, left, a, b)) (λ b. grind (arith, ints, left, a, b)))
    (λ a. by_lt_z s.y q.y (λ b. grind (arith, ints, left, a, b)) (λ b. grind (arith, ints, left, a, b)))

pub step-level : (p q s : Pt) → p.y ≡ q.y → step p q s ≡ pos 0
step-level p q s e = by_lt_z s.y p.y (λ a. grind (arith, ints, a, e)) (λ a. grind (arith, ints, a, e))

adds-edge : (es : List Edge) (e : Edge) (p q : Pt) → ((s : Pt) → part change_a e s ≡ step p q s) → e.x ≡ p.x → e.b ≡ pos 0 → IsUnitEdge e
    → ((bound : ℕ) → IsPointWithin bound p → IsPointWithin bound q → IsEdgeWithin bound e) → AddsStep es (es ++ e ∷ []) p q
adds-edge es e p q sums x b unit fits =
    record {
      sums_a = λ s. (let h = sum_left-push change_a es e s in let k = sums s in omega (arith, ints, h, k));
      sums_b = λ s. (let h = sum_left-push change_b es e s in let k = part-zero e s b in omega (arith, ints, h, k));
      within = λ bound v w h f f_in. elim (Contains-push_cases es e f f_in) [ inl old ↦ h f old | inr same ↦ subst (IsEdgeWithin bound) same (fits bound v w) ];
      units = λ h f f_in. elim (Contains-push_cases es e f f_in) [ inl old ↦ h f old | inr same ↦ subst IsUnitEdge same unit ];
      keeps = λ f h. Contains-append_left es (e ∷ []) f h;
      level = λ s left. (let l = left e (Contains-push es e) in step-left p q s (omega (arith, ints, l, x)));
    }

pub adds-up : (es : List Edge) (e : Edge) (p q : Pt) → p.y <ℤ q.y → e.x ≡ p.x → e.y0 ≡ p.y → e.y1 ≡ q.y → e.a ≡ pos 1 → e.b ≡ pos 0 → AddsStep es (es ++ e ∷ []) p q
adds-up es e p q up x y0 y1 a b =
    adds-edge es e p q (λ s. part-up e p q s up x y0 y1 a) x b (record { a = omega (arith, ints, a); b = omega (arith, ints, b) })
    (λ bound v w. (let vx = v.column in let vy = v.row in let wy = w.row in
    record { column = omega (arith, ints, vx, x); low = omega (arith, ints, vy, y0); high = omega (arith, ints, wy, y1) }))

pub adds-down : (es : List Edge) (e : Edge) (p q : Pt) → q.y <ℤ p.y → e.x ≡ p.x → e.y0 ≡ q.y → e.y1 ≡ p.y → e.a ≡ negsuc 0 → e.b ≡ pos 0 → AddsStep es (es ++ e ∷ []) p q
adds-down es e p q down x y0 y1 a b =
    adds-edge es e p q (λ s. part-down e p q s down x y0 y1 a) x b (record { a = omega (arith, ints, a); b = omega (arith, ints, b) })
    (λ bound v w. (let vx = v.column in let vy = v.row in let wy = w.row in
    record { column = omega (arith, ints, vx, x); low = omega (arith, ints, wy, y0); high = omega (arith, ints, vy, y1) }))

pub steps-next : (ps : List Pt) (n m : ℕ) (es fs : List Edge) (p q : Pt) → m ≡ n + 1 → m < length ps → p ≡ get_or ps n p
    → q ≡ get_or ps m q → AreStepsOf ps n es → AddsStep es fs p q → AreStepsOf ps m fs
steps-next ps n m es fs p q m_is m_in p_is q_is h a =
    let one : m ≡ suc n = omega (arith, m_is) in
    let p_at : (s : Pt) → get_or ps n s ≡ p = λ s. get_or_default ps n s p (omega (arith, m_in, m_is)) ∙ sym p_is in
    let q_at : (s : Pt) → get_or ps (n + 1) s ≡ q = λ s. ap (λ k. get_or ps k s) (sym m_is) ∙ (get_or_default ps m s q m_in ∙ sym q_is) in
    let p_in : Contains ps p = (n, omega (arith, m_in, m_is), sym p_is) in
    let q_in : Contains ps q = (m, m_in, sym q_is) in
    let more : (s : Pt) → steps ps m s ≡ steps ps n s +ℤ step p q s = λ s. rw one (rw (p_at s, q_at s) refl) in
    record {
      sums_a = λ s. (let x = h.sums_a s in let y = a.sums_a s in let z = more s in omega (arith, ints, x, y, z));
      sums_b = λ s. (let x = h.sums_b s in let y = a.sums_b s in omega (arith, ints, x, y));
      within = λ bound w. a.within bound (w p p_in) (w q q_in) (h.within bound w);
      units = a.units h.units;
      level = λ s left. (
          let x = h.level s (λ e e_in. left e (a.keeps e e_in)) in
          let y = a.level s left in
          let z = more s in
          let u : above s (get_or ps n s).y ≡ above s p.y = ap (λ t. let v : Pt = t in above s v.y) (p_at s) in
          let v : above s (get_or ps m s).y ≡ above s q.y = ap (λ t. let v : Pt = t in above s v.y) (get_or_default ps m s q m_in ∙ sym q_is) in
          omega (arith, ints, x, y, z, u, v));
    }

pub edges-closed : (ps : List Pt) (n : ℕ) (es fs : List Edge) (p q : Pt) → n ≡ length ps - 1 → 0 < length ps → p ≡ get_or ps n p
    → q ≡ get_or ps 0 q → AreStepsOf ps n es → AddsStep es fs p q → AreEdgesOf ps fs
edges-closed ps n es fs p q n_is some p_is q_is h a =
    let p_at : (s : Pt) → get_or ps (length ps - 1) s ≡ p = λ s. ap (λ k. get_or ps k s) (sym n_is) ∙ (get_or_default ps n s p (omega (arith, n_is, some)) ∙ sym p_is) in
    let q_at : (s : Pt) → get_or ps 0 s ≡ q = λ s. get_or_default ps 0 s q some ∙ sym q_is in
    let p_in : Contains ps p = (n, omega (arith, n_is, some), sym p_is) in
    let q_in : Contains ps q = (0, some, sym q_is) in
    let more : (s : Pt) → winding ps s ≡ steps ps n s +ℤ step p q s = λ s. rw (p_at s, q_at s, n_is) refl in
    record {
      sums_a = λ s. (let x = h.sums_a s in let y = a.sums_a s in let z = more s in omega (arith, ints, x, y, z));
      sums_b = λ s. (let x = h.sums_b s in let y = a.sums_b s in omega (arith, ints, x, y));
      within = λ bound w. a.within bound (w p p_in) (w q q_in) (h.within bound w);
      units = a.units h.units;
      level = λ s left. (
          let x = h.level s (λ e e_in. left e (a.keeps e e_in)) in
          let y = a.level s left in
          let z = more s in
          let u : above s (get_or ps n s).y ≡ above s p.y = ap (λ t. let v : Pt = t in above s v.y) (get_or_default ps n s p (omega (arith, n_is, some)) ∙ sym p_is) in
          let v : above s (get_or ps 0 s).y ≡ above s q.y = ap (λ t. let v : Pt = t in above s v.y) (q_at s) in
          omega (arith, ints, x, y, z, u, v));
    }

pub loop-told : (ps : List Pt) (es : List Edge) → AreEdgesOf ps es → (s : Pt) → Told Either es s ↔ LoopCovers ps s
loop-told ps es h s =
    let a = h.sums_a s in
    let b = h.sums_b s in
    (λ k e. k (a ∙ e) b, λ k e f. k (sym a ∙ e))

pub loop-closed : (ps : List Pt) (es : List Edge) → AreEdgesOf ps es → IsClosed Either es
loop-closed ps es h p left told = told (h.sums_a p ∙ h.level p left) (h.sums_b p)

-- where no edge stands left of the square beside its row, the sum is 0
sum-none : (change : Edge → ℤ) (es : List Edge) (p : Pt) → ((e : Edge) → Contains es e → (p.x <ℤ e.x) ⊎ ((p.y <ℤ e.y0) ⊎ (e.y1 ≤ℤ p.y))) → sum_left change es p ≡ pos 0
sum-none change [] p none = refl
sum-none change (e ∷ es) p none =
    let h = sum-none change es p (λ f f_in. none f (Contains-later e f es f_in)) in
    let k : part change e p ≡ pos 0 = elim (none e (Contains-head e es)) [ inl l ↦ part-before change e p l | inr o ↦ part-off change e p o ] in
    omega (arith, ints, h, k)

abbrev pub Inside : ℕ → Pt → Type 0
Inside bound p = (unsigned_abs p.x ≤ bound) × (unsigned_abs p.y ≤ bound) × (unsigned_abs (p.x +ℤ pos 1) ≤ bound) × (unsigned_abs (p.y +ℤ pos 1) ≤ bound)

none-told-at : (rule : Rule) (es : List Edge) (p : Pt) → ((e : Edge) → Contains es e → (p.x <ℤ e.x) ⊎ ((p.y <ℤ e.y0) ⊎ (e.y1 ≤ℤ p.y))) → Told rule es p → ⊥
none-told-at rule es p none told = none-told rule _ _ (sum-none change_a es p none) (sum-none change_b es p none) told

pub told-inside : (rule : Rule) (bound : ℕ) (es : List Edge) (p : Pt) → AreEdgesWithin bound es → IsClosed rule es → Told rule es p → Inside bound p
told-inside rule bound es p w closed told =
    let left : neg_ℤ (pos bound) ≤ℤ p.x = by_lt_z p.x (neg_ℤ (pos bound))
    (λ l. absurd (none-told-at rule es p (λ e e_in. inl (let h = (w e e_in).column in omega (arith, ints, l, h))) told)) (λ m. m) in
    let right : p.x <ℤ pos bound = by_lt_z p.x (pos bound) (λ l. l) (λ m. absurd (closed p (λ e e_in. (let h = (w e e_in).column in omega (arith, ints, m, h))) told)) in
    let low : neg_ℤ (pos bound) ≤ℤ p.y = by_lt_z p.y (neg_ℤ (pos bound))
    (λ l. absurd (none-told-at rule es p (λ e e_in. inr (inl (let h = (w e e_in).low in omega (arith, ints, l, h)))) told)) (λ m. m) in
    let high : p.y <ℤ pos bound = by_lt_z p.y (pos bound) (λ l. l)
    (λ m. absurd (none-told-at rule es p (λ e e_in. inr (inr (let h = (w e e_in).high in omega (arith, ints, m, h)))) told)) in
    (omega (arith, ints, left, right), omega (arith, ints, low, high), omega (arith, ints, left, right), omega (arith, ints, low, high))

pub slabs-inside : (a : Pt → Type 0) (bound : ℕ) (slabs : List Rect) → ((p : Pt) → a p → Inside bound p) → AreSlabsOf a slabs → AreRectsWithin bound slabs
slabs-inside a bound slabs inside s r r_in =
    let solid : IsSolid r = All-contains IsSolid slabs r s.canonical.solid r_in in
    let wide = solid.wide in
    let tall = solid.tall in
    let low : Pt = record { x = r.x0; y = r.y0 } in
    let high : Pt = record { x = r.x1 -ℤ pos 1; y = r.y1 -ℤ pos 1 } in
    let (a0, a1, a2, a3) = inside low
    ((s.covers low).0 (Covers-member slabs r low r_in
    (record { left = omega (arith, ints); right = wide; low = omega (arith, ints); high = tall }))) in
    let (b0, b1, b2, b3) = inside high
    ((s.covers high).0 (Covers-member slabs r high r_in
    (record {
      left = omega (arith, ints, wide);
      right = omega (arith, ints);
      low = omega (arith, ints, tall);
      high = omega
          (arith, ints);
    }))) in
    record { left = a0; low = a1; right = omega (arith, ints, b2); high = omega (arith, ints, b3) }

pub covers-appended : (a : Pt → Type 0) (rs ss : List Rect) → SameSquares (Covers ss) a → (p : Pt) → Covers (rs ++ ss) p ↔ (Covers rs p ⊎ a p)
covers-appended a rs ss s p = (
  (λ h. let found = member-Covers (rs ++ ss) p h in
      elim (Contains-append_cases rs ss found.0 found.1) [
        | inl one ↦ inl (Covers-member rs found.0 p one found.2)
        | inr other ↦ inr ((s p).0 (Covers-member ss found.0 p other found.2))
      ]),
  λ h. elim h [
    | inl one ↦ (let found = member-Covers rs p one in Covers-member (rs ++ ss) found.0 p (Contains-append_left rs ss found.0 found.1) found.2)
    | inr other ↦ (let found = member-Covers ss p ((s p).1 other) in Covers-member (rs ++ ss) found.0 p (Contains-append_right rs ss found.0 found.1) found.2)
  ],
)

pub covers-pushed : (a : Pt → Type 0) (rs : List Rect) (r : Rect) → ((p : Pt) → Has r p ↔ a p) → (p : Pt) → Covers (rs ++ r ∷ []) p ↔ (Covers rs p ⊎ a p)
covers-pushed a rs r same p = (
  (λ h. let found = member-Covers (rs ++ r ∷ []) p h in
      elim (Contains-push_cases rs r found.0 found.1) [
        | inl one ↦ inl (Covers-member rs found.0 p one found.2)
        | inr other ↦ inr ((same p).0 (subst (λ t. Has t p) (sym other) found.2))
      ]),
  λ h. elim h [
    | inl one ↦ (let found = member-Covers rs p one in Covers-member (rs ++ r ∷ []) found.0 p (Contains-append_left rs (r ∷ []) found.0 found.1) found.2)
    | inr other ↦ Covers-member (rs ++ r ∷ []) r p (Contains-push rs r) ((same p).1 other)
  ],
)

pub rects-appended : (bound : ℕ) (rs ss : List Rect) → AreRectsWithin bound rs → AreRectsWithin bound ss → AreRectsWithin bound (rs ++ ss)
rects-appended bound rs ss v w r r_in = elim (Contains-append_cases rs ss r r_in) [ inl one ↦ v r one | inr other ↦ w r other ]

-- rectangles, and others behind them
pub rects-beside : (a b c : Region) (rs ss : List Rect) → ((p : Pt) → c p ↔ (a p ⊎ b p)) → AreRectsOf a rs → AreRectsOf b ss → AreRectsOf c (rs ++ ss)
rects-beside a b c rs ss either g h = record {
  covers = λ p. (
    (λ k. (either p).1 (elim ((covers-appended b rs ss h.covers p).0 k) [ inl one ↦ inl ((g.covers p).0 one) | inr other ↦ inr other ])),
    λ k. (covers-appended b rs ss h.covers p).1 (elim ((either p).0 k) [ inl one ↦ inl ((g.covers p).1 one) | inr other ↦ inr other ]),
  );
  within = rects-appended farthest rs ss g.within h.within;
}

pub rects-like : (a b : Region) (rs : List Rect) → ((p : Pt) → a p ↔ b p) → AreRectsOf a rs → AreRectsOf b rs
rects-like a b rs same h = record {
  covers = λ p. (λ c. (same p).0 ((h.covers p).0 c), λ c. (h.covers p).1 ((same p).1 c));
  within = h.within;
}

pub rects-permuted : (a : Region) (rs ss : List Rect) → IsPermutation rs ss → AreRectsOf a rs → AreRectsOf a ss
rects-permuted a rs ss same h = record {
  covers = λ p. (λ c. (h.covers p).0 ((covers-same rs ss same p).1 c), λ c. (covers-same rs ss same p).0 ((h.covers p).1 c));
  within = λ r r_in. h.within r (Contains-permutation ss rs r (IsPermutation-sym rs ss same) r_in);
}

-- rectangles and those of loops, in any order
pub shapes-all : (loops : List (List Pt)) (rects others all : List Rect) → AreRectsWithin farthest rects → AreRectsOf (SomeLoopCovers loops) others
    → IsPermutation (rects ++ others) all → AreRectsOf (λ p. Covers rects p ⊎ SomeLoopCovers loops p) all
shapes-all loops rects others all within h same =
    rects-permuted _ (rects ++ others) all same
    (rects-beside (Covers rects) (SomeLoopCovers loops) (λ p. Covers rects p ⊎ SomeLoopCovers loops p) rects others (λ p. (λ c. c, λ c. c))
    (record { covers = λ p. (λ c. c, λ c. c); within = within }) h)

no-rects : (a : Region) → ((p : Pt) → a p → ⊥) → AreRectsOf a []
no-rects a none = record {
  covers = λ p. (λ c. (let found = member-Covers [] p c in absurd (Contains-nil found.0 found.1)), λ h. absurd (none p h));
  within = λ r r_in. absurd (Contains-nil r r_in);
}

-- the loops of one worker
module _ (ls : List (List Pt)) (worker workers : ℕ) where
  pub dealt-none : AreRectsOf (SomeDealtCovers ls worker workers 0) []
  dealt-none = no-rects _ (λ p h. (let (k, ps, below, own, k_in, is, has) = h in omega (arith, below)))

  pub dealt-more : (n : ℕ) (l : List Pt) (rs slabs : List Rect) → n < length ls → l ≡ get_or ls n l → n % workers ≡ worker
      → AreRectsOf (SomeDealtCovers ls worker workers n) rs → AreSlabsOf (LoopCovers l) slabs → AreRectsWithin farthest slabs
      → AreRectsOf (SomeDealtCovers ls worker workers (n + 1)) (rs ++ slabs)
  dealt-more n l rs slabs n_in l_is own h s within =
      rects-beside (SomeDealtCovers ls worker workers n) (LoopCovers l) (SomeDealtCovers ls worker workers (n + 1)) rs slabs
      (λ p. (
        (λ (k, ps, below, mine, k_in, is, has). elim (cases_eq k n) [
          | inl e ↦ inr (subst (λ v. LoopCovers v p) (sym is ∙ (ap (λ q. get_or ls q ps) e ∙ (get_or_default ls n ps l n_in ∙ sym l_is))) has)
          | inr ne ↦ inl (k, ps, omega (arith, below, ne), mine, k_in, is, has)
        ]),
        λ h. elim h [
          | inl (k, ps, below, mine, k_in, is, has) ↦ (k, ps, omega (arith, below), mine, k_in, is, has)
          | inr has ↦ (n, l, omega arith, own, n_in, sym l_is, has)
        ],
      )) h (record { covers = s.covers; within = within })

  -- a loop that is dealt to another
  pub dealt-past : (n : ℕ) (rs : List Rect) → (n % workers ≡ worker → ⊥) → AreRectsOf (SomeDealtCovers ls worker workers n) rs
      → AreRectsOf (SomeDealtCovers ls worker workers (n + 1)) rs
  dealt-past n rs other = rects-like (SomeDealtCovers ls worker workers n) (SomeDealtCovers ls worker workers (n + 1)) rs (λ p. (
    λ (k, ps, below, mine, k_in, is, has). (k, ps, omega (arith, below), mine, k_in, is, has),
    λ (k, ps, below, mine, k_in, is, has). elim (cases_eq k n) [
      | inl e ↦ absurd (other (subst (λ q. q % workers ≡ worker) e mine))
      | inr ne ↦ (k, ps, omega (arith, below, ne), mine, k_in, is, has)
    ],
  ))

  pub dealt-all : (n : ℕ) (rs : List Rect) → length ls ≤ n → AreRectsOf (SomeDealtCovers ls worker workers n) rs
      → AreRectsOf (SomeDealtCovers ls worker workers (length ls)) rs
  dealt-all n rs all = rects-like (SomeDealtCovers ls worker workers n) (SomeDealtCovers ls worker workers (length ls)) rs (λ p. (
    λ (k, ps, below, mine, k_in, is, has). (k, ps, k_in, mine, k_in, is, has),
    λ (k, ps, below, mine, k_in, is, has). (k, ps, omega (arith, below, all), mine, k_in, is, has),
  ))

-- one worker has all loops
pub dealt-alone : (ls : List (List Pt)) (rs : List Rect) → AreRectsOf (SomeDealtCovers ls 0 1 (length ls)) rs → AreRectsOf (SomeLoopCovers ls) rs
dealt-alone ls rs = rects-like (SomeDealtCovers ls 0 1 (length ls)) (SomeLoopCovers ls) rs (λ p. (
  λ (k, ps, below, mine, k_in, is, has). (k, ps, k_in, is, has),
  λ (k, ps, k_in, is, has). (k, ps, k_in, mod-one k, k_in, is, has),
))

-- a loop that was dealt to one of the last workers, from number n on, has the square
abbrev pub SomeLastCovers : List (List Pt) → ℕ → ℕ → Region
SomeLastCovers ls workers n p = (k : ℕ) × (ps : List Pt) × (n ≤ k % workers) × (k < length ls) × (get_or ls k ps ≡ ps) × LoopCovers ps p

module _ {E : Type 0} (ls : List (List Pt)) (workers : ℕ) where
  -- each worker gave the rectangles of its loops, where it wasn't out of memory
  abbrev pub AreDealt : List (Result (Vec Rect Global) E) → Type 0
  AreDealt lists = (k : ℕ) (d : Result (Vec Rect Global) E) → k < length lists → IfOk (get_or lists k d) (λ v. AreRectsOf (SomeDealtCovers ls k workers (length ls)) v.items)

  -- the rectangles of the last workers are put together, those of the first ones are left
  pub record ArePut (left : List (Result (Vec Rect Global) E)) (rs : List Rect) : Type 0 where
    pub dealt : AreDealt left
    pub put : AreRectsOf (SomeLastCovers ls workers (length left)) rs

  pub put-none : (lists : List (Result (Vec Rect Global) E)) → length lists ≡ workers → 1 ≤ workers → AreDealt lists → ArePut lists []
  put-none lists len some dealt = record {
    dealt = dealt;
    put = no-rects _ (λ p h. (let (k, ps, last, k_in, is, has) = h in let m = mod-lt k {m = workers} (omega (arith, some)) in omega (arith, last, m, len)));
  }

  own-rects : (left : List (Result (Vec Rect Global) E)) (last : Result (Vec Rect Global) E) (v : Vec Rect Global) → last ≡ Ok v → AreDealt (left ++ last ∷ [])
      → AreRectsOf (SomeDealtCovers ls (length left) workers (length ls)) v.items
  own-rects left last v ok dealt = subst (λ r. IfOk r (λ w. AreRectsOf (SomeDealtCovers ls (length left) workers (length ls)) w.items))
      (get_or_at left last [] last (length left) refl ∙ ok)
      (dealt (length left) last (let e = length_push left last in omega (arith, e)))

  pub put-more : (lists left : List (Result (Vec Rect Global) E)) (last : Result (Vec Rect Global) E) (v : Vec Rect Global) (old new : List Rect)
      → lists ≡ left ++ last ∷ [] → last ≡ Ok v → IsPermutation (old ++ v.items) new → ArePut lists old → ArePut left new
  put-more lists left last v old new is ok same h =
      let size : length lists ≡ length left + 1 = ap length is ∙ length_push left last in
      let own = own-rects left last v ok (subst AreDealt is h.dealt) in
      record {
        dealt = λ k d l. subst (λ r. IfOk r (λ w. AreRectsOf (SomeDealtCovers ls k workers (length ls)) w.items))
            (ap (λ xs. get_or xs k d) is ∙ get_or_append_left left (last ∷ []) d k l) (h.dealt k d (omega (arith, l, size)));
        put = rects-permuted (SomeLastCovers ls workers (length left)) (old ++ v.items) new same
            (rects-beside (SomeLastCovers ls workers (length lists)) (SomeDealtCovers ls (length left) workers (length ls)) (SomeLastCovers ls workers (length left)) old v.items (λ p. (
              (λ (k, ps, last, k_in, loop_is, has). elim (cases_eq (k % workers) (length left)) [
                | inl e ↦ inr (k, ps, k_in, e, k_in, loop_is, has)
                | inr ne ↦ inl (k, ps, omega (arith, last, ne, size), k_in, loop_is, has)
              ]),
              λ c. elim c [
                | inl (k, ps, last, k_in, loop_is, has) ↦ (k, ps, omega (arith, last, size), k_in, loop_is, has)
                | inr (k, ps, below, mine, k_in, loop_is, has) ↦ (k, ps, omega (arith, mine), k_in, loop_is, has)
              ],
            )) h.put own);
      }

  pub put-all : (left : List (Result (Vec Rect Global) E)) (rs : List Rect) → length left ≡ 0 → ArePut left rs → AreRectsOf (SomeLoopCovers ls) rs
  put-all left rs none h = rects-like (SomeLastCovers ls workers (length left)) (SomeLoopCovers ls) rs (λ p. (
    λ (k, ps, last, k_in, is, has). (k, ps, k_in, is, has),
    λ (k, ps, k_in, is, has). (k, ps, omega (arith, none), k_in, is, has),
  )) h.put
