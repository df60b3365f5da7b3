-- Whether squares lie in sets, and what is kept where nothing is broken, can be told.
use Rattle.std.proofs.Common.{◌≡◌, ℕ, zero, suc, ◌<◌, ◌⊎◌, inl, inr, List, [], ◌∷◌, length, get_or, sym, refl, ◌∙◌, subst, arith}
use Rattle.std.specs.Prelude.{◌↔◌}
use Rattle.std.specs.List.{Any}
use Rattle.std.proofs.lemmas.Int.{ints, by_lt_z}
use Rattle.std.proofs.lemmas.Bool.{cases_lt}
use Rattle.std.proofs.lemmas.List.{get_or_default, get_or_past}
use Rattle.dpl_spec_split.proofs.SpacingLaws.{near-or_far}
use Rattle.dpl_spec_split.specs.declared.Spacing.{Spacing}
use Rattle.dpl_spec_split.specs.declared.Pt.{Pt}
use Rattle.dpl_spec_split.specs.declared.Rect.{Rect}
use Rattle.dpl_spec_split.specs.Squares.{Covers, Has}
use Rattle.dpl_spec_split.specs.Zones.{part_at}
use Rattle.dpl_cert.specs.declared.cert.PieceLine.{PieceLine}
use Rattle.dpl_cert.specs.declared.cert.StitchLine.{StitchLine}
use Rattle.dpl_spec_verdict.specs.declared.Verdict.{Verdict}
use Rattle.dpl_spec_verdict.specs.Order.{FirstOf, HasBad, HasSquare}
use Rattle.dpl_spec_verdict.specs.Masks.{IsTight, IsBadStitch, is_doubled, is_uncovered}
use Rattle.dpl_law_verdict.specs.Valid.{StandsApart}

-- what isn't shown isn't broken
pub unbroken : (broken : Type 0) (shows rest : Verdict → Type 0) (v : Verdict) → (shows v → ⊥) → FirstOf broken shows rest v → (broken → ⊥) × rest v
unbroken broken shows rest v never (inl (b, s)) = absurd (never s)
unbroken broken shows rest v never (inr (n, r)) = (n, r)

pub has_or_not : (r : Rect) (p : Pt) → Has r p ⊎ (Has r p → ⊥)
has_or_not r p =
    by_lt_z p.x r.x0 (λ l. inr (λ h. let k = h.left in omega (arith, ints, l, k)))
    (λ left. by_lt_z p.x r.x1
    (λ right. by_lt_z p.y r.y0 (λ l. inr (λ h. let k = h.low in omega (arith, ints, l, k)))
    (λ low. by_lt_z p.y r.y1
    (λ high. inl (record { left = left; right = right; low = low; high = high }))
    (λ l. inr (λ h. let k = h.high in omega (arith, ints, l, k)))))
    (λ l. inr (λ h. let k = h.right in omega (arith, ints, l, k))))

any-rest : {X : Type 0} (P : X → Type 0) (x : X) (xs : List X) → (P x → ⊥) → (Any P xs → ⊥) → (k : ℕ) (y : X) → k < length (x ∷ xs) → get_or (x ∷ xs) k y ≡ y → P y → ⊥
any-rest P x xs here later zero y l is has = here (subst (λ v. P v) (sym is) has)
any-rest P x xs here later (suc k) y l is has = later (k, y, omega (arith, l), is, has)

-- some item has the property, or none
pub any_or_not : {X : Type 0} (P : X → Type 0) (dec : (x : X) → P x ⊎ (P x → ⊥)) (xs : List X) → Any P xs ⊎ (Any P xs → ⊥)
any_or_not P dec [] = inr (λ (k, w, l, is, has). omega (arith, l))
any_or_not P dec (x ∷ xs) = elim (dec x) [
  | inl h ↦ inl (0, x, omega arith, refl, h)
  | inr here ↦ elim (any_or_not P dec xs) [
    | inl (k, w, l, is, has) ↦ inl (suc k, w, omega (arith, l), is, has)
    | inr later ↦ inr (λ (k, w, l, is, has). any-rest P x xs here later k w l is has)
  ]
]

pub covered_or_not : (rs : List Rect) (p : Pt) → Covers rs p ⊎ (Covers rs p → ⊥)
covered_or_not rs p = any_or_not (λ (r : Rect). Has r p) (λ (r : Rect). has_or_not r p) rs

nothing : (p : Pt) → Covers [] p → ⊥
nothing p (k, r, l, is, has) = omega (arith, l)

pub part-known : (parts : List (List Rect)) (k : ℕ) (p : Pt) → part_at parts k p → k < length parts
part-known parts k p has = elim (cases_lt k (length parts)) [
  | inl l ↦ l
  | inr past ↦ absurd (nothing p (subst (λ (s : List Rect). Covers s p) (get_or_past parts k [] past) has))
]

pub stands-apart : (spacing : Spacing) (layer mask : List Rect) → ((p : Pt) → Covers mask p → Covers layer p) → (IsTight spacing layer mask → ⊥) → StandsApart spacing layer mask
stands-apart spacing layer mask inside loose p q in_p in_q apart = elim (near-or_far spacing p q) [
  | inr far ↦ far
  | inl close ↦ absurd (loose (p, q, record { first = in_p; second = in_q; of_layer = (inside p in_p, inside q in_q); apart = apart; close = close }))
]

pub cover-kept : (layer a b : List Rect) → (HasSquare (is_uncovered layer a b) → ⊥) → (p : Pt) → (Covers a p ⊎ Covers b p) ↔ Covers layer p
cover-kept layer a b none p = (
  λ masked. elim (covered_or_not layer p) [ inl there ↦ there | inr missing ↦ absurd (none (p, inr (masked, missing))) ],
  λ there. elim (covered_or_not a p) [
    | inl in_a ↦ inl in_a
    | inr not_a ↦ elim (covered_or_not b p) [
      | inl in_b ↦ inr in_b
      | inr not_b ↦ absurd (none (p, inl (there, λ masked. elim masked [ inl in_a ↦ not_a in_a | inr in_b ↦ not_b in_b ])))
    ]
  ],
)

stitch-has : (stitches : List StitchLine) (k : ℕ) (s : StitchLine) (p : Pt) (d : StitchLine) → k < length stitches
    → get_or stitches k s ≡ s → Has s.rect p → Has (get_or stitches k d).rect p
stitch-has stitches k s p d k_in is has = subst (λ u. let t : StitchLine = u in Has t.rect p) (sym is ∙ get_or_default stitches k s d k_in) has

pub overlap-kept : (overlap : ℕ) (a b : List Rect) (pieces : List PieceLine) (stitches : List StitchLine)
    → (HasSquare (is_doubled a b stitches) → ⊥) → (HasBad (IsBadStitch overlap a b pieces) stitches → ⊥)
    → (p : Pt) → (Covers a p × Covers b p) ↔ Any (λ s. let t : StitchLine = s in Has t.rect p) stitches
overlap-kept overlap a b pieces stitches none right p = (
  λ (in_a, in_b). elim (any_or_not (λ s. let t : StitchLine = s in Has t.rect p) (λ s. has_or_not s.rect p) stitches) [
    | inl there ↦ there
    | inr missing ↦ absurd (none (p, (in_a, in_b, missing)))
  ],
  λ (k, s, k_in, is, has). (
    elim (covered_or_not a p) [ inl in_a ↦ in_a | inr never ↦ absurd (right (k, k_in, λ d good. never ((good.on_both p (stitch-has stitches k s p d k_in is has)).0))) ],
    elim (covered_or_not b p) [ inl in_b ↦ in_b | inr never ↦ absurd (right (k, k_in, λ d good. never ((good.on_both p (stitch-has stitches k s p d k_in is has)).1))) ],
  ),
)
