-- Sets of squares by their slabs.
use Rattle.std.proofs.Common.{◌≡◌, ℕ, zero, suc, ◌<◌, ◌⊎◌, inl, inr, List, [], ◌∷◌, length, get_or, map, Option, Some, None, sym, refl, ap, ◌∙◌, subst, arith, rules}
use Rattle.std.specs.Prelude.{◌↔◌, IsNone, IfSome}
use Rattle.std.specs.List.{All, Any, Contains}
use Rattle.std.proofs.lemmas.Int.{ints, by_lt_z}
use Rattle.dpl_spec_split.specs.declared.Pt.{Pt}
use Rattle.dpl_spec_split.specs.declared.Rect.{Rect}
use Rattle.dpl_spec_split.specs.Squares.{Region, SameSquares, Covers, Has, IsLeast}
use Rattle.dpl_spec_split.specs.Slabs.{AreSlabsOf}
use Rattle.dpl_spec_split.specs.Loops.{farthest, AreRectsWithin, IsRectWithin}
use Rattle.dpl_spec_split.proofs.Ordered.{Contains-head, Contains-later, Contains-cases, Contains-nil}
use Rattle.dpl_spec_split.proofs.SlabLaws.{Covers-member, member-Covers}
use Rattle.dpl_cert.specs.declared.cert.StitchLine.{StitchLine}
use Rattle.dpl_cert.specs.Grammar.{IsStitch}
use Rattle.dpl_spec_split.specs.Components.{AreComponents}
use Rattle.dpl_spec_split.proofs.ComponentLaws.{components-unique}
use Rattle.dpl_cert.specs.declared.cert.Head.{Head}
use Rattle.dpl_spec_verdict.specs.Order.{HasSquare}
use Rattle.dpl_spec_verdict.specs.Masks.{CountDiffers, is_doubled, is_uncovered}
use Rattle.dpl_check.specs.Findings.{IsLeastOf, is_in_one, is_unlisted}

pub has_or_not : (r : Rect) (p : Pt) → Has r p ⊎ (Has r p → ⊥)
has_or_not r p =
    by_lt_z p.x r.x0 (λ l. inr (λ h. let k = h.left in omega (arith, ints, l, k)))
    (λ left. by_lt_z p.x r.x1
    (λ right. by_lt_z p.y r.y0 (λ l. inr (λ h. let k = h.low in omega (arith, ints, l, k)))
    (λ low. by_lt_z p.y r.y1
    (λ high. inl (record { left = left; right = right; low = low; high = high }))
    (λ l. inr (λ h. let k = h.high in omega (arith, ints, l, k)))))
    (λ l. inr (λ h. let k = h.right in omega (arith, ints, l, k))))

covered-rest : (r : Rect) (rs : List Rect) (p : Pt) → (Has r p → ⊥) → (Covers rs p → ⊥) → (k : ℕ) (s : Rect) → k < length (r ∷ rs) → get_or (r ∷ rs) k s ≡ s → Has s p → ⊥
covered-rest r rs p here later zero s l is has = here (subst (λ (v : Rect). Has v p) (sym is) has)
covered-rest r rs p here later (suc k) s l is has = later (k, s, omega (arith, l), is, has)

pub covered_or_not : (rs : List Rect) (p : Pt) → Covers rs p ⊎ (Covers rs p → ⊥)
covered_or_not [] p = inr (λ (k, w, l, is, has). omega (arith, l))
covered_or_not (r ∷ rs) p = elim (has_or_not r p) [
  | inl h ↦ inl (0, r, omega arith, refl, h)
  | inr here ↦ elim (covered_or_not rs p) [
    | inl (k, w, l, is, has) ↦ inl (suc k, w, omega (arith, l), is, has)
    | inr later ↦ inr (λ (k, w, l, is, has). covered-rest r rs p here later k w l is has)
  ]
]

-- the least square of a set, by its slabs
pub least-of : (a : Region) (s : List Rect) (o : Option Pt) → AreSlabsOf a s → (IsNone o ↔ (s ≡ [])) → IfSome o (λ p. IsLeast (Covers s) p) → IsLeastOf a o
least-of a s None are none some = λ (p, p_in).
    let empty : s ≡ [] = none.0 (search rules) in
    let found = member-Covers [] p (subst (λ t. Covers t p) empty ((are.covers p).1 p_in)) in
    Contains-nil found.0 found.1
least-of a s (Some p) are none least = record { inside = (are.covers p).0 least.inside; first = λ q q_in. least.first q ((are.covers q).1 q_in) }

-- what one set has and the other hasn't, put together
pub difference-are : (layer masks missing added all : List Rect) → AreSlabsOf (λ p. Covers layer p × ¬ Covers masks p) missing
    → AreSlabsOf (λ p. Covers masks p × ¬ Covers layer p) added → AreSlabsOf (λ p. Covers missing p ⊎ Covers added p) all → AreSlabsOf (is_in_one layer masks) all
difference-are layer masks missing added all l n s = record {
  canonical = s.canonical;
  covers = λ p. (
    λ h. elim ((s.covers p).0 h) [ inl one ↦ inl ((l.covers p).0 one) | inr one ↦ inr ((n.covers p).0 one) ],
    λ h. (s.covers p).1 (elim h [ inl one ↦ inl ((l.covers p).1 one) | inr one ↦ inr ((n.covers p).1 one) ]),
  );
}

pub uncovered-are : (layer a b masks all : List Rect) → AreSlabsOf (λ p. Covers a p ⊎ Covers b p) masks → AreSlabsOf (is_in_one layer masks) all
    → AreSlabsOf (is_uncovered layer a b) all
uncovered-are layer a b masks all m s = record {
  canonical = s.canonical;
  covers = λ p. (
    λ h. elim ((s.covers p).0 h) [
      | inl (in_layer, none) ↦ inl (in_layer, λ masked. none ((m.covers p).1 masked))
      | inr (masked, none) ↦ inr ((m.covers p).0 masked, none)
    ],
    λ h. (s.covers p).1 (elim h [
      | inl (in_layer, none) ↦ inl (in_layer, λ masked. none ((m.covers p).0 masked))
      | inr (masked, none) ↦ inr ((m.covers p).1 masked, none)
    ]),
  );
}

-- where the masks together are the layer no square is uncovered
pub none-uncovered : (layer a b masks : List Rect) → AreSlabsOf (λ p. Covers a p ⊎ Covers b p) masks
    → SameSquares (Covers layer) (Covers masks) → HasSquare (is_uncovered layer a b) → ⊥
none-uncovered layer a b masks m same (p, inl (in_layer, none)) = none ((m.covers p).0 ((same p).0 in_layer))
none-uncovered layer a b masks m same (p, inr (masked, none)) = none ((same p).1 ((m.covers p).1 masked))

abbrev pub rects_of_stitches : List StitchLine → List Rect
rects_of_stitches ss = map (λ s. let t : StitchLine = s in t.rect) ss

pub stitch-rect : (ss : List StitchLine) (s : StitchLine) → Contains ss s → Contains (rects_of_stitches ss) s.rect
stitch-rect [] s h = absurd (Contains-nil s h)
stitch-rect (t ∷ ss) s h = elim (Contains-cases t s ss h) [
  | inl e ↦ subst (λ u. let v : StitchLine = u in Contains (t.rect ∷ rects_of_stitches ss) v.rect) e (Contains-head t.rect (rects_of_stitches ss))
  | inr later ↦ Contains-later t.rect s.rect (rects_of_stitches ss) (stitch-rect ss s later)
]

rect-stitch : (ss : List StitchLine) (r : Rect) → Contains (rects_of_stitches ss) r → (s : StitchLine) × Contains ss s × (s.rect ≡ r)
rect-stitch [] r h = absurd (Contains-nil r h)
rect-stitch (t ∷ ss) r h = elim (Contains-cases t.rect r (rects_of_stitches ss) h) [
  | inl e ↦ (t, Contains-head t ss, e)
  | inr later ↦ (let (s, s_in, is) = rect-stitch ss r later in (s, Contains-later t s ss s_in, is))
]

-- a listed stitch's squares are among those of the rectangles
pub stitch-covered : (ss : List StitchLine) (s : StitchLine) (p : Pt) → Contains ss s → Has s.rect p → Covers (rects_of_stitches ss) p
stitch-covered ss s p s_in has = Covers-member (rects_of_stitches ss) s.rect p (stitch-rect ss s s_in) has

pub rects-any : (ss : List StitchLine) (p : Pt) → Covers (rects_of_stitches ss) p ↔ Any (λ s. let t : StitchLine = s in Has t.rect p) ss
rects-any ss p = (
  λ c. (let found = member-Covers (rects_of_stitches ss) p c in
      let (s, (k, k_in, is), same) = rect-stitch ss found.0 found.1 in
      (k, s, k_in, is, subst (λ (r : Rect). Has r p) (sym same) found.2)),
  λ (k, s, k_in, is, has). stitch-covered ss s p (k, k_in, is) has,
)

pub stitches-within : (ss : List StitchLine) → All IsStitch ss → AreRectsWithin farthest (rects_of_stitches ss)
stitches-within ss fit r r_in =
    let (s, (k, k_in, is), same) = rect-stitch ss r r_in in
    let f : IsStitch s = subst (λ u. IsStitch u) is (fit k s k_in) in
    let within : IsRectWithin farthest s.rect = record {
      left = omega (arith, ints, f.rect.x0.0, f.rect.x0.1);
      low = omega
          (arith, ints, f.rect.y0.0, f.rect.y0.1);
      right = omega (arith, ints, f.rect.x1.0, f.rect.x1.1);
      high = omega
          (arith, ints, f.rect.y1.0, f.rect.y1.1);
    } in
    subst (λ u. IsRectWithin farthest u) same within

-- an empty set has no square that isn't listed
pub unlisted-none : (both : List Rect) (ss : List StitchLine) → length both ≡ 0 → IsLeastOf (is_unlisted both ss) None
unlisted-none both ss none (p, ((k, r, k_in, is, has), out)) = omega (arith, k_in, none)

pub unlisted-are : (both left : List Rect) (ss : List StitchLine) → AreSlabsOf (λ p. Covers both p × ¬ Covers (rects_of_stitches ss) p) left → AreSlabsOf (is_unlisted both ss) left
unlisted-are both left ss s = record {
  canonical = s.canonical;
  covers = λ p. (
    λ h. (let (one, none) = (s.covers p).0 h in (one, λ listed. none ((rects-any ss p).1 listed))),
    λ (one, none). (s.covers p).1 (one, λ c. none ((rects-any ss p).0 c)),
  );
}

-- the least square of the same set
least-same : (a b : Region) (o : Option Pt) → SameSquares a b → IsLeastOf a o → IsLeastOf b o
least-same a b None same none = λ (p, p_in). none (p, (same p).1 p_in)
least-same a b (Some p) same least = record { inside = (same p).0 least.inside; first = λ q q_in. least.first q ((same q).1 q_in) }

-- the squares on both masks that no stitch lists are the doubled ones
pub least-doubled : (a b both : List Rect) (ss : List StitchLine) (o : Option Pt) → AreSlabsOf (λ p. Covers a p × Covers b p) both
    → IsLeastOf (is_unlisted both ss) o → IsLeastOf (is_doubled a b ss) o
least-doubled a b both ss o m least = least-same (is_unlisted both ss) (is_doubled a b ss) o (λ p. (
  λ (one, none). (let (in_a, in_b) = (m.covers p).0 one in (in_a, in_b, none)),
  λ (in_a, in_b, none). ((m.covers p).1 (in_a, in_b), none),
)) least

-- where no square is uncovered the masks lie in the layer
pub a-inside : (layer a b : List Rect) → (HasSquare (is_uncovered layer a b) → ⊥) → (p : Pt) → Covers a p → Covers layer p
a-inside layer a b none p in_a = elim (covered_or_not layer p) [ inl there ↦ there | inr missing ↦ absurd (none (p, inr (inl in_a, missing))) ]

pub b-inside : (layer a b : List Rect) → (HasSquare (is_uncovered layer a b) → ⊥) → (p : Pt) → Covers b p → Covers layer p
b-inside layer a b none p in_b = elim (covered_or_not layer p) [ inl there ↦ there | inr missing ↦ absurd (none (p, inr (inr in_b, missing))) ]

-- the layer has as many features as the certificate counts
pub count-kept : (layer : List Rect) (features items : List (List Rect)) (head : Head) → AreComponents (Covers layer) features
    → items ≡ features → length items ≡ head.features → CountDiffers layer head → ⊥
count-kept layer features items head are same is differs = differs (features, are, sym is ∙ ap (λ (t : List (List Rect)). length t) same)

pub count-differs : (layer : List Rect) (features items : List (List Rect)) (head : Head) → AreComponents (Covers layer) features
    → items ≡ features → (length items ≡ head.features → ⊥) → CountDiffers layer head
count-differs layer features items head are same other (found, found_are, is) =
    let one : features ≡ found = components-unique (Covers layer) features found are found_are in
    other (ap (λ (t : List (List Rect)). length t) same ∙ (ap (λ (t : List (List Rect)). length t) one ∙ sym is))
