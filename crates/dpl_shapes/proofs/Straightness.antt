-- Going over the segments of a list of points.
use Rattle.std.proofs.Common.{◌≡◌, ℕ, ⊎_elim, ◌+◌, ◌-◌, ◌≤◌, ◌<◌, Bool, true, false, List, length, get_or, sym, ap, ◌∙◌, arith}
use Rattle.std.specs.Prelude.{MatchBool}
use Rattle.std.proofs.lemmas.Bool.{cases_lt}
use Rattle.std.proofs.lemmas.List.{get_or_default}
use Rattle.dpl_spec_split.specs.declared.Pt.{Pt}
use Rattle.dpl_spec_split.specs.Loops.{IsLevelOrUpright, IsRectilinear}
use Rattle.dpl_spec_elements.specs.declared.Heading.{Heading}
use Rattle.dpl_spec_elements.specs.Paths.{heading, back, HasTurnBack, HasSlant}
use Rattle.dpl_shapes.specs.Straight.{IsStraightBelow, GoesOnBelow}

-- the element at an index, whatever the default
at-index : (ps : List Pt) (i j : ℕ) (p d : Pt) → i ≡ j → j < length ps → p ≡ get_or ps j p → get_or ps i d ≡ p
at-index ps i j p d e within is = ap (λ k. get_or ps k d) e ∙ (get_or_default ps j d p within ∙ sym is)

pub turn-found : (ps : List Pt) (i : ℕ) (d1 d2 d3 d4 : Pt) (x y : Heading) → 2 ≤ i → i < length ps
    → x ≡ heading (get_or ps (i - 2) d1) (get_or ps (i - 1) d2) → y ≡ heading (get_or ps (i - 1) d3) (get_or ps i d4) → y ≡ back x
    → HasTurnBack ps
turn-found ps i d1 d2 d3 d4 x y from within x_is y_is turned =
    let p : Pt = get_or ps (i - 2) d1 in
    let q : Pt = get_or ps (i - 1) d2 in
    let r : Pt = get_or ps i d4 in
    let k : ℕ = i - 2 in
    let p_is : get_or ps k p ≡ p = get_or_default ps k p d1 (omega (arith, within)) in
    let q_is : get_or ps (k + 1) q ≡ q = at-index ps (k + 1) (i - 1) q q (omega (arith, from)) (omega (arith, within)) (get_or_default ps (i - 1) d2 q (omega (arith, within))) in
    let r_is : get_or ps (k + 2) r ≡ r = at-index ps (k + 2) i r r (omega (arith, from)) within (get_or_default ps i d4 r within) in
    let same : get_or ps (i - 1) d3 ≡ q = get_or_default ps (i - 1) d3 d2 (omega (arith, within)) in
    (k, p, q, r, omega (arith, within, from), p_is, q_is, r_is, ap (λ s. heading s r) (sym same) ∙ (sym y_is ∙ (turned ∙ ap back x_is)))

pub not-rectilinear : (ps : List Pt) → HasSlant ps → IsRectilinear ps → ⊥
not-rectilinear ps s r =
    let edge : IsLevelOrUpright (get_or ps s.0 s.1) (get_or ps (s.0 + 1) s.1) = r.between s.0 s.1 (omega (arith, s.3)) in
    s.6 (rw (s.4, get_or_default ps (s.0 + 1) s.1 s.2 s.3 ∙ s.5) at edge)

-- the closing edge decides
pub rectilinear-by : (ps : List Pt) (is : Bool) (d e : Pt) → 0 < length ps → IsStraightBelow ps (length ps)
    → MatchBool is (IsLevelOrUpright (get_or ps (length ps - 1) d) (get_or ps 0 e)) (IsLevelOrUpright (get_or ps (length ps - 1) d) (get_or ps 0 e) → ⊥)
    → MatchBool is (IsRectilinear ps) (IsRectilinear ps → ⊥)
rectilinear-by ps true d e some straight here = record {
  between = λ k x h. straight k x (omega (arith, h, some));
  closing = λ x. rw (get_or_default ps (length ps - 1) x d (omega (arith, some)), get_or_default ps 0 x e some) here;
}
rectilinear-by ps false d e some straight slanted = λ r.
    (let edge : IsLevelOrUpright (get_or ps (length ps - 1) d) (get_or ps 0 d) = r.closing d in slanted (rw (get_or_default ps 0 d e some) at edge))

-- one more segment goes on
pub goes-more : (ps : List Pt) (i : ℕ) (d1 d2 d3 d4 : Pt) (x y : Heading) → 2 ≤ i → i < length ps
    → x ≡ heading (get_or ps (i - 2) d1) (get_or ps (i - 1) d2) → y ≡ heading (get_or ps (i - 1) d3) (get_or ps i d4) → (y ≡ back x → ⊥)
    → GoesOnBelow ps i → GoesOnBelow ps (i + 1)
goes-more ps i d1 d2 d3 d4 x y from within x_is y_is on before k d h turned =
    ⊎_elim (λ (l : k + 2 < i). before k d l turned)
    (λ (l : i ≤ k + 2).
    let e : k ≡ i - 2 = omega (arith, h, l, from) in
    let f : k + 1 ≡ i - 1 = omega (arith, h, l, from) in
    let g : k + 2 ≡ i = omega (arith, h, l) in
    let p : get_or ps k d ≡ get_or ps (i - 2) d1 = ap (λ n. get_or ps n d) e ∙ get_or_default ps (i - 2) d d1 (omega (arith, within)) in
    let q : get_or ps (k + 1) d ≡ get_or ps (i - 1) d2 = ap (λ n. get_or ps n d) f ∙ get_or_default ps (i - 1) d d2 (omega (arith, within)) in
    let r : get_or ps (k + 1) d ≡ get_or ps (i - 1) d3 = ap (λ n. get_or ps n d) f ∙ get_or_default ps (i - 1) d d3 (omega (arith, within)) in
    let s : get_or ps (k + 2) d ≡ get_or ps i d4 = ap (λ n. get_or ps n d) g ∙ get_or_default ps i d d4 within in
    on (cc (p, q, r, s, x_is, y_is, turned)))
    (cases_lt (k + 2) i)
