-- The points in the data of XY, and whether the edges between them are parallel to an axis.
use Rattle.std.proofs.Common.{◌≡◌, ℕ, zero, suc, ◌+◌, ◌-◌, ◌<◌, ◌≤◌, ◌/◌, ⊎_elim, Bool, true, false, List, ◌∷◌, [], length, get_or, sym, ap, ◌∙◌, arith, length-append}
use Rattle.std.specs.Prelude.{MatchBool}
use Rattle.std.proofs.lemmas.Bool.{cases_lt}
use Rattle.std.proofs.lemmas.List.{get_or_append_left, get_or_push}
use Rattle.dpl_spec_split.specs.declared.Pt.{Pt}
use Rattle.dpl_spec_split.specs.Loops.{IsLevelOrUpright, IsRectilinear}
use Rattle.dpl_spec_elements.specs.Boundaries.{IsSlanted}
use Rattle.dpl_shapes.specs.Straight.{IsStraightBelow}
use Rattle.dpl_spec_layout.specs.Elements.{point_in, first_points, points_in}

first_length : (xy : List ℕ) (n : ℕ) → length (first_points xy n) ≡ n
first_length xy zero = omega arith
first_length xy (suc n) = let h = first_length xy n in let l = length-append (first_points xy n) (point_in xy n ∷ []) in omega (arith, h, l)

first_at : (xy : List ℕ) (n k : ℕ) (d : Pt) → k < n → get_or (first_points xy n) k d ≡ point_in xy k
first_at xy zero k d h = absurd (omega (arith, h))
first_at xy (suc n) k d h =
    let e = first_length xy n in
    ⊎_elim (λ (l : k < n). get_or_append_left (first_points xy n) (point_in xy n ∷ []) d k (omega (arith, l, e)) ∙ first_at xy n k d l)
    (λ (l : n ≤ k). let same : n ≡ k = omega (arith, h, l) in
    get_or_push (first_points xy n) (point_in xy n) d k (e ∙ same) ∙ ap (point_in xy) same)
    (cases_lt k n)

points_length : (xy : List ℕ) → length (points_in xy) ≡ length xy / 8
points_length xy = first_length xy (length xy / 8)

point_of : (xy : List ℕ) (k : ℕ) (d : Pt) → k < length xy / 8 → get_or (points_in xy) k d ≡ point_in xy k
point_of xy k d h = first_at xy (length xy / 8) k d h

-- ---- going over the edges

pub straight_more : (xy : List ℕ) (i : ℕ) (p q : Pt) → 1 ≤ i → i < length xy / 8 → p ≡ point_in xy (i - 1) → q ≡ point_in xy i
    → IsStraightBelow (points_in xy) i → IsLevelOrUpright p q → IsStraightBelow (points_in xy) (i + 1)
straight_more xy i p q low high a b so_far here k d h =
    ⊎_elim (λ (l : k + 1 < i). so_far k d l)
    (λ (l : i ≤ k + 1).
    let e : k ≡ i - 1 = omega (arith, h, l, low) in
    let f : k + 1 ≡ i = omega (arith, h, l) in
    let x : get_or (points_in xy) k d ≡ p = point_of xy k d (omega (arith, f, high)) ∙ (ap (point_in xy) e ∙ sym a) in
    let y : get_or (points_in xy) (k + 1) d ≡ q = point_of xy (k + 1) d (omega (arith, f, high)) ∙ (ap (point_in xy) f ∙ sym b) in
    rw (x, y) here)
    (cases_lt (k + 1) i)

pub slanted_at : (xy : List ℕ) (i : ℕ) (p q : Pt) → 1 ≤ i → i < length xy / 8 → p ≡ point_in xy (i - 1) → q ≡ point_in xy i
    → (IsLevelOrUpright p q → ⊥) → IsSlanted (points_in xy)
slanted_at xy i p q low high a b slanted r =
    let n = points_length xy in
    let e : i - 1 + 1 ≡ i = omega (arith, low) in
    let x : get_or (points_in xy) (i - 1) p ≡ p = point_of xy (i - 1) p (omega (arith, high)) ∙ sym a in
    let y : get_or (points_in xy) (i - 1 + 1) p ≡ q = point_of xy (i - 1 + 1) p (omega (arith, e, high)) ∙ (ap (point_in xy) e ∙ sym b) in
    let edge : IsLevelOrUpright (get_or (points_in xy) (i - 1) p) (get_or (points_in xy) (i - 1 + 1) p) = r.between (i - 1) p (omega (arith, low, high, n)) in
    slanted (rw (x, y) at edge)

last_point : (xy : List ℕ) (p d : Pt) → 0 < length xy / 8 → p ≡ point_in xy (length xy / 8 - 1) → get_or (points_in xy) (length (points_in xy) - 1) d ≡ p
last_point xy p d some a = ap (λ (n : ℕ). get_or (points_in xy) (n - 1) d) (points_length xy) ∙ (point_of xy (length xy / 8 - 1) d (omega (arith, some)) ∙ sym a)

first_point : (xy : List ℕ) (q d : Pt) → 0 < length xy / 8 → q ≡ point_in xy 0 → get_or (points_in xy) 0 d ≡ q
first_point xy q d some b = point_of xy 0 d some ∙ sym b

pub closed : (xy : List ℕ) (is : Bool) (p q : Pt) → 0 < length xy / 8 → p ≡ point_in xy (length xy / 8 - 1) → q ≡ point_in xy 0
    → IsStraightBelow (points_in xy) (length xy / 8) → MatchBool is (IsLevelOrUpright p q) (IsLevelOrUpright p q → ⊥)
    → MatchBool is (IsRectilinear (points_in xy)) (IsSlanted (points_in xy))
closed xy true p q some a b so_far here = let n = points_length xy in record {
  between = λ k d h. so_far k d (omega (arith, n, h));
  closing = λ d. rw (last_point xy p d some a, first_point xy q d some b) here;
}
closed xy false p q some a b so_far slanted = λ r.
    (let edge : IsLevelOrUpright (get_or (points_in xy) (length (points_in xy) - 1) p) (get_or (points_in xy) 0 p) = r.closing p in
    slanted (rw (last_point xy p p some a, first_point xy q p some b) at edge))
