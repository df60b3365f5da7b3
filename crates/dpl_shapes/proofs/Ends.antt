-- The rectangles of a path, from what the code found of it.
use Rattle.std.proofs.Common.{◌≡◌, ℕ, ◌≤◌, ◌^◌, inl, inr, Bool, true, false, List, [], ◌∷◌, refl, sym, ap, ◌∙◌, subst, arith, to_z, of_z, w16, w64, eq-eqb}
use Rattle.std.specs.Prelude.{ℤ, pos, ◌≤ℤ◌, ◌<ℤ◌, unsigned_abs, if◌then◌else◌}
use Rattle.std.specs.List.{Contains}
use Rattle.std.proofs.lemmas.Int.{ints, by_lt_z}
use Rattle.std.proofs.lemmas.Bool.{cases_eq}
use lib.Dec.{eqb}
use mir.Val.{SFits}
use Rattle.dpl_spec_split.specs.declared.Pt.{Pt}
use Rattle.dpl_spec_split.specs.declared.Rect.{Rect}
use Rattle.dpl_spec_split.proofs.Ordered.{Contains-nil, Contains-cases}
use Rattle.dpl_spec_elements.specs.declared.Heading.TheVariants.{East, North, West, South}
use Rattle.dpl_spec_elements.specs.declared.Segment.{Segment}
use Rattle.dpl_spec_elements.specs.Paths.{PathElement, path_of, IsFaultless, same, heading, bar_to, bar, bars, segments_from, half_of, past_end, square_round, rects_through, path_rects, distinct}
use Rattle.dpl_spec_elements.specs.declared.PathFault.TheVariants.{NegativeExtension}
use Rattle.dpl_shapes.specs.declared.bars.Margins.{Margins}
use Rattle.dpl_shapes.specs.Strokes.{drawn_points, rects_along}
use Rattle.dpl_shapes.specs.Types.{HasNegativeEnd}
use Rattle.dpl_shapes.proofs.Corners.{IsProper}
use Rattle.dpl_shapes.proofs.Members.{Contains-distinct}

same-no : (a b : ℤ) → (a ≡ b → ⊥) → same a b ≡ false
same-no a b apart = by_lt_z a b (λ l. grind (arith, ints, l)) (λ m. by_lt_z b a (λ l. grind (arith, ints, l)) (λ n. absurd (apart (omega (arith, ints, m, n)))))

pub past-within : (kind half ext : ℤ) (bound : ℕ) → unsigned_abs half ≤ bound → unsigned_abs ext ≤ bound → unsigned_abs (past_end kind half ext) ≤ bound
past-within kind half ext bound h e =
    elim (same kind (pos 2)) as (λ b. unsigned_abs (if b then half else (if same kind (pos 4) then ext else pos 0)) ≤ bound) [
      | true ↦ h
      | false ↦ elim (same kind (pos 4)) as (λ b. unsigned_abs (if b then ext else pos 0) ≤ bound) [ true ↦ e | false ↦ omega (arith, ints) ]
    ]

same-yes : (a b : ℤ) → same a b ≡ true → a ≡ b
same-yes a b h = by_lt_z a b (λ l. absurd (grind (arith, ints, l, h))) (λ m. by_lt_z b a (λ l. absurd (grind (arith, ints, l, h))) (λ n. omega (arith, ints, m, n)))

-- an extension that counts isn't negative
past-forward : (kind half ext : ℤ) → pos 0 ≤ℤ half → (kind ≡ pos 4 → pos 0 ≤ℤ ext) → pos 0 ≤ℤ past_end kind half ext
past-forward kind half ext h e =
    elim (same kind (pos 2)) as (λ b. pos 0 ≤ℤ (if b then half else (if same kind (pos 4) then ext else pos 0))) [
      | true ↦ h
      | false ↦ four (same kind (pos 4)) refl
    ]
  where
    four : (b : Bool) → same kind (pos 4) ≡ b → pos 0 ≤ℤ (if b then ext else pos 0)
    four true is = e (same-yes kind (pos 4) is)
    four false is = omega (arith, ints)

-- the rectangles stand the right way up
bar-proper : (half begin end : ℤ) (s : Segment) → pos 0 ≤ℤ half → pos 0 ≤ℤ begin → pos 0 ≤ℤ end → IsProper (bar half begin end s)
bar-proper half begin end s h b e =
    let p : Pt = s.from in
    let q : Pt = s.to in
    by_lt_z p.x q.x
    (λ east. let is : heading p q ≡ East = grind (arith, ints, east) in
    subst (λ w. IsProper (bar_to w half begin end s)) (sym is)
    (record { across = omega (arith, ints, east, b, e); up = omega (arith, ints, h) }))
    (λ not_east. by_lt_z q.x p.x
    (λ west. let is : heading p q ≡ West = grind (arith, ints, not_east, west) in
    subst (λ w. IsProper (bar_to w half begin end s)) (sym is)
    (record { across = omega (arith, ints, west, b, e); up = omega (arith, ints, h) }))
    (λ not_west. by_lt_z p.y q.y
    (λ north. let is : heading p q ≡ North = grind (arith, ints, not_east, not_west, north) in
    subst (λ w. IsProper (bar_to w half begin end s)) (sym is)
    (record { across = omega (arith, ints, h); up = omega (arith, ints, north, b, e) }))
    (λ south. let is : heading p q ≡ South = grind (arith, ints, not_east, not_west, south) in
    subst (λ w. IsProper (bar_to w half begin end s)) (sym is)
    (record { across = omega (arith, ints, h); up = omega (arith, ints, south, b, e) }))))

bars-proper : (half begin end : ℤ) (ss : List Segment) → pos 0 ≤ℤ half → pos 0 ≤ℤ begin → pos 0 ≤ℤ end → (r : Rect) → Contains (bars half begin end ss) r → IsProper r
bars-proper half begin end [] h b e r r_in = absurd (Contains-nil r r_in)
bars-proper half begin end (s ∷ []) h b e r r_in = elim (Contains-cases (bar half begin end s) r [] r_in) [
  | inl is ↦ subst IsProper is
      (bar-proper half begin end s h b e)
  | inr later ↦ absurd (Contains-nil r later)
]
bars-proper half begin end (s ∷ t ∷ ts) h b e r r_in = elim (Contains-cases (bar half begin half s) r (bars half half end (t ∷ ts)) r_in)
    [ inl is ↦ subst IsProper is (bar-proper half begin half s h b h) | inr later ↦ bars-proper half half end (t ∷ ts) h h e r later ]

square-proper : (half : ℤ) (p : Pt) → pos 0 ≤ℤ half → IsProper (square_round half p)
square-proper half p h = record { across = omega (arith, ints, h); up = omega (arith, ints, h) }

dot-proper : (b : Bool) (half : ℤ) (p : Pt) → pos 0 ≤ℤ half → (r : Rect) → Contains (if b then square_round half p ∷ [] else []) r → IsProper r
dot-proper true half p h r r_in = elim (Contains-cases (square_round half p) r [] r_in) [
  | inl is ↦ subst IsProper is
      (square-proper half p h)
  | inr later ↦ absurd (Contains-nil r later)
]
dot-proper false half p h r r_in = absurd (Contains-nil r r_in)

through-proper : (p : PathElement) (ps : List Pt) → (p.kind ≡ pos 4 → pos 0 ≤ℤ p.begin_ext) → (p.kind ≡ pos 4 → pos 0 ≤ℤ p.end_ext)
    → (r : Rect) → Contains (rects_through p ps) r → IsProper r
through-proper p [] b e r r_in = absurd (Contains-nil r r_in)
through-proper p (q ∷ []) b e r r_in = dot-proper (same p.kind (pos 2)) (half_of p) q (omega (arith, ints)) r r_in
through-proper p (q ∷ t ∷ ts) b e r r_in =
    let half : pos 0 ≤ℤ half_of p = omega (arith, ints) in
    bars-proper (half_of p) (past_end p.kind (half_of p) p.begin_ext) (past_end p.kind (half_of p) p.end_ext) (segments_from q t ts) half
    (past-forward p.kind (half_of p) p.begin_ext half b) (past-forward p.kind (half_of p) p.end_ext half e) r r_in

forward : (z : ℤ) → (z <ℤ pos 0 → ⊥) → pos 0 ≤ℤ z
forward z h = by_lt_z z (pos 0) (λ l. absurd (h l)) (λ m. m)

forward-proper : (p : PathElement) → (HasNegativeEnd p.kind p.begin_ext p.end_ext → ⊥) → (r : Rect) → Contains (path_rects p) r → IsProper r
forward-proper p fit r r_in =
    (elim (same p.width (pos 0)) as (λ b. Contains (if b then [] else rects_through p (distinct p.points)) r → IsProper r) [
      | true ↦ λ h. absurd (Contains-nil r h)
      | false ↦ λ h. through-proper p (distinct p.points) (λ four. forward p.begin_ext (λ l. fit (four, inl l))) (λ four. forward p.end_ext (λ l. fit (four, inr l))) r h
    ]) r_in

pub rects-proper : (p : PathElement) → IsFaultless p → (r : Rect) → Contains (path_rects p) r → IsProper r
rects-proper p (inl none) r r_in =
    absurd (Contains-nil r (subst (λ w. Contains (if same w (pos 0) then [] else rects_through p (distinct p.points)) r) none r_in))
rects-proper p (inr sound) r r_in = forward-proper p (sound NegativeExtension) r r_in

-- the rectangles that were drawn are the path's
along-through : (p : PathElement) (ps : List Pt) (m : Margins) (dot : Bool) → m.half ≡ half_of p
    → m.begin ≡ past_end p.kind (half_of p) p.begin_ext → m.end ≡ past_end p.kind (half_of p) p.end_ext → dot ≡ same p.kind (pos 2)
    → rects_along m dot ps ≡ rects_through p ps
along-through p [] m dot half begin end dot_is = refl
along-through p (q ∷ []) m dot half begin end dot_is = λ i. if dot_is i then square_round (half i) q ∷ [] else []
along-through p (q ∷ r ∷ rs) m dot half begin end dot_is = λ i. bars (half i) (begin i) (end i) (segments_from q r rs)

pub path-drawn : (p : PathElement) (ps : List Pt) (m : Margins) (dot : Bool) → ps ≡ drawn_points p → m.half ≡ half_of p
    → m.begin ≡ past_end p.kind (half_of p) p.begin_ext → m.end ≡ past_end p.kind (half_of p) p.end_ext
    → dot ≡ same p.kind (pos 2) → rects_along m dot ps ≡ path_rects p
path-drawn p ps m dot ps_is half begin end dot_is =
    along-through p ps m dot half begin end dot_is
    ∙ (ap (rects_through p) ps_is
    ∙ (elim (same p.width (pos 0)) as (λ b. rects_through p (if b then [] else distinct p.points) ≡ (if b then [] else rects_through p (distinct p.points))) [ true ↦ refl | false ↦ refl ]))

-- a path that has a width is drawn through all its points
pub drawn-all : (p : PathElement) → (p.width ≡ pos 0 → ⊥) → drawn_points p ≡ distinct p.points
drawn-all p drawn = ap (λ b. if b then [] else distinct p.points) (same-no p.width (pos 0) drawn)

pub Contains-drawn : (p : PathElement) (q : Pt) → Contains (drawn_points p) q → Contains p.points q
Contains-drawn p q h =
    (elim (same p.width (pos 0)) as (λ b. Contains (if b then [] else distinct p.points) q → Contains p.points q) [
      | true ↦ λ k. absurd (Contains-nil q k)
      | false ↦ λ k. Contains-distinct p.points q k
    ]) h

-- at equal numbers, as those that a call was passed
pub path-as : (ps : List Pt) (w k b e width kind begin_ext end_ext : ℤ) → w ≡ width → k ≡ kind → b ≡ begin_ext → e ≡ end_ext
    → path_of ps w k b e ≡ path_of ps width kind begin_ext end_ext
path-as ps w k b e width kind begin_ext end_ext w_is k_is b_is e_is = λ i. path_of ps (w_is i) (k_is i) (b_is i) (e_is i)

pub past-as : (k h e kind half ext : ℤ) → k ≡ kind → h ≡ half → e ≡ ext → past_end k h e ≡ past_end kind half ext
past-as k h e kind half ext k_is h_is e_is = λ i. past_end (k_is i) (h_is i) (e_is i)

pub past-small : (z past : ℤ) → z ≡ past → unsigned_abs past ≤ 2 ^ 31 → unsigned_abs (to_z w64 (of_z w64 z)) ≤ 2 ^ 31
past-small z past is small =
    let h : unsigned_abs z ≤ 2 ^ 31 = subst (λ n. unsigned_abs n ≤ 2 ^ 31) (sym is) small in
    omega (arith, ints, h)

pub kept : (z past : ℤ) → z ≡ past → unsigned_abs past ≤ 2 ^ 31 → to_z w64 (of_z w64 z) ≡ z
kept z past is small =
    let h : unsigned_abs z ≤ 2 ^ 31 = subst (λ n. unsigned_abs n ≤ 2 ^ 31) (sym is) small in
    omega (arith, ints, h)

-- the code's test of the path type
pub dot-is : (kind : ℤ) → SFits w16 kind → eqb (of_z w16 kind) 2 ≡ same kind (pos 2)
dot-is kind fits = elim (cases_eq (of_z w16 kind) 2) [
  | inl e ↦ (let two : kind ≡ pos 2 = omega (arith, ints, e) in eq-eqb (of_z w16 kind) 2 e ∙ sym (ap (λ k. same k (pos 2)) two))
  | inr n ↦ (let not_two : kind ≡ pos 2 → ⊥ = λ t. n (omega (arith, ints, t)) in grind (arith, n) ∙ sym (same-no kind (pos 2) not_two))
]
