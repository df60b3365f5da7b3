-- Parts noted for the zones that have a corner at their slabs' corners.
use Rattle.std.proofs.Common.{◌≡◌, ℕ, suc, ◌+◌, ◌<◌, ◌≤◌, ◌⊎◌, inl, inr, List, [], ◌∷◌, ◌++◌, length, get_or, take, true, false, refl, sym, ap, ◌∙◌, subst, arith}
use Rattle.std.specs.Prelude.{◌↔◌}
use Rattle.std.specs.List.{All, Contains}
use Rattle.std.specs.List.Sorted.{IsPartitionPoint}
use Rattle.std.specs.Ordering.{is_lt}
use Rattle.std.proofs.Math.ListN.{set}
use Rattle.std.proofs.Math.Seq.{take-suc}
use Rattle.std.proofs.lemmas.Bool.{cases_eq, cases_lt}
use Rattle.std.proofs.lemmas.List.{length-set, get_or-set_same, get_or-set_other, get_or_default, get_or_past, take-append-le, take_all}
use Rattle.std.proofs.lemmas.List.Elements.{All-contains, Contains-append_left, Contains-append_right, Contains-append_cases}
use Rattle.dpl_spec_split.specs.declared.Rect.{Rect}
use Rattle.dpl_spec_split.specs.declared.Zone.{Zone}
use Rattle.dpl_spec_split.proofs.Ordered.{Contains-head}
use Rattle.dpl_sides.specs.declared.corner.Corner.{Corner}
use Rattle.dpl_sides.specs.declared.corner.Kind.{Kind}
use Rattle.dpl_sides.specs.declared.corner.Kind.TheVariants.{LowerLeft, LowerRight, UpperLeft}
use Rattle.dpl_sides.specs.Corners.{corner_at, corner_of, row_cmp, IsCornerWithin, RiseByCorner}
use Rattle.dpl_sides.specs.Noted.{IsZoneCorner, IsNoted, AreNoted, AreSidesNoted}
use Rattle.dpl_sides.specs.Pieces.{rect_at}
use Rattle.dpl_sides.proofs.CornerLaws.{none-elsewhere, only-one, renumber}

-- from place first up to place i, the corners at c's point had c's number noted for their zones
pub record IsRunNoted (c : Corner) (corners : List Corner) (first i : ℕ) (old new : List ℕ) : Type 0 where
  pub each : length new ≡ length old
  pub noted : (j n : ℕ) → j < length old → (Contains corners (corner_at c.x c.y j) × (c.number ≡ get_or new j n))
      ⊎ (((k : ℕ) (d : Corner) → first ≤ k → k < i → get_or corners k d ≡ corner_at c.x c.y j → ⊥) × (get_or new j n ≡ get_or old j n))

module _ (c : Corner) (corners : List Corner) (first : ℕ) where
  pub run-next : (i : ℕ) (d : Corner) (old mid new : List ℕ) → i < length corners → d ≡ get_or corners i d → d.x ≡ c.x → d.y ≡ c.y
      → new ≡ set mid d.number c.number → IsRunNoted c corners first i old mid → IsRunNoted c corners first (i + 1) old new
  run-next i d old mid new i_in d_is at_x at_y new_is h =
      record {
        each = ap length new_is ∙ (length-set mid d.number c.number ∙ h.each);
        noted = λ j n j_in. elim (cases_eq j d.number) [
          | inl e ↦ (
              let own : d.number < length mid = omega (arith, e, j_in, h.each) in
              let part : get_or new j n ≡ c.number = ap (λ l. get_or l j n) new_is ∙ (ap (λ k. get_or (set mid d.number c.number) k n) e
              ∙ get_or-set_same mid d.number c.number n own) in
              let here : d ≡ corner_at c.x c.y j = ap (λ t. corner_at t d.y d.number) at_x ∙ (ap (λ t. corner_at c.x t d.number) at_y ∙ ap (λ t. corner_at c.x c.y t) (sym e)) in
              inl ((i, i_in, get_or_default corners i (corner_at c.x c.y j) d i_in ∙ (sym d_is ∙ here)), sym part))
          | inr other ↦ (
              let kept : get_or new j n ≡ get_or mid j n = ap (λ l. get_or l j n) new_is ∙ get_or-set_other mid d.number j c.number n other in
              elim (h.noted j n j_in) [
                | inl (at, is) ↦ inl (at, is ∙ sym kept)
                | inr (none, same) ↦ inr (
                  λ k e a b is. elim (cases_eq k i) [
                    | inl m ↦ other (ap (λ t. let u : Corner = t in u.number) (sym is ∙ (ap (λ q. get_or corners q e) m ∙ (get_or_default corners i e d i_in ∙ sym d_is))))
                    | inr ne ↦ none k e a (omega (arith, b, ne)) is
                  ],
                  kept ∙ same,
                )
              ])
        ];
      }

  pub run-done : (i : ℕ) (old new : List ℕ) → RiseByCorner corners → IsPartitionPoint (λ d. is_lt (row_cmp (d.y, d.x) (c.y, c.x)) ≡ true)
      (λ d. is_lt (row_cmp (d.y, d.x) (c.y, c.x)) ≡ false) corners first → first ≤ i → IsRunNoted c corners first i old new
      → (i < length corners → (d : Corner) → (get_or corners i d).x ≡ c.x → (get_or corners i d).y ≡ c.y → ⊥) → AreNoted (c ∷ []) corners old new
  run-done i old new rise parted l h stop =
      let none-other : (j k : ℕ) → k < length corners → ((k < first) ⊎ (i ≤ k)) → get_or corners k (corner_at c.x c.y j) ≡ corner_at c.x c.y j → ⊥ =
      (λ j k k_in where_k is. none-elsewhere corners rise c.x c.y first i k (corner_at c.x c.y j) parted l k_in
      (λ i_in. stop i_in (corner_at c.x c.y j)) where_k (ap (λ t. let u : Corner = t in u.x) is) (ap (λ t. let u : Corner = t in
      u.y) is)) in
      record {
        each = h.each;
        noted = λ j n j_in. elim (h.noted j n j_in) [
          | inl (at, is) ↦ inl (c, Contains-head c [], at, is)
          | inr (none, same) ↦ inr (
            λ d d_in at. (
                let (k, k_in, is) : Contains corners (corner_at c.x c.y j) = subst (λ t. let u : Corner = t in
                Contains corners (corner_at u.x u.y j)) (sym (only-one c d d_in)) at in
                elim (cases_lt k first) [
                  | inl before ↦ none-other j k k_in (inl before) is
                  | inr from ↦ elim (cases_lt k i) [ inl inside ↦ none k _ from inside is | inr after ↦ none-other j k k_in (inr after) is ]
                ]),
            same,
          )
        ];
      }

noted-both_one : (cs ds corners : List Corner) (i old mid new : ℕ) → IsNoted cs corners i old mid → IsNoted ds corners i mid new → IsNoted (cs ++ ds) corners i old new
noted-both_one cs ds corners i old mid new a (inl (c, c_in, at, is)) = inl (c, Contains-append_right cs ds c c_in, at, is)
noted-both_one cs ds corners i old mid new (inl (c, c_in, at, is)) (inr (none, same)) = inl (c, Contains-append_left cs ds c c_in, at, is ∙ sym same)
noted-both_one cs ds corners i old mid new (inr (before, kept)) (inr (none, same)) = inr
    (λ c h. elim (Contains-append_cases cs ds c h) [ inl l ↦ before c l | inr r ↦ none c r ], same ∙ kept)

-- some corners, and then some more
pub noted-both : (cs ds corners : List Corner) (old mid new : List ℕ) → AreNoted cs corners old mid → AreNoted ds corners mid new → AreNoted (cs ++ ds) corners old new
noted-both cs ds corners old mid new a b =
    record {
      each = b.each ∙ a.each;
      noted = λ i n i_in. noted-both_one cs ds corners i (get_or old i n) (get_or mid i n) (get_or new i n)
          (a.noted i n i_in) (b.noted i n (subst (λ m. i < m) (sym a.each) i_in));
    }

-- one more corner
pub noted-next : (found corners : List Corner) (n : ℕ) (c : Corner) (old mid new : List ℕ) → n < length found → c ≡ get_or found n c
    → AreNoted (take n found) corners old mid → AreNoted (c ∷ []) corners mid new → AreNoted (take (n + 1) found) corners old new
noted-next found corners n c old mid new n_in c_is a b =
    let one : n + 1 ≡ suc n = omega arith in
    let step : take (n + 1) found ≡ take n found ++ c ∷ [] = ap (λ k. take k found) one ∙ (take-suc found n c n_in ∙ ap (λ s. take n found ++ s ∷ []) (sym c_is)) in
    rw step (noted-both (take n found) (c ∷ []) corners old mid new a b)

renumbered : (kind : Kind) (i k : ℕ) (r : Rect) → corner_of kind i r ≡ corner_at (corner_of kind k r).x (corner_of kind k r).y i
renumbered LowerLeft i k r = refl
renumbered LowerRight i k r = refl
renumbered UpperLeft i k r = refl

module _ (zones : List Zone) (own : List ℕ) (parts : List (List Rect)) (from : ℕ) where
  abbrev pub At : Kind → Corner → Type 0
  At kind c = IsCornerWithin kind parts from (length parts) c

  module _ (mine theirs : Kind) (found corners : List Corner) (old new : List ℕ) (members : (c : Corner) → Contains corners c ↔ IsZoneCorner mine zones own c)
      (all : (c : Corner) → Contains found c ↔ At theirs c) (h : AreNoted found corners old new) where
    -- what was noted for one of these zones by one of its corners
    own-noted : (j : ℕ) → j < length old → Contains own j → At theirs (corner_of mine (get_or new j 0) (rect_at zones j))
        ⊎ (((k : ℕ) → At theirs (corner_of mine k (rect_at zones j)) → ⊥) × (get_or new j 0 ≡ get_or old j 0))
    own-noted j j_in own_in =
        let r : Rect = rect_at zones j in
        elim (h.noted j 0 j_in) [
          | inl (c, c_in, here, is) ↦ (
              let point : corner_of mine (get_or new j 0) r ≡ corner_at c.x c.y (get_or new j 0) = renumber mine j j (get_or new j 0) r c.x c.y ((members _).0 here).1 in
              let same : c ≡ corner_of mine (get_or new j 0) r = ap (corner_at c.x c.y) is ∙ sym point in
              inl (subst (At theirs) same ((all c).0 c_in)))
          | inr (none, same) ↦ inr (
            λ k stands. none (corner_of mine k r) ((all _).1 stands) ((members _).1 (own_in, renumbered mine j k r)),
            same,
          )
        ]

    -- nothing was noted for any other
    other-noted : (j : ℕ) → ¬ Contains own j → get_or new j 0 ≡ get_or old j 0
    other-noted j none = elim (cases_lt j (length old)) [
      | inl j_in ↦ elim (h.noted j 0 j_in) [
        | inl (c, c_in, here, is) ↦ absurd (none ((members _).0 here).0)
        | inr (free, same) ↦ same
      ]
      | inr past ↦ get_or_past new j 0 (omega (arith, past, h.each)) ∙ sym (get_or_past old j 0 past)
    ]

  -- by two corners of each of these zones a part that stands beside it was noted, where there is one
  pub sides-noted : (mine-1 theirs-1 mine-2 theirs-2 : Kind) (found-1 found-2 corners-1 corners-2 : List Corner) (old mid new : List ℕ)
      → ((c : Corner) → Contains corners-1 c ↔ IsZoneCorner mine-1 zones own c) → ((c : Corner) → Contains corners-2 c ↔ IsZoneCorner mine-2 zones own c)
      → ((c : Corner) → Contains found-1 c ↔ At theirs-1 c) → ((c : Corner) → Contains found-2 c ↔ At theirs-2 c) → All (λ j. j < length old) own
      → AreNoted found-1 corners-1 old mid → AreNoted found-2 corners-2 mid new
      → AreSidesNoted (λ z k. At theirs-1 (corner_of mine-1 k z.rect) ⊎ At theirs-2 (corner_of mine-2 k z.rect)) zones own old new
  sides-noted mine-1 theirs-1 mine-2 theirs-2 found-1 found-2 corners-1 corners-2 old mid new members-1 members-2 all-1 all-2 known a b =
      record {
        each = b.each ∙ a.each;
        noted = λ j own_in k stands. (
            let j_in : j < length old = All-contains (λ i. i < length old) own j known own_in in
            elim (own-noted mine-2 theirs-2 found-2 corners-2 mid new members-2 all-2 b j (omega (arith, j_in, a.each)) own_in) [
              | inl h ↦ inr h
              | inr (none-2, same) ↦ elim (own-noted mine-1 theirs-1 found-1 corners-1 old mid members-1 all-1 a j j_in own_in) [
                | inl h ↦ inl (subst (λ m. At theirs-1 (corner_of mine-1 m (rect_at zones j))) (sym same) h)
                | inr (none-1, kept) ↦ absurd (elim stands [ inl s ↦ none-1 k s | inr s ↦ none-2 k s ])
              ]
            ]);
        kept = λ j none. other-noted mine-2 theirs-2 found-2 corners-2 mid new members-2 all-2 b j none
            ∙ other-noted mine-1 theirs-1 found-1 corners-1 old mid members-1 all-1 a j none;
      }

-- what was written through a slice of the whole list
pub written-back : {A : Type 0} (ys zs : List A) (n : ℕ) → length ys ≡ n → take n (ys ++ zs) ≡ ys
written-back ys zs n each = take-append-le n ys zs (omega (arith, each)) ∙ take_all n ys (omega (arith, each))
