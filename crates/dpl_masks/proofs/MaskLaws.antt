-- Patches that are added piece by piece and zone by zone, and stitches that are found one by one.
use Rattle.std.proofs.Common.{◌≡◌, ◌∙◌, ◌<◌, ◌+◌, ℕ, inl, inr, Bool, false, true, List, [], ◌∷◌, ◌++◌, length, get_or, ap, sym, subst, arith}
use Rattle.std.specs.Prelude.{◌↔◌, ◌⊎◌}
use Rattle.std.specs.List.{Any, Contains}
use Rattle.std.proofs.lemmas.List.Elements.{Contains-append_cases, Contains-append_left, Contains-append_right, Contains-get_or, Contains-push_cases}
use Rattle.std.proofs.lemmas.List.{get_or_default}
use Rattle.std.proofs.lemmas.List.Quantifiers.{all_pairs_push}
use Rattle.std.proofs.lemmas.Bool.{cases_lt}
use Rattle.dpl_spec_split.specs.declared.Pt.{Pt}
use Rattle.dpl_spec_split.specs.declared.Rect.{Rect}
use Rattle.dpl_spec_split.specs.Squares.{Covers, Has, IsSolidWithin, Region}
use Rattle.dpl_spec_split.specs.Loops.{IsRectWithin, farthest}
use Rattle.dpl_spec_split.specs.Colours.{AreStitches, colour_at, differ}
use Rattle.dpl_spec_split.proofs.Ordered.{Contains-cases, Contains-head, Contains-nil}
use Rattle.dpl_masks.specs.declared.rest.Patch.{Patch}
use Rattle.dpl_masks.specs.Painting.{Adds, AreFirstStitches, ArePatchesWithin, Holds}

-- what some of a list and of what is put behind it have
pub any_append : {X : Type 0} (P : X → Type 0) (xs ys : List X) → Any P (xs ++ ys) ↔ (Any P xs ⊎ Any P ys)
any_append P xs ys = (
  λ h. let (k, x, l, e, has) = h in elim (Contains-append_cases xs ys x (k, l, e)) [ inl c ↦ inl (c.0, x, c.1, c.2, has) | inr c ↦ inr (c.0, x, c.1, c.2, has) ],
  λ h. elim h [
    | inl c ↦ let (k, x, l, e, has) = c in let i = Contains-append_left xs ys x (k, l, e) in (i.0, x, i.1, i.2, has)
    | inr c ↦ let (k, x, l, e, has) = c in let i = Contains-append_right xs ys x (k, l, e) in (i.0, x, i.1, i.2, has)
  ],
)

pub any_one : {X : Type 0} (P : X → Type 0) (x : X) → Any P (x ∷ []) ↔ P x
any_one P x = (
  λ h. let (k, y, l, e, has) = h in elim (Contains-cases x y [] (k, l, e)) [ inl same ↦ subst P (sym same) has | inr c ↦ absurd (Contains-nil y c) ],
  λ has. let c = Contains-head x [] in (c.0, x, c.1, c.2, has),
)

-- what some of a list have, with one more
pub any_push : {X : Type 0} (P : X → Type 0) (xs : List X) (x : X) → Any P (xs ++ x ∷ []) ↔ (Any P xs ⊎ P x)
any_push P xs x = (
  λ h. elim ((any_append P xs (x ∷ [])).0 h) [ inl c ↦ inl c | inr c ↦ inr ((any_one P x).0 c) ],
  λ h. (any_append P xs (x ∷ [])).1 (elim h [ inl c ↦ inl c | inr has ↦ inr ((any_one P x).1 has) ]),
)

pub adds_same : (old new : List Patch) (A B : ℕ → Region) → ((f : ℕ) (p : Pt) → A f p ↔ B f p) → Adds old new A → Adds old new B
adds_same old new A B same adds f p = (
  λ h. elim ((adds f p).0 h) [ inl o ↦ inl o | inr a ↦ inr ((same f p).0 a) ],
  λ h. elim h [ inl o ↦ (adds f p).1 (inl o) | inr b ↦ (adds f p).1 (inr ((same f p).1 b)) ],
)

-- one more patch
pub patch_added : (old new : List Patch) (t : Patch) → new ≡ old ++ t ∷ [] → Adds old new (λ f p. (t.feature ≡ f) × Has t.rect p)
patch_added old new t is f p = rw is (any_push (λ (s : Patch). (s.feature ≡ f) × Has s.rect p) old t)

pub zone_added : (P : Type 0) (old new : List Patch) (t : Patch) → P → new ≡ old ++ t ∷ [] → Adds old new (λ f p. P × (t.feature ≡ f) × Has t.rect p)
zone_added P old new t holds is = adds_same old new _ _ (λ f p. (λ a. (holds, a.0, a.1), λ h. (h.1, h.2))) (patch_added old new t is)

pub nothing_added : (old : List Patch) (Q : ℕ → Region) → ((f : ℕ) (p : Pt) → Q f p → ⊥) → Adds old old Q
nothing_added old Q none = λ f p. (λ h. inl h, λ h. elim h [ inl c ↦ c | inr q ↦ absurd (none f p q) ])

-- two steps of adding
pub adds_then : (old mid new : List Patch) (A B : ℕ → Region) → Adds old mid A → Adds mid new B → Adds old new (λ f p. A f p ⊎ B f p)
adds_then old mid new A B first second f p = (
  λ h. elim ((second f p).0 h) [ inl c ↦ elim ((first f p).0 c) [ inl o ↦ inl o | inr a ↦ inr (inl a) ] | inr b ↦ inr (inr b) ],
  λ h. elim h [
    | inl o ↦ (second f p).1 (inl ((first f p).1 (inl o)))
    | inr either ↦ elim either [ inl a ↦ (second f p).1 (inl ((first f p).1 (inr a))) | inr b ↦ (second f p).1 (inr b) ]
  ],
)

pub patches-more : (old new : List Patch) (t : Patch) → new ≡ old ++ t ∷ [] → ArePatchesWithin old → IsRectWithin farthest t.rect → ArePatchesWithin new
patches-more old new t is within one =
    rw is (λ (s : Patch) c. elim (Contains-push_cases old t s c) [ inl was ↦ within s was | inr same ↦ subst (λ (u : Patch). IsRectWithin farthest u.rect) same one ])

pub solid_within : (bound : ℕ) (r : Rect) → IsSolidWithin bound r → IsRectWithin bound r
solid_within bound r s = record { left = s.left; low = s.low; right = s.right; high = s.high }

split_at : (n k : ℕ) → k < n + 1 → (k < n) ⊎ (k ≡ n)
split_at n k h = elim (cases_lt k n) [ inl l ↦ inl l | inr g ↦ inr (omega (arith, g, h)) ]

same_element : {A : Type 0} (xs : List A) (n k : ℕ) (x d : A) → k ≡ n → get_or xs k x ≡ x → n < length xs → get_or xs n d ≡ x
same_element xs n k x d e is h = get_or_default xs n d x h ∙ (ap (λ (i : ℕ). get_or xs i x) (sym e) ∙ is)

pub one_stitch_more : (n : ℕ) (sides : List (ℕ × ℕ)) (colours : List Bool) (old new : List ℕ) (side : ℕ × ℕ) (d : Bool)
    → n < length sides → get_or sides n side ≡ side → d ≡ differ (colour_at colours side.0) (colour_at colours side.1) → AreFirstStitches n sides colours old
    → ((d ≡ true) × (new ≡ old ++ n ∷ [])) ⊎ ((d ≡ false) × (new ≡ old)) → AreFirstStitches (n + 1) sides colours new
one_stitch_more n sides colours old new side d s_in s_is d_is first (inl put) = subst (λ (v : List ℕ). AreFirstStitches (n + 1) sides colours v) (sym put.1) (record {
  ordered = all_pairs_push (λ (i j : ℕ). i < j) old n first.ordered (λ k e h. ((first.exactly (get_or old k e)).0 (Contains-get_or old k e h)).1);
  exactly = λ k. (
    λ c. elim (Contains-append_cases old (n ∷ []) k c) [
      | inl was ↦ let x = (first.exactly k).0 was in (x.0, omega (arith, x.1), x.2, x.3)
      | inr now ↦ elim (Contains-cases n k [] now) [
        | inl e ↦ (side, omega (arith, e), subst (λ (i : ℕ). get_or sides i side ≡ side) e s_is, sym d_is ∙ put.0)
        | inr none ↦ absurd (Contains-nil k none)
      ]
    ],
    λ x. elim (split_at n k x.1) [
      | inl l ↦ Contains-append_left old (n ∷ []) k ((first.exactly k).1 (x.0, l, x.2, x.3))
      | inr e ↦ Contains-append_right old (n ∷ []) k (subst (λ (i : ℕ). Contains (n ∷ []) i) (sym e) (Contains-head n []))
    ],
  );
})
one_stitch_more n sides colours old new side d s_in s_is d_is first (inr kept) = subst (λ (v : List ℕ). AreFirstStitches (n + 1) sides colours v) (sym kept.1) (record {
  ordered = first.ordered;
  exactly = λ k. (
    λ c. let x = (first.exactly k).0 c in (x.0, omega (arith, x.1), x.2, x.3),
    λ x. elim (split_at n k x.1) [
      | inl l ↦ (first.exactly k).1 (x.0, l, x.2, x.3)
      | inr e ↦
          let ends : side ≡ x.0 = sym s_is ∙ same_element sides n k x.0 side e x.2 s_in in
          let yes : d ≡ true = d_is ∙ subst (λ (s : ℕ × ℕ). differ (colour_at colours s.0) (colour_at colours s.1) ≡ true) (sym ends) x.3 in
          let clash : true ≡ false = sym yes ∙ kept.0 in cc
    ],
  );
})

pub are_stitches : (n : ℕ) (sides : List (ℕ × ℕ)) (colours : List Bool) (v : List ℕ) → n ≡ length sides → AreFirstStitches n sides colours v → AreStitches sides colours v
are_stitches n sides colours v e first =
    let all = subst (λ (m : ℕ). AreFirstStitches m sides colours v) e first in record { ordered = all.ordered; exactly = λ k. all.exactly k }

pub covers_none : (p : Pt) → Covers [] p → ⊥
covers_none p c = absurd (omega (arith, c.2))

pub holds_none : (f : ℕ) (p : Pt) → Holds [] f p → ⊥
holds_none f p c = absurd (omega (arith, c.2))
