-- Zones of features, put on a list.
use Rattle.std.proofs.Common.{◌≡◌, ℕ, ◌+◌, ◌<◌, ◌⊎◌, inl, inr, List, [], ◌∷◌, ◌++◌, length, get_or, sym, ap, ◌∙◌, subst, arith}
use Rattle.std.specs.Prelude.{◌↔◌}
use Rattle.std.specs.List.{Contains}
use Rattle.std.proofs.lemmas.Bool.{cases_eq}
use Rattle.std.proofs.lemmas.List.Elements.{Contains-append_left, Contains-push, Contains-push_cases}
use Rattle.dpl_spec_split.specs.declared.Spacing.{Spacing}
use Rattle.dpl_spec_split.specs.declared.Rect.{Rect}
use Rattle.dpl_spec_split.specs.declared.Zone.{Zone}
use Rattle.dpl_spec_split.specs.Squares.{Region, SameSquares}
use Rattle.dpl_spec_split.specs.Zones.{at, IsKeptZone, transposed}
use Rattle.dpl_zone.proofs.TransposedLaws.{zone-as}

abbrev pub FirstOf : List Rect → ℕ → Rect → Type 0
FirstOf zs n z = (i : ℕ) × (i < n) × (i < length zs) × (get_or zs i z ≡ z)

same_back : (a b : Region) → SameSquares a b → SameSquares b a
same_back a b s p = ((s p).1, (s p).0)

same_self : (a : Region) → SameSquares a a
same_self a p = (λ h. h, λ h. h)

pub kept-as : (spacing : Spacing) (overlap : ℕ) (l m f : Region) → SameSquares l m → (z : Rect) → IsKeptZone spacing overlap l f z → IsKeptZone spacing overlap m f z
kept-as spacing overlap l m f same z (inl h) = inl (zone-as spacing overlap l m f f same (same_self f) z h)
kept-as spacing overlap l m f same z (inr (v, free)) =
    inr (
      zone-as spacing overlap (transposed l) (transposed m) (transposed f) (transposed f) (λ p. same (at p.y p.x)) (same_self (transposed f)) _ v,
      λ g zone touch. free g (zone-as spacing overlap m l f f (same_back l m same) (same_self f) g zone) touch,
    )

pub same_zone : (z w : Zone) → z.rect ≡ w.rect → z.feature ≡ w.feature → z ≡ w
same_zone z w e f =
    let mk : Rect → ℕ → Zone = λ r k. record { rect = r; feature = k } in
    ap (λ r. mk r z.feature) e ∙ ap (λ k. mk w.rect k) f

pub first-more : (zs : List Rect) (i k : ℕ) (new : Zone) (base old : List Zone) → i < length zs → ((d : Rect) → get_or zs i d ≡ new.rect) → new.feature ≡ k
    → ((z : Zone) → Contains old z ↔ (Contains base z ⊎ ((z.feature ≡ k) × FirstOf zs i z.rect)))
    → (z : Zone) → Contains (old ++ new ∷ []) z ↔ (Contains base z ⊎ ((z.feature ≡ k) × FirstOf zs (i + 1) z.rect))
first-more zs i k new base old i_in is number h z = (
  λ a. elim (Contains-push_cases old new z a) [
    | inl b ↦ elim ((h z).0 b) [ inl c ↦ inl c | inr (e, (j, l, j_in, j_is)) ↦ inr (e, (j, omega (arith, l), j_in, j_is)) ]
    | inr e ↦ inr (subst (λ w. let v : Zone = w in (v.feature ≡ k) × FirstOf zs (i + 1) v.rect) e (number, (i, omega arith, i_in, is new.rect)))
  ],
  λ a. elim a [
    | inl b ↦ Contains-append_left old (new ∷ []) z ((h z).1 (inl b))
    | inr (e, (j, l, j_in, j_is)) ↦ elim (cases_eq j i) [
      | inl same ↦ (let rect_is : new.rect ≡ z.rect = sym (is z.rect) ∙ (ap (λ m. get_or zs m z.rect) (sym same) ∙ j_is) in
          subst (λ w. Contains (old ++ new ∷ []) w) (same_zone new z rect_is (number ∙ sym e)) (Contains-push old new))
      | inr ne ↦ Contains-append_left old (new ∷ []) z ((h z).1 (inr (e, (j, omega (arith, l, ne), j_in, j_is))))
    ]
  ],
)

pub first-none : (zs : List Rect) (k : ℕ) (base : List Zone) → (z : Zone) → Contains base z ↔ (Contains base z ⊎ ((z.feature ≡ k) × FirstOf zs 0 z.rect))
first-none zs k base z = (λ h. inl h, λ h. elim h [ inl a ↦ a | inr (e, (i, l, i_in, is)) ↦ absurd (omega (arith, l)) ])
