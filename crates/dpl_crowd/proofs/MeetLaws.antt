-- Numbers that are put on a level.
use Rattle.std.proofs.Common.{◌≡◌, ◌∙◌, ℕ, ◌+◌, ◌<◌, ◌≤◌, ◌⊎◌, inl, inr, List, length, get_or, refl, sym, ap, subst, arith}
use Rattle.std.specs.Prelude.{◌↔◌}
use Rattle.std.specs.List.{Contains}
use Rattle.std.proofs.lemmas.Bool.{cases_eq}
use Rattle.std.proofs.lemmas.List.{get_or_default}
use Rattle.dpl_spec_split.specs.Graphs.{Graph}
use Rattle.dpl_crowd.specs.Walking.{IsBeside, Meets, nowhere}

pub meets-none : (Kind : ℕ → Type 0) (level : ℕ) (levels next : List ℕ) → level < nowhere → ((v : ℕ) → Kind v → ⊥) → Meets Kind level levels levels next next
meets-none Kind level levels next low none = record {
  as_many = refl;
  each = λ v. inl refl;
  met = λ v k l. absurd (none v k);
  next = λ v. (λ c. inl c, λ h. elim h [ inl c ↦ c | inr (i, o, n) ↦ absurd (omega (arith, o, n, low)) ]);
}

-- one kind after another
pub meets-then : (First Second Both : ℕ → Type 0) (level : ℕ) (a b c p q r : List ℕ) → level < nowhere → ((v : ℕ) → Both v ↔ (First v ⊎ Second v))
    → Meets First level a b p q → Meets Second level b c q r → Meets Both level a c p r
meets-then First Second Both level a b c p q r low both f s =
    let f_many = f.as_many in
    let s_many = s.as_many in
    record {
      as_many = s_many ∙ f_many;
      each = λ v. elim (s.each v) [
        | inl same ↦ elim (f.each v) [
          | inl before ↦ inl (same ∙ before)
          | inr (o, n, k, i) ↦ inr (o, same ∙ n, (both v).1 (inl k), i)
        ]
        | inr (o, n, k, i) ↦ elim (f.each v) [
          | inl before ↦ inr (sym before ∙ o, n, (both v).1 (inr k), omega (arith, i, f_many))
          | inr (older, newer, j, l) ↦ absurd (omega (arith, newer, o, low))
        ]
      ];
      met = λ v k v_in. elim ((both v).0 k) [
        | inl one ↦
            let m = f.met v one v_in in
            elim (s.each v) [ inl same ↦ omega (arith, same, m) | inr (o, n, j, i) ↦ omega (arith, n, low) ]
        | inr two ↦ s.met v two (omega (arith, v_in, f_many))
      ];
      next = λ v. (
        λ h. elim ((s.next v).0 h) [
          | inl g ↦ elim ((f.next v).0 g) [
            | inl e ↦ inl e
            | inr (i, o, n) ↦ elim (s.each v) [
              | inl same ↦ inr (i, o, same ∙ n)
              | inr (older, newer, k, l) ↦ inr (i, o, newer)
            ]
          ]
          | inr (i, o, n) ↦ elim (f.each v) [
            | inl same ↦ inr (omega (arith, i, f_many), sym same ∙ o, n)
            | inr (older, newer, k, l) ↦ absurd (omega (arith, newer, o, low))
          ]
        ],
        λ h. elim h [
          | inl e ↦ (s.next v).1 (inl ((f.next v).1 (inl e)))
          | inr (i, o, n) ↦ elim (f.each v) [
            | inl same ↦ (s.next v).1 (inr (omega (arith, i, f_many), same ∙ o, n))
            | inr (older, newer, k, l) ↦ (s.next v).1 (inl ((f.next v).1 (inr (i, o, newer))))
          ]
        ],
      );
    }

pub meets-as : (Kind Other : ℕ → Type 0) (level : ℕ) (a b p q : List ℕ) → ((v : ℕ) → Kind v ↔ Other v) → Meets Kind level a b p q → Meets Other level a b p q
meets-as Kind Other level a b p q same h = record {
  as_many = h.as_many;
  each = λ v. elim (h.each v) [ inl e ↦ inl e | inr (o, n, k, i) ↦ inr (o, n, (same v).0 k, i) ];
  met = λ v k i. h.met v ((same v).1 k) i;
  next = h.next;
}

-- of one of the first n numbers of a list
abbrev pub OfFirst : (ℕ → ℕ → Type 0) → List ℕ → ℕ → ℕ → Type 0
OfFirst Kind xs n v = (j : ℕ) × (j < n) × (j < length xs) × Kind (get_or xs j 0) v

abbrev pub IsSame : ℕ → ℕ → Type 0
IsSame u v = v ≡ u

pub first-none : (Kind : ℕ → ℕ → Type 0) (xs : List ℕ) (v : ℕ) → OfFirst Kind xs 0 v → ⊥
first-none Kind xs v (j, l, j_in, k) = omega (arith, l)

pub first-more : (Kind : ℕ → ℕ → Type 0) (xs : List ℕ) (n x : ℕ) → n < length xs → x ≡ get_or xs n x → (v : ℕ) → OfFirst Kind xs (n + 1) v ↔ (OfFirst Kind xs n v ⊎ Kind x v)
first-more Kind xs n x n_in is v =
    let at : get_or xs n 0 ≡ x = get_or_default xs n 0 x n_in ∙ sym is in (
      λ (j, l, j_in, k). elim (cases_eq j n) [
        | inl same ↦ inr (subst (λ u. Kind u v) (ap (λ i. get_or xs i 0) same ∙ at) k)
        | inr ne ↦ inl (j, omega (arith, l, ne), j_in, k)
      ],
      λ h. elim h [
        | inl (j, l, j_in, k) ↦ (j, omega (arith, l), j_in, k)
        | inr k ↦ (n, omega arith, n_in, subst (λ u. Kind u v) (sym at) k)
      ],
    )

pub all-listed : (xs : List ℕ) (n : ℕ) → length xs ≤ n → (v : ℕ) → OfFirst IsSame xs n v ↔ Contains xs v
all-listed xs n all v = (
  λ (j, l, j_in, k). (j, j_in, get_or_default xs j v 0 j_in ∙ sym k),
  λ (j, j_in, is). (j, omega (arith, all, j_in), j_in, sym (get_or_default xs j 0 v j_in ∙ is)),
)

abbrev pub Joins : Graph → ℕ → ℕ → Type 0
Joins joined u v = joined u v

pub all-beside : (joined : Graph) (xs : List ℕ) (n : ℕ) → length xs ≤ n → (v : ℕ) → OfFirst (Joins joined) xs n v ↔ IsBeside joined xs v
all-beside joined xs n all v = (
  λ (j, l, j_in, k). (get_or xs j 0, (j, j_in, get_or_default xs j (get_or xs j 0) 0 j_in), k),
  λ (u, (j, j_in, is), k). (j, omega (arith, all, j_in), j_in, subst (λ x. joined x v) (sym (get_or_default xs j 0 u j_in ∙ is)) k),
)
