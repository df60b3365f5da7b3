-- A sweep over the items of one strip.
use Rattle.std.proofs.Common.{◌≡◌, ℕ, ◌+◌, ◌<◌, ◌≤◌, ◌⊎◌, inl, inr, true, false, nat_lt, List, length, get_or, Ordering, refl, sym, ap, ◌∙◌, subst, arith}
use Rattle.std.specs.Prelude.{◌↔◌, ℤ, pos, ◌+ℤ◌, ◌≤ℤ◌, ◌<ℤ◌}
use Rattle.std.specs.Ordering.{is_lt, int_cmp}
use Rattle.std.specs.declared.cmp.Ordering.TheVariants.{Less, Equal, Greater}
use Rattle.std.specs.List.{Contains}
use Rattle.std.specs.List.Sorted.{IsSortedByKey}
use Rattle.std.proofs.lemmas.Bool.{cases_eq, cases_lt, cases_order}
use Rattle.std.proofs.lemmas.Cmp.{int_ranked, int_cmp_total}
use Rattle.std.proofs.lemmas.Int.{ints}
use Rattle.std.proofs.lemmas.List.{get_or_default}
use Rattle.std.proofs.lemmas.List.Elements.{Contains-get_or}
use Rattle.std.proofs.lemmas.List.Sorted.{sorted_far, ranks_by}
use Rattle.dpl_join.specs.declared.items.Item.{Item}
use Rattle.dpl_join.specs.declared.sweep.Entry.{Entry}
use Rattle.dpl_join.specs.declared.sweep.Place.{Place}
use Rattle.dpl_join.specs.Listing.{Grows, Lists}
use Rattle.dpl_join.specs.Bands.{AreByLeft}
use Rattle.dpl_join.specs.Sweeps.{AddsPair, AreDifferent, IsMet, IsMetAmong, IsMetBelow, IsMetWith, LeftsRise, ends, entry_at, entry_of, no_entry}
use Rattle.dpl_join.proofs.ListLaws.{grows-push, grows-same, lists-grow, lists-same}
use Rattle.dpl_join.proofs.PairLaws.{close-flip, common-flip}

at_most : (x y : ℤ) (r : Ordering) → r ≡ int_cmp x y → is_lt r ≡ false → y ≤ℤ x
at_most x y Less e h = cc
at_most x y Equal e h = let same : x ≡ y = int_ranked x y Equal e in omega (arith, ints)
at_most x y Greater e h = let l : y <ℤ x = int_ranked x y Greater e in omega (arith, ints)

-- what a sort by left column leaves
pub lefts-rise : (es : List Entry) → IsSortedByKey (λ (e : Entry). e.rect.x0) int_cmp es → LeftsRise es
lefts-rise es h i j d l within =
    at_most (get_or es j d).rect.x0 (get_or es i d).rect.x0 _ refl
    (sorted_far (λ (a b : Entry). is_lt (int_cmp a.rect.x0 b.rect.x0)) (ranks_by int_cmp_total (λ (e : Entry). e.rect.x0)) es h i j d l within)

-- ---- two entries

ends-are : (a b : Entry) → ((a.number < b.number) × (ends a b ≡ (a.number, b.number))) ⊎ ((b.number ≤ a.number) × (ends a b ≡ (b.number, a.number)))
ends-are a b = elim (cases_lt a.number b.number) [
  | inl l ↦ (let test : nat_lt a.number b.number ≡ true = grind arith in inl (l, rw test refl))
  | inr m ↦ (let test : nat_lt a.number b.number ≡ false = grind arith in inr (m, rw test refl))
]

abbrev AreSame : Entry → Entry → Entry → Entry → Type 0
AreSame a b c d = ((a.number ≡ c.number) × (b.number ≡ d.number)) ⊎ ((a.number ≡ d.number) × (b.number ≡ c.number))

first-of : (p q : ℕ × ℕ) → p ≡ q → p.0 ≡ q.0
first-of p q e = ap (λ (r : ℕ × ℕ). r.0) e

second-of : (p q : ℕ × ℕ) → p ≡ q → p.1 ≡ q.1
second-of p q e = ap (λ (r : ℕ × ℕ). r.1) e

same-ends : (a b c d : Entry) → ends a b ≡ ends c d → AreSame a b c d
same-ends a b c d e = elim (ends-are a b) [
  | inl (l, f) ↦ elim (ends-are c d) [
    | inl (m, g) ↦ (let h = sym f ∙ (e ∙ g) in inl (first-of _ _ h, second-of _ _ h))
    | inr (m, g) ↦ (let h = sym f ∙ (e ∙ g) in inr (first-of _ _ h, second-of _ _ h))
  ]
  | inr (l, f) ↦ elim (ends-are c d) [
    | inl (m, g) ↦ (let h = sym f ∙ (e ∙ g) in inr (second-of _ _ h, first-of _ _ h))
    | inr (m, g) ↦ (let h = sym f ∙ (e ∙ g) in inl (second-of _ _ h, first-of _ _ h))
  ]
]

met-flip : (place : Place) (a b : Entry) → IsMet place a b → IsMet place b a
met-flip place a b met = record {
  apart = λ e. met.apart (sym e);
  close = close-flip place.rule a.rect b.rect met.close;
  here = common-flip place.home.ruling.first place.home.ruling.shift b.rect a.rect ∙ met.here;
}

module _ (place : Place) (es : List Entry) (different : AreDifferent es) where
  same-place : (i j : ℕ) → i < length es → j < length es → (entry_at es i).number ≡ (entry_at es j).number → i ≡ j
  same-place i j i_in j_in e = elim (cases_order i j) [
    | inl s ↦ s
    | inr o ↦ elim o [ inl l ↦ absurd (different i j no_entry l j_in e) | inr l ↦ absurd (different j i no_entry l i_in (sym e)) ]
  ]

  module _ (at n : ℕ) (at_n : at < n) (n_in : n < length es) where
    not-yet : IsMetWith place es at n (ends (entry_at es at) (entry_at es n)) → ⊥
    not-yet w = let behind = w.behind in let before = w.before in
        elim (same-ends (entry_at es at) (entry_at es n) (entry_at es at) (entry_at es w.other) w.is) [
          | inl (e, f) ↦ (let g = same-place n w.other n_in w.known f in omega (arith, g, before))
          | inr (e, f) ↦ (let g = same-place n at n_in (omega (arith, at_n, n_in)) f in omega (arith, g, at_n))
        ]

    with-more : (p : ℕ × ℕ) → IsMet place (entry_at es at) (entry_at es n) → (IsMetWith place es at n p ⊎ (ends (entry_at es at) (entry_at es n) ≡ p)) ↔ IsMetWith place es at (n + 1) p
    with-more p met = (
      (λ h. elim h [
        | inl w ↦ (let before = w.before in record { other = w.other; behind = w.behind; before = omega (arith, before); known = w.known; met = w.met; is = w.is })
        | inr e ↦ record { other = n; behind = at_n; before = omega arith; known = n_in; met = met; is = sym e }
      ]),
      λ w. let before = w.before in elim (cases_eq w.other n) [
        | inl e ↦ inr (sym (w.is ∙ ap (λ k. ends (entry_at es at) (entry_at es k)) e))
        | inr ne ↦ inl (record { other = w.other; behind = w.behind; before = omega (arith, before, ne); known = w.known; met = w.met; is = w.is })
      ],
    )

    with-same : (p : ℕ × ℕ) → (IsMet place (entry_at es at) (entry_at es n) → ⊥) → IsMetWith place es at n p ↔ IsMetWith place es at (n + 1) p
    with-same p off = (
      (λ w. let before = w.before in record { other = w.other; behind = w.behind; before = omega (arith, before); known = w.known; met = w.met; is = w.is }),
      λ w. let before = w.before in elim (cases_eq w.other n) [
        | inl e ↦ absurd (off (subst (λ k. IsMet place (entry_at es at) (entry_at es k)) e w.met))
        | inr ne ↦ record { other = w.other; behind = w.behind; before = omega (arith, before, ne); known = w.known; met = w.met; is = w.is }
      ],
    )

    -- one more entry behind
    pub pairs-more : (old new next : List (ℕ × ℕ)) → AddsPair place (entry_at es at) (entry_at es n) new next → Grows (IsMetWith place es at n) old new
        → Grows (IsMetWith place es at (n + 1)) old next
    pairs-more old new next (inl (met, is)) grows =
        grows-same (λ p. IsMetWith place es at n p ⊎ (ends (entry_at es at) (entry_at es n) ≡ p)) (IsMetWith place es at (n + 1)) old next (λ p. with-more p met)
        (grows-push (IsMetWith place es at n) old new next (ends (entry_at es at) (entry_at es n)) is not-yet grows)
    pairs-more old new next (inr (off, is)) grows = rw is (grows-same (IsMetWith place es at n) (IsMetWith place es at (n + 1)) old new (λ p. with-same p off) grows)

    -- the next entry begins too far to the right, and so do all behind it
    pub pairs-end : (old new : List (ℕ × ℕ)) → LeftsRise es → ((entry_at es n).rect.x0 <ℤ ((entry_at es at).rect.x1 +ℤ pos place.rule) → ⊥) → Grows (IsMetWith place es at n) old new
        → Grows (IsMetWith place es at (length es)) old new
    pairs-end old new rise far grows = grows-same (IsMetWith place es at n) (IsMetWith place es at (length es)) old new
        (λ p. (
          (λ w. record { other = w.other; behind = w.behind; before = w.known; known = w.known; met = w.met; is = w.is }),
          λ w. elim (cases_lt w.other n) [
            | inl l ↦ record { other = w.other; behind = w.behind; before = l; known = w.known; met = w.met; is = w.is }
            | inr m ↦ (let order = rise n w.other no_entry m w.known in let near = w.met.close.right in absurd (far (omega (arith, ints, order, near))))
          ],
        )) grows

  two-firsts : (at : ℕ) (p : ℕ × ℕ) → at < length es → IsMetBelow place es at p → IsMetWith place es at (length es) p → ⊥
  two-firsts at p at_in b w =
      let below = b.below in
      let v = b.pair in
      let v_behind = v.behind in
      let w_behind = w.behind in
      elim (same-ends (entry_at es b.one) (entry_at es v.other) (entry_at es at) (entry_at es w.other) (sym v.is ∙ w.is)) [
        | inl (e, f) ↦ (let g = same-place b.one at (omega (arith, below, at_in)) at_in e in omega (arith, g, below))
        | inr (e, f) ↦ (let g = same-place b.one w.other (omega (arith, below, at_in)) w.known e in omega (arith, g, below, w_behind))
      ]

  -- all pairs of one more entry
  pub below-more : (at : ℕ) (old new : List (ℕ × ℕ)) → at < length es → Lists (IsMetBelow place es at) old → Grows (IsMetWith place es at (length es)) old new
      → Lists (IsMetBelow place es (at + 1)) new
  below-more at old new at_in lists grows = lists-same (λ p. IsMetBelow place es at p ⊎ IsMetWith place es at (length es) p) (IsMetBelow place es (at + 1)) new
      (λ p. (
        (λ h. elim h [
          | inl b ↦ (let below = b.below in record { one = b.one; below = omega (arith, below); pair = b.pair })
          | inr w ↦ record { one = at; below = omega arith; pair = w }
        ]),
        λ b. let below = b.below in elim (cases_eq b.one at) [
          | inl e ↦ inr (subst (λ k. IsMetWith place es k (length es) p) e b.pair)
          | inr ne ↦ inl (record { one = b.one; below = omega (arith, below, ne); pair = b.pair })
        ],
      )) (lists-grow (IsMetBelow place es at) (IsMetWith place es at (length es)) old new lists grows (λ p. two-firsts at p at_in))

-- ---- the entries of items

module _ (place : Place) (items : List Item) (numbers : List ℕ) (es : List Entry) (sorted : AreByLeft items numbers es) where
  pub entries-differ : AreDifferent es
  entries-differ i j d l j_in = (sorted.order i j d l j_in).apart

  pub entries-rise : LeftsRise es
  entries-rise i j d l j_in = elim (cases_eq i j) [
    | inl e ↦ (let f = ap (λ k. (get_or es k d).rect.x0) e in omega (arith, ints, f))
    | inr ne ↦ (sorted.order i j d (omega (arith, l, ne)) j_in).left
  ]

  entry-from : (i : ℕ) → i < length es → Contains numbers (entry_at es i).number × (entry_at es i ≡ entry_of items (entry_at es i).number)
  entry-from i i_in =
      let of = sorted.known i no_entry i_in in
      let number : get_or numbers of.place 0 ≡ (entry_at es i).number = sym (ap (λ (x : Entry). x.number) of.is) in (
        subst (Contains numbers) number (Contains-get_or numbers of.place 0 of.before),
        of.is ∙ ap (entry_of items) number,
      )

  entry-to : (n : ℕ) → Contains numbers n → (i : ℕ) × (i < length es) × (entry_at es i ≡ entry_of items n)
  entry-to n (k, k_in, k_is) =
      let number : get_or numbers k 0 ≡ n = get_or_default numbers k 0 n k_in ∙ k_is in
      let (i, i_in, i_is) = sorted.all k k_in in
      (i, i_in, get_or_default es i no_entry (entry_of items (get_or numbers k 0)) i_in ∙ (i_is ∙ ap (entry_of items) number))

  among-of : (a b : Entry) → Contains numbers a.number → Contains numbers b.number → a ≡ entry_of items a.number → b ≡ entry_of items b.number → a.number < b.number → IsMet place a b
      → IsMetAmong place items numbers (a.number, b.number)
  among-of a b a_in b_in a_is b_is l met = record {
    order = l;
    first = a_in;
    second = b_in;
    met = subst (λ x. IsMet place x (entry_of items b.number)) a_is (subst (λ y. IsMet place a y) b_is met);
  }

  among-from : (p : ℕ × ℕ) → IsMetBelow place es (length es) p → IsMetAmong place items numbers p
  among-from p b =
      let w = b.pair in
      let behind = w.behind in
      let (a_in, a_is) = entry-from b.one b.below in
      let (c_in, c_is) = entry-from w.other w.known in
      elim (ends-are (entry_at es b.one) (entry_at es w.other)) [
        | inl (l, e) ↦ subst (IsMetAmong place items numbers) (sym (w.is ∙ e)) (among-of (entry_at es b.one) (entry_at es w.other) a_in c_in a_is c_is l w.met)
        | inr (m, e) ↦
            let differ : (entry_at es w.other).number ≡ (entry_at es b.one).number
            → ⊥ = λ f. (let g = same-place place es entries-differ w.other b.one w.known b.below f in omega (arith, g, behind)) in
            subst (IsMetAmong place items numbers) (sym (w.is ∙ e))
            (among-of (entry_at es w.other) (entry_at es b.one) c_in a_in c_is a_is (omega (arith, m, differ)) (met-flip place (entry_at es b.one) (entry_at es w.other) w.met))
      ]

  among-to : (p : ℕ × ℕ) → IsMetAmong place items numbers p → IsMetBelow place es (length es) p
  among-to p m =
      let order = m.order in
      let (i, i_in, i_is) = entry-to p.0 m.first in
      let (j, j_in, j_is) = entry-to p.1 m.second in
      let met : IsMet place (entry_at es i) (entry_at es j) = rw (i_is, j_is) m.met in
      let i_number : (entry_at es i).number ≡ p.0 = ap (λ (x : Entry). x.number) i_is in
      let j_number : (entry_at es j).number ≡ p.1 = ap (λ (x : Entry). x.number) j_is in
      elim (cases_order i j) [
        | inl e ↦ (let f = ap (λ k. (entry_at es k).number) e in absurd (omega (arith, f, i_number, j_number, order)))
        | inr o ↦ elim o [
          | inl l ↦ record {
            one = i;
            below = i_in;
            pair = record {
              other = j;
              behind = l;
              before = j_in;
              known = j_in;
              met = met;
              is = elim (ends-are (entry_at es i) (entry_at es j)) [
                | inl (k, e) ↦ sym (e ∙ rw (i_number, j_number) refl)
                | inr (k, e) ↦ absurd (omega (arith, k, i_number, j_number, order))
              ];
            };
          }
          | inr l ↦ record {
            one = j;
            below = j_in;
            pair = record {
              other = i;
              behind = l;
              before = i_in;
              known = i_in;
              met = met-flip place (entry_at es i) (entry_at es j) met;
              is = elim (ends-are (entry_at es j) (entry_at es i)) [
                | inl (k, e) ↦ absurd (omega (arith, k, i_number, j_number, order))
                | inr (k, e) ↦ sym (e ∙ rw (i_number, j_number) refl)
              ];
            };
          }
        ]
      ]

  -- all pairs of all entries are those of the numbers
  pub among-all : (found : List (ℕ × ℕ)) (n : ℕ) → length es ≤ n → n ≤ length es → Lists (IsMetBelow place es n) found → Lists (IsMetAmong place items numbers) found
  among-all found n at_least at_most lists =
      let end : n ≡ length es = omega arith in
      lists-same (IsMetBelow place es (length es)) (IsMetAmong place items numbers) found (λ p. (among-from p, among-to p)) (subst (λ m. Lists (IsMetBelow place es m) found) end lists)
