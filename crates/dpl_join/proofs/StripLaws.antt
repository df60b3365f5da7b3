-- Items in strips.
use Rattle.std.proofs.Common.{◌≡◌, ℕ, ◌+◌, ◌<◌, ◌≤◌, ◌⊎◌, inl, inr, List, [], ◌∷◌, ◌++◌, length, get_or, take, ap, sym, subst, arith}
use Rattle.std.specs.Prelude.{ℤ, pos, ◌+ℤ◌, ◌-ℤ◌, ◌≤ℤ◌}
use Rattle.std.specs.Int.{int_max}
use Rattle.std.specs.List.{All, AllPairs, Contains}
use Rattle.std.proofs.lemmas.Bool.{cases_eq, cases_lt}
use Rattle.std.proofs.lemmas.Int.{ints, clamps}
use Rattle.std.proofs.lemmas.List.{get_or_past, take_all}
use Rattle.std.proofs.lemmas.List.Elements.{All-more, All-push, All-weaker, Contains-append_left, Contains-push}
use Rattle.std.proofs.lemmas.List.Quantifiers.{all_pairs_push}
use Rattle.dpl_join.specs.declared.items.Item.{Item}
use Rattle.dpl_join.specs.Pairs.{item_at, no_item}
use Rattle.dpl_join.specs.Strips.{AreFiledTo, IsAddedTo, LiesWithin, first_strip, last_strip, strip_at, strip_of}
use Rattle.dpl_join.proofs.PairLaws.{strips-rise}

-- what holds of the first n items, of which there are no more
pub all-taken : (P : Item → Type 0) (items : List Item) (n : ℕ) → length items ≤ n → All P (take n items) → All P items
all-taken P items n few h = subst (All P) (take_all n items few) h

pub rows-more : (items : List Item) (n : ℕ) (low new-low top new-top : ℤ) → n < length items → new-low ≤ℤ low → top ≤ℤ new-top → LiesWithin new-low new-top (item_at items n)
    → All (LiesWithin low top) (take n items) → All (LiesWithin new-low new-top) (take (n + 1) items)
rows-more items n low new-low top new-top n_in less more here h =
    All-more (LiesWithin new-low new-top) items n no_item n_in
    (All-weaker (LiesWithin low top) (LiesWithin new-low new-top)
    (λ item k.
    (let a = k.low in
    let b = k.begin in
    let d = k.end in
    record { low = omega (arith, ints, less, a); begin = omega (arith, ints, more, b); end = omega (arith, ints, more, d) })) (take n items) h) here

-- items of these rows stand in the strips up to the rule's rows above them
pub stands-below : (first : ℤ) (shift rule : ℕ) (last : ℤ) (item : Item) → LiesWithin first last item
    → last_strip first shift rule item.rect ≤ strip_of first shift (last +ℤ pos rule)
stands-below first shift rule last item lies =
    let a = lies.low in
    let b = lies.begin in
    let d = lies.end in
    strips-rise first shift (int_max ((item.rect.y1 +ℤ pos rule) -ℤ pos 1) item.rect.y0) (last +ℤ pos rule) (omega (arith, ints, clamps, a)) (omega (arith, ints, clamps, b, d))

pub lows-of : (first last : ℤ) (items : List Item) → All (LiesWithin first last) items → All (λ (item : Item). first ≤ℤ item.rect.y0) items
lows-of first last items lies k d k_in = (lies k d k_in).low

pub tops-of : (first last : ℤ) (shift rule count rooms : ℕ) (items : List Item) → All (LiesWithin first last) items
    → ((item : Item) → LiesWithin first last item → last_strip first shift rule item.rect < count) → rooms ≡ count
    → All (λ (item : Item). last_strip first shift rule item.rect < rooms) items
tops-of first last shift rule count rooms items lies below same k d k_in = let b = below (get_or items k d) (lies k d k_in) in omega (arith, b, same)

no-strip : (strips : List (List ℕ)) (k i : ℕ) → All (λ s. s ≡ []) strips → i < length (strip_at strips k) → ⊥
no-strip strips k i empty i_in =
    let none : strip_at strips k ≡ [] = elim (cases_lt k (length strips)) [ inl l ↦ empty k [] l | inr m ↦ get_or_past strips k [] m ] in
    let size : length (strip_at strips k) ≡ 0 = ap (λ (s : List ℕ). length s) none in
    omega (arith, i_in, size)

-- no item is filed in strips without items
pub filed-none : (items : List Item) (first : ℤ) (shift rule : ℕ) (strips : List (List ℕ)) → All (λ s. s ≡ []) strips → AreFiledTo items 0 first shift rule strips
filed-none items first shift rule strips empty = record {
  known = λ k i d i_in. absurd (no-strip strips k i empty i_in);
  rise = λ k i j d l j_in. absurd (no-strip strips k j empty j_in);
  filed = λ i k l. absurd (omega (arith, l));
}

module _ (items : List Item) (n low end : ℕ) (first : ℤ) (shift rule : ℕ) (old new : List (List ℕ)) (filed : AreFiledTo items n first shift rule old) (added : IsAddedTo n low end old new) where
  abbrev Which : ℕ → Type 0
  Which k = ((low ≤ k) × (k < end) × (strip_at new k ≡ strip_at old k ++ n ∷ [])) ⊎ (((k < low) ⊎ (end ≤ k)) × (strip_at new k ≡ strip_at old k))

  which : (k : ℕ) → Which k
  which k = elim (cases_lt k low) [
    | inl less ↦ inr (inl less, added.outside k (inl less))
    | inr more ↦ elim (cases_lt k end) [ inl under ↦ inl (more, under, added.inside k more under) | inr over ↦ inr (inr over, added.outside k (inr over)) ]
  ]

  known-more : (k : ℕ) → All (λ i. i < n + 1) (strip_at new k)
  known-more k =
      let before : All (λ i. i < n + 1) (strip_at old k) = All-weaker (λ i. i < n) (λ i. i < n + 1) (λ i l. omega (arith, l)) (strip_at old k) (filed.known k) in
      elim (which k) [ inl (a, b, e) ↦ rw e (All-push (λ i. i < n + 1) (strip_at old k) n before (omega arith)) | inr (a, e) ↦ rw e before ]

  rise-more : (k : ℕ) → AllPairs (λ i j. i < j) (strip_at new k)
  rise-more k = elim (which k) [
    | inl (a, b, e) ↦ rw e (all_pairs_push (λ i j. i < j) (strip_at old k) n (filed.rise k) (λ i d i_in. filed.known k i d i_in))
    | inr (a, e) ↦ rw e (filed.rise k)
  ]

  pub filed-more : low ≡ first_strip first shift (item_at items n).rect → end ≡ last_strip first shift rule (item_at items n).rect + 1 → AreFiledTo items (n + 1) first shift rule new
  filed-more low_is end_is = record {
    known = known-more;
    rise = rise-more;
    filed = λ i k l from to. elim (cases_eq i n) [
      | inl e ↦ (let from_n = subst (λ m. first_strip first shift (item_at items m).rect ≤ k) e from in
          let to_n = subst (λ m. k ≤ last_strip first shift rule (item_at items m).rect) e to in
          rw (added.inside k (omega (arith, from_n, low_is)) (omega (arith, to_n, end_is)))
          (subst (λ m. Contains (strip_at old k ++ n ∷ []) m) (sym e) (Contains-push (strip_at old k) n)))
      | inr ne ↦ (let before = filed.filed i k (omega (arith, l, ne)) from to in
          elim (which k) [ inl (a, b, f) ↦ rw f (Contains-append_left (strip_at old k) (n ∷ []) i before) | inr (a, f) ↦ rw f before ])
    ];
  }
