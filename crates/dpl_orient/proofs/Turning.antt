-- Tallies after a component is flipped.
use Rattle.std.proofs.Common.{
  ◌≡◌,
  ◌≢◌,
  ℕ,
  ◌+◌,
  ◌^◌,
  ◌<◌,
  ◌≤◌,
  inl,
  inr,
  Bool,
  true,
  false,
  not,
  ◌&&◌,
  eqb,
  cond,
  List,
  [],
  ◌∷◌,
  length,
  get_or,
  set,
  filter,
  sym,
  refl,
  ap,
  ◌∙◌,
  subst,
  add_comm,
  arith,
}
use Rattle.std.specs.Prelude.{Option, count_by, sum_by}
use Rattle.std.specs.List.{All}
use Rattle.std.specs.declared.cmp.Reverse.{Reverse}
use Rattle.std.proofs.lemmas.Bool.{cases_eq, cases_lt, eq-eqb, ne_eqb, eqb-true, cond-true, cond-false}
use Rattle.std.proofs.lemmas.List.{get_or-set_same, get_or-set_other, get_or_past, length-set}
use Rattle.std.proofs.lemmas.List.Elements.{All-head, All-tail}
use Rattle.std.proofs.lemmas.List.Sums.{sum_by-cons, sum_by-le}
use Rattle.dpl_spec_split.specs.Colours.{differ}
use Rattle.dpl_orient.specs.declared.links.Link.{Link}
use Rattle.dpl_orient.specs.declared.tallies.Tally.{Tally}
use Rattle.dpl_orient.specs.Links.{AreLinksBelow, differs_by, count_from}
use Rattle.dpl_orient.specs.Tallies.{tally_of, tally_at, AreTallies, exchanged, GainsAt, Waits, AllWait, count_to, AreMoved, AreCounted, AreMutual}
use Rattle.dpl_orient.proofs.Settling.{unit}
use Rattle.dpl_orient.proofs.Gaining.{GainsBy, IsLeastGainBy, gains-below}
use Rattle.dpl_orient.proofs.Tallying.{counted_to, same-tally, count-both}

-- two counts together
pub sums-agree : {X : Type 0} (a b c d : X → ℕ) (xs : List X) → All (λ x. a x + b x ≡ c x + d x) xs → sum_by a xs + sum_by b xs ≡ sum_by c xs + sum_by d xs
sums-agree a b c d [] same = refl
sums-agree a b c d (x ∷ xs) same =
    let here = All-head (λ x. a x + b x ≡ c x + d x) x xs same in
    let rest = sums-agree a b c d xs (All-tail (λ x. a x + b x ≡ c x + d x) x xs same) in
    let ea = sum_by-cons a x xs in
    let eb = sum_by-cons b x xs in
    let ec = sum_by-cons c x xs in
    let ed = sum_by-cons d x xs in
    omega (arith, here, rest, ea, eb, ec, ed)

pub sums-same : {X : Type 0} (a b : X → ℕ) (xs : List X) → All (λ x. a x ≡ b x) xs → sum_by a xs ≡ sum_by b xs
sums-same a b [] same = refl
sums-same a b (x ∷ xs) same =
    let here = All-head (λ x. a x ≡ b x) x xs same in
    let rest = sums-same a b xs (All-tail (λ x. a x ≡ b x) x xs same) in
    let ea = sum_by-cons a x xs in
    let eb = sum_by-cons b x xs in
    omega (arith, here, rest, ea, eb)

pub sums-up : {X : Type 0} (a b : X → ℕ) (xs : List X) → All (λ x. a x ≤ b x) xs → sum_by a xs ≤ sum_by b xs
sums-up a b [] same = omega arith
sums-up a b (x ∷ xs) same =
    let here = All-head (λ x. a x ≤ b x) x xs same in
    let rest = sums-up a b xs (All-tail (λ x. a x ≤ b x) x xs same) in
    let ea = sum_by-cons a x xs in
    let eb = sum_by-cons b x xs in
    omega (arith, here, rest, ea, eb)

not-not : (a : Bool) → not (not a) ≡ a
not-not true = refl
not-not false = refl

count-filter : (p r : Link → Bool) (xs : List Link) → count_by p (filter r xs) ≡ count_by (λ x. r x && p x) xs
count-filter p r [] = refl
count-filter p r (x ∷ xs) = count-filter-cons p r x xs (r x) refl (count-filter p r xs) where
  count-filter-cons : (p r : Link → Bool) (x : Link) (xs : List Link) (b : Bool) → r x ≡ b → count_by p (filter r xs) ≡ count_by (λ y. r y && p y) xs
      → count_by p (cond (r x) (x ∷ filter r xs) (filter r xs)) ≡ count_by (λ y. r y && p y) (x ∷ xs)
  count-filter-cons p r x xs true is rest =
      let a = sum_by-cons (λ y. unit (p y)) x (filter r xs) in
      let b = sum_by-cons (λ y. unit (r y && p y)) x xs in
      let e : unit (r x && p x) ≡ unit (p x) = ap (λ c. unit (c && p x)) is in
      let f : count_by p (cond (r x) (x ∷ filter r xs) (filter r xs)) ≡ count_by p (x ∷ filter r xs) = ap (count_by p) (cond-true (r x)
      (x ∷ filter r xs) (filter r xs) is) in
      omega (arith, f, a, b, e, rest)
  count-filter-cons p r x xs false is rest =
      let b = sum_by-cons (λ y. unit (r y && p y)) x xs in
      let e : unit (r x && p x) ≡ 0 = ap (λ c. unit (c && p x)) is in
      let f : count_by p (cond (r x) (x ∷ filter r xs) (filter r xs)) ≡ count_by p (filter r xs) = ap (count_by p) (cond-false (r x)
      (x ∷ filter r xs) (filter r xs) is) in
      omega (arith, f, b, e, rest)

-- the sides of a zone whose components are flipped where f and g say so, and once more where a and b say so
turned-twice : (a b o f g : Bool) → differ o (differ (differ a f) (differ b g)) ≡ differ (differ a b) (differ o (differ f g))
turned-twice false false false false false = refl
turned-twice false false false false true = refl
turned-twice false false false true false = refl
turned-twice false false false true true = refl
turned-twice false false true false false = refl
turned-twice false false true false true = refl
turned-twice false false true true false = refl
turned-twice false false true true true = refl
turned-twice false true false false false = refl
turned-twice false true false false true = refl
turned-twice false true false true false = refl
turned-twice false true false true true = refl
turned-twice false true true false false = refl
turned-twice false true true false true = refl
turned-twice false true true true false = refl
turned-twice false true true true true = refl
turned-twice true false false false false = refl
turned-twice true false false false true = refl
turned-twice true false false true false = refl
turned-twice true false false true true = refl
turned-twice true false true false false = refl
turned-twice true false true false true = refl
turned-twice true false true true false = refl
turned-twice true false true true true = refl
turned-twice true true false false false = refl
turned-twice true true false false true = refl
turned-twice true true false true false = refl
turned-twice true true false true true = refl
turned-twice true true true false false = refl
turned-twice true true true false true = refl
turned-twice true true true true false = refl
turned-twice true true true true true = refl

neighbour-turned : (fq tr w s t : Bool) → (fq ≡ true → t ≡ differ tr s) → unit (fq && not (differ w t)) + unit ((fq && tr) && not
    (differ w s)) ≡ unit (fq && not (differ w s)) + unit ((fq && tr) && not (differ w t))
neighbour-turned false tr w s t h = refl
neighbour-turned true false w s t h = ap (λ b. unit (not (differ w b)) + 0) (h refl)
neighbour-turned true true w s t h = add_comm (unit (not (differ w t))) (unit (not (differ w s)))

between-turned : (fq tr w s t : Bool) → (fq ≡ true → t ≡ differ tr s) → ((fq && tr) && not (differ w t)) ≡ ((fq && tr) && not (differ (not w) s))
between-turned false tr w s t h = refl
between-turned true false w s t h = refl
between-turned true true false false t h = ap (λ b. not (differ false b)) (h refl)
between-turned true true false true t h = ap (λ b. not (differ false b)) (h refl)
between-turned true true true false t h = ap (λ b. not (differ true b)) (h refl)
between-turned true true true true t h = ap (λ b. not (differ true b)) (h refl)

own-turned : (fr w s t : Bool) → (fr ≡ true → t ≡ not s) → (fr && not (differ w t)) ≡ (fr && not (differ (not w) s))
own-turned false w s t h = refl
own-turned true false false t h = ap (λ b. not (differ false b)) (h refl)
own-turned true false true t h = ap (λ b. not (differ false b)) (h refl)
own-turned true true false t h = ap (λ b. not (differ true b)) (h refl)
own-turned true true true t h = ap (λ b. not (differ true b)) (h refl)

within-one : (a b u : Bool) → unit ((a && b) && u) ≤ unit (a && u)
within-one false b u = omega arith
within-one true false false = omega arith
within-one true false true = omega arith
within-one true true u = omega arith

and-both : (a b u : Bool) → (a && (b && u)) ≡ ((a && b) && u)
and-both false b u = refl
and-both true b u = refl

never-both : (a b u : Bool) → (a ≡ true → b ≡ true → ⊥) → unit ((a && b) && u) ≤ 0
never-both false b u h = omega arith
never-both true false u h = omega arith
never-both true true u h = absurd (h refl refl)

all-of : {X : Type 0} (P : X → Type 0) → ((x : X) → P x) → (xs : List X) → All P xs
all-of P h xs = λ k d l. h (get_or xs k d)

module _ (links : List Link) (flips : List Bool) (root : ℕ) (within : root < length flips) (paired : AreMutual links) where
  abbrev after : List Bool
  after = set flips root (not (get_or flips root false))

  abbrev mine : List Link
  mine = filter (λ (l : Link). eqb l.from root) links

  flip-at : (q : ℕ) → get_or after q false ≡ differ (eqb q root) (get_or flips q false)
  flip-at q = elim (cases_eq q root) [
    | inl same ↦ rw (eq-eqb q root same, same) (get_or-set_same flips root (not (get_or flips root false)) false within)
    | inr other ↦ rw (ne_eqb q root other) (get_or-set_other flips root q (not (get_or flips root false)) false other)
  ]

  state-turned : (l : Link) → differs_by after l ≡ differ (differ (eqb l.from root) (eqb l.to root)) (differs_by flips l)
  state-turned l = rw (flip-at l.from, flip-at l.to) (turned-twice (eqb l.from root) (eqb l.to root) l.odd (get_or flips l.from false)
      (get_or flips l.to false))

  -- how many links lead from one component to another and have sides that differ, or agree
  abbrev between : List Bool → ℕ → ℕ → Bool → ℕ
  between fs p q wanted = count_by (λ (l : Link). (eqb l.from p && eqb l.to q) && not (differ wanted (differs_by fs l))) links

  module _ (q : ℕ) (other : q ≢ root) (w : Bool) where
    from-other : (l : Link) → eqb l.from q ≡ true → differs_by after l ≡ differ (eqb l.to root) (differs_by flips l)
    from-other l is = state-turned l ∙ ap (λ b. differ (differ b (eqb l.to root)) (differs_by flips l)) (ne_eqb l.from root (λ e. other (sym
        (eqb-true _ _ is) ∙ e)))

    neighbour-counts : count_from after q w links + between flips q root w ≡ count_from flips q w links + between after q root w
    neighbour-counts = sums-agree _ _ _ _ links (all-of _ (λ (l : Link). neighbour-turned (eqb l.from q) (eqb l.to root) w (differs_by flips l)
        (differs_by after l) (from-other l)) links)

    between-counts : between after q root w ≡ between flips q root (not w)
    between-counts = sums-same _ _ links (all-of _ (λ (l : Link). ap unit (between-turned (eqb l.from q) (eqb l.to root) w (differs_by flips l)
        (differs_by after l) (from-other l))) links)

    between-few : between flips q root w ≤ count_from flips q w links
    between-few = sums-up _ _ links (all-of _ (λ (l : Link). within-one (eqb l.from q) (eqb l.to root) (not (differ w (differs_by flips l)))) links)

  to-between : (q : ℕ) (w : Bool) → count_to after q w mine ≡ between after root q w
  to-between q w = count-filter (counted_to after q w) (λ (l : Link). eqb l.from root) links
      ∙ sums-same _ _ links (all-of _ (λ (l : Link). ap unit (and-both (eqb l.from root) (eqb l.to q) (not (differ w (differs_by after l))))) links)

  to-itself : (w : Bool) → count_to after root w mine ≡ 0
  to-itself w =
      let e = to-between root w in
      let le = sum_by-le (λ (l : Link). unit ((eqb l.from root && eqb l.to root) && not (differ w (differs_by after l)))) 0 links
      (λ k d l. (let x = get_or links k d in never-both (eqb x.from root) (eqb x.to root) (not (differ w (differs_by after x)))
      (λ i j. paired.apart k d l (eqb-true x.from root i ∙ sym (eqb-true x.to root j))))) in
      omega (arith, e, le)

  to-neighbour : (q : ℕ) → q ≢ root → (w : Bool) → count_to after q w mine ≡ between flips q root (not w)
  to-neighbour q other w = to-between q w ∙ (sym (paired.both after q root w) ∙ between-counts q other w)

  turned-count : (q : ℕ) → q ≢ root → (w : Bool) → count_from after q w links + count_to after q
      (not w) mine ≡ count_from flips q w links + count_to after q w mine
  turned-count q other w =
      let a = neighbour-counts q other w in
      let b = to-between q w ∙ sym (paired.both after q root w) in
      let c : count_to after q (not w) mine ≡ between flips q root w = to-neighbour q other (not w) ∙ ap (between flips q root) (not-not w) in
      omega (arith, a, b, c)

  own-count : (w : Bool) → count_from after root w links ≡ count_from flips root (not w) links
  own-count w = sums-same _ _ links (λ k d l. (let x = get_or links k d in ap unit (own-turned (eqb x.from root) w (differs_by flips x) (differs_by after x)
      (λ is. state-turned x ∙ (ap (λ b. differ (differ b (eqb x.to root)) (differs_by flips x)) is
      ∙ ap (λ b. differ (not b) (differs_by flips x)) (ne_eqb x.to root (λ e. paired.apart k d l (eqb-true _ _ is ∙ sym e))))))))

  module _ (held : Option ℕ) (tallies : List Tally) (h : AreTallies links flips tallies) (few : length links < 2 ^ 64) where
    abbrev start : List Tally
    start = set tallies root (exchanged (tally_at tallies root))

    room : root < length tallies
    room = let e = h.len in omega (arith, e, within)

    start-own : tally_at start root ≡ exchanged (tally_of flips links root)
    start-own = get_or-set_same tallies root (exchanged (tally_at tallies root)) (record { differing = 0; agreeing = 0 }) room ∙ ap exchanged
        (h.each root within)

    start-kept : (q : ℕ) → q ≢ root → tally_at start q ≡ tally_at tallies q
    start-kept q other = get_or-set_other tallies root q (exchanged (tally_at tallies root)) (record { differing = 0; agreeing = 0 }) other

    start-other : (q : ℕ) → q ≢ root → q < length flips → tally_at start q ≡ tally_of flips links q
    start-other q other below = start-kept q other ∙ h.each q below

    past : (q : ℕ) → length flips ≤ q → tally_at tallies q ≡ record { differing = 0; agreeing = 0 }
    past q le = get_or_past tallies q (record { differing = 0; agreeing = 0 }) (let e = h.len in omega (arith, e, le))

    module _ (below : AreLinksBelow (length flips) links) where
      past-none : (q : ℕ) (w : Bool) → length flips ≤ q → count_to after q w mine ≤ 0
      past-none q w le =
          let e = to-between q w in
          let few_of = sum_by-le (λ (l : Link). unit ((eqb l.from root && eqb l.to q) && not (differ w (differs_by after l)))) 0 links
          (λ k d l. (let x = get_or links k d in never-both (eqb x.from root) (eqb x.to q) (not (differ w (differs_by after x)))
          (λ i j. (let up = (below k d l).1 in let z = eqb-true x.to q j in omega (arith, up, z, le))))) in
          omega (arith, e, few_of)

      counted-at : (q : ℕ) → (count_to after q false mine ≤ (tally_at start q).differing) × (count_to after q true mine ≤ (tally_at start q).agreeing)
      counted-at q = elim (cases_eq q root) [
        | inl same ↦ (let P : ℕ → Type 0 = λ r. (count_to after r false mine ≤ (tally_at start r).differing) × (count_to after r true mine ≤
            (tally_at start r).agreeing) in
            subst P (sym same) ((let e = to-itself false in omega (arith, e)), (let e = to-itself true in omega (arith, e))))
        | inr other ↦ elim (cases_lt q (length flips)) [
          | inl l ↦ (let t = start-other q other l in
              let d : (tally_at start q).differing ≡ count_from flips q true links = ap (λ x. x.differing) t in
              let a : (tally_at start q).agreeing ≡ count_from flips q false links = ap (λ x. x.agreeing) t in
              let e = to-neighbour q other false in
              let f = to-neighbour q other true in
              let x = between-few q other true in
              let y = between-few q other false in
              (omega (arith, d, e, x), omega (arith, a, f, y)))
          | inr le ↦ ((let e = past-none q false le in omega (arith, e)), (let e = past-none q true le in omega (arith, e)))
        ]
      ]

      few-at : (q : ℕ) → (tally_at start q).differing + (tally_at start q).agreeing < 2 ^ 64
      few-at q = elim (cases_eq q root) [
        | inl same ↦ (let P : ℕ → Type 0 = λ r. (tally_at start r).differing + (tally_at start r).agreeing < 2 ^ 64 in
            let d : (tally_at start root).differing ≡ count_from flips root false links = ap (λ x. x.differing) start-own in
            let a : (tally_at start root).agreeing ≡ count_from flips root true links = ap (λ x. x.agreeing) start-own in
            let e = count-both flips root links in
            subst P (sym same) (omega (arith, d, a, e, few)))
        | inr other ↦ elim (cases_lt q (length flips)) [
          | inl l ↦ (let t = start-other q other l in
              let d : (tally_at start q).differing ≡ count_from flips q true links = ap (λ x. x.differing) t in
              let a : (tally_at start q).agreeing ≡ count_from flips q false links = ap (λ x. x.agreeing) t in
              let e = count-both flips q links in
              omega (arith, d, a, e, few))
          | inr le ↦ (let t = start-kept q other ∙ past q le in
              let d : (tally_at start q).differing ≡ 0 = ap (λ x. x.differing) t in
              let a : (tally_at start q).agreeing ≡ 0 = ap (λ x. x.agreeing) t in
              omega (arith, d, a))
        ]
      ]

      -- the tallies count the zones that a flip moves over
      pub turned-counted : AreCounted after mine start
      turned-counted = record { differing = λ q. (counted-at q).0; agreeing = λ q. (counted-at q).1; few = few-at }

    -- the tallies after a flip
    pub turned-tallies : (new : List Tally) → AreMoved after mine start new → AreTallies links after new
    turned-tallies new m = record {
      len = m.len ∙ (length-set tallies root (exchanged (tally_at tallies root)) ∙ (h.len ∙ sym (length-set flips root (not (get_or flips root false)))));
      each = λ q l. (let below : q < length flips = (let e = length-set flips root (not (get_or flips root false)) in omega (arith, e, l)) in
          let d = m.differing q in
          let a = m.agreeing q in
          elim (cases_eq q root) [
            | inl same ↦ (let P : ℕ → Type 0 = λ r. tally_at new r ≡ tally_of after links r in
                subst P (sym same) (same-tally (tally_at new root) (tally_of after links root)
                (let x : (tally_at start root).differing ≡ count_from flips root false links = ap (λ t. t.differing) start-own in
                let y = own-count true in let u = to-itself true in let v = to-itself false in let z = m.differing root in omega (arith, x, y, u, v, z))
                (let x : (tally_at start root).agreeing ≡ count_from flips root true links = ap (λ t. t.agreeing) start-own in
                let y = own-count false in let u = to-itself true in let v = to-itself false in let z = m.agreeing root in omega (arith, x, y, u, v, z))))
            | inr other ↦ (let t = start-other q other below in
                same-tally (tally_at new q) (tally_of after links q)
                (let x : (tally_at start q).differing ≡ count_from flips q true links = ap (λ t. t.differing) t in
                let y = turned-count q other true in omega (arith, x, y, d))
                (let x : (tally_at start q).agreeing ≡ count_from flips q false links = ap (λ t. t.agreeing) t in
                let y = turned-count q other false in omega (arith, x, y, a)))
          ]);
    }

    -- what waits before the tallies of the neighbours change
    pub turned-waits : (waiting : List (Reverse ℕ)) → GainsAt held tallies root → ((q : ℕ) → GainsAt held tallies q → q ≢ root → Waits waiting q)
        → AllWait held start waiting
    turned-waits waiting gains rest q g = elim (cases_eq q root) [
      | inl same ↦ absurd (let P : ℕ → Type 0 = λ r. (tally_at start r).agreeing < (tally_at start r).differing in
          let less : (tally_at start root).agreeing < (tally_at start root).differing = subst P same g.fewer in
          let d : (tally_at start root).differing ≡ (tally_at tallies root).agreeing = ap (λ x. x.differing) start-swapped in
          let a : (tally_at start root).agreeing ≡ (tally_at tallies root).differing = ap (λ x. x.agreeing) start-swapped in
          let more = gains.fewer in
          omega (arith, less, d, a, more))
      | inr other ↦ rest q (record {
        free = g.free;
        fewer = (let P : Tally → Type 0 = λ t. t.agreeing < t.differing in subst P
            (start-kept q other) g.fewer);
      }) other
    ] where
      start-swapped : tally_at start root ≡ exchanged (tally_at tallies root)
      start-swapped = get_or-set_same tallies root (exchanged (tally_at tallies root)) (record { differing = 0; agreeing = 0 }) room

module _ (held : Option ℕ) (links : List Link) (flips : List Bool) (tallies : List Tally) (h : AreTallies links flips tallies) where
  -- only a component with a tally gains
  pub gain-within : (root : ℕ) → GainsAt held tallies root → root < length flips
  gain-within root g = elim (cases_lt root (length flips)) [
    | inl l ↦ l
    | inr le ↦ absurd (let t : tally_at tallies root ≡ record { differing = 0; agreeing = 0 } = get_or_past tallies root
        (record { differing = 0; agreeing = 0 }) (let e = h.len in omega (arith, e, le)) in
        let d : (tally_at tallies root).differing ≡ 0 = ap (λ x. x.differing) t in
        let f = g.fewer in
        omega (arith, d, f))
  ]

  module _ (below : AreLinksBelow (length flips) links) where
    gains-by-tallies : (root : ℕ) → GainsBy held flips links root → GainsAt held tallies root
    gains-by-tallies root g =
        let t = h.each root (gains-below held flips links root (length flips) below g) in
        record { free = g.free; fewer = (let P : Tally → Type 0 = λ x. x.agreeing < x.differing in subst P (sym t) g.fewer) }

    gains-by-links : (root : ℕ) → GainsAt held tallies root → GainsBy held flips links root
    gains-by-links root g =
        record { free = g.free; fewer = (let P : Tally → Type 0 = λ x. x.agreeing < x.differing in subst P (h.each root (gain-within root g)) g.fewer) }

    -- the least that gains by its tally gains by its links
    pub least-by-links : (root : ℕ) → GainsAt held tallies root → ((other : ℕ) → GainsAt held tallies other → root ≤ other)
        → IsLeastGainBy held flips links root
    least-by-links root g least = record { gains = gains-by-links root g; least = λ other o. least other (gains-by-tallies other o) }

    pub none-by-links : ((root : ℕ) → GainsAt held tallies root → ⊥) → (root : ℕ) → GainsBy held flips links root → ⊥
    none-by-links none root g = none root (gains-by-tallies root g)
