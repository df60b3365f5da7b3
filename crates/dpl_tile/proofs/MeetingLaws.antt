-- Meetings of slabs.
use Rattle.std.proofs.Common.{◌≡◌, ℕ, ◌+◌, ◌-◌, ◌<◌, ◌≤◌, ◌⊎◌, inl, inr, false, List, length, get_or, take, drop, length-take, length-drop, Ordering, refl, sym, ap, ◌∙◌, subst, arith}
use Rattle.std.specs.Prelude.{◌↔◌}
use Rattle.std.specs.Ordering.{is_lt, nat_cmp, ordering_then}
use Rattle.std.specs.declared.cmp.Ordering.TheVariants.{Less, Equal, Greater}
use Rattle.std.specs.List.{Contains}
use Rattle.std.specs.List.Sorted.{IsSortedByKey}
use Rattle.std.proofs.lemmas.Bool.{cases_lt}
use Rattle.std.proofs.lemmas.Cmp.{ranked, nat_cmp_total, then_total, on_total}
use Rattle.std.proofs.lemmas.List.{get_or_default, get_or-drop, get_or-take}
use Rattle.std.proofs.lemmas.List.Sorted.{sorted_far, ranks_by}
use Rattle.dpl_spec_split.specs.declared.Spacing.{Spacing}
use Rattle.dpl_spec_split.specs.Graphs.{Precedes}
use Rattle.dpl_join.specs.declared.items.Item.{Item}
use Rattle.dpl_join.specs.Joins.{IsPairOf, Joined, home_of}
use Rattle.dpl_join.specs.Listing.{Lists}
use Rattle.dpl_join.specs.Pairs.{IsPair, item_at}
use Rattle.dpl_tile.specs.declared.grid.Grid.{Grid}
use Rattle.dpl_tile.specs.declared.meetings.Meeting.{Meeting}
use Rattle.dpl_tile.specs.Adding.{Adds}
use Rattle.dpl_tile.specs.Meetings.{AreAt, AreFoes, IsMeeting, IsMeetingAmong, IsMeetingOf, IsMetByPair, IsStart, RiseByPlace}
use Rattle.dpl_tile.proofs.Adding.{adds-same}
use Rattle.dpl_tile.proofs.Loops.{OfSome}
use Rattle.dpl_tile.proofs.Orders.{pair_cmp}

-- the meeting of a pair at a place
abbrev pub IsPlaced : ℕ × ℕ → ℕ × ℕ → Meeting → Type 0
IsPlaced pair place m = m ≡ record { place = place; first = pair.0; second = pair.1 }

abbrev pub HasPlace : ℕ × ℕ → List (ℕ × ℕ) → Meeting → Type 0
HasPlace pair places m = (m.first ≡ pair.0) × (m.second ≡ pair.1) × Contains places m.place

placed-items : (pair : ℕ × ℕ) (places : List (ℕ × ℕ)) (m : Meeting) → OfSome (IsPlaced pair) places m ↔ HasPlace pair places m
placed-items pair places m = (
  λ (place, c, e). (ap (λ (n : Meeting). n.first) e, ap (λ (n : Meeting). n.second) e, subst (Contains places) (sym (ap (λ (n : Meeting). n.place) e)) c),
  λ (f, s, c). (
    m.place,
    c,
    ap (λ (n : ℕ). let o : Meeting = record { place = m.place; first = n; second = m.second } in o) f
        ∙ ap (λ (n : ℕ). let o : Meeting = record { place = m.place; first = pair.0; second = n } in o) s,
  ),
)

pub placed-all : (pair : ℕ × ℕ) (places : List (ℕ × ℕ)) (old new : List Meeting) → Adds (OfSome (IsPlaced pair) places) old new → Adds (HasPlace pair places) old new
placed-all pair places old new h = adds-same (OfSome (IsPlaced pair) places) (HasPlace pair places) old new (placed-items pair places) h

pub adds-nothing : {X : Type 0} (Kind : X → Type 0) (xs : List X) → ((x : X) → Kind x → ⊥) → Adds Kind xs xs
adds-nothing Kind xs none e = (λ h. inl h, λ h. elim h [ inl a ↦ a | inr k ↦ absurd (none e k) ])

module _ (spacing : Spacing) (owners : List ℕ) (g : Grid) (items : List Item) where
  -- the meetings of a pair
  pub pair-meetings : (pair : ℕ × ℕ) (places : List (ℕ × ℕ)) (old new : List Meeting) → AreFoes spacing owners (item_at items pair.0) (item_at items pair.1)
      → ((e : ℕ × ℕ) → Contains places e ↔ IsMetByPair spacing.rule g (item_at items pair.0).rect (item_at items pair.1).rect e)
      → Adds (HasPlace pair places) old new → Adds (IsMeetingOf spacing owners g items pair) old new
  pair-meetings pair places old new foes same step = adds-same (HasPlace pair places) (IsMeetingOf spacing owners g items pair) old new
      (λ m. (
        λ (f, s, c). record { first = f; second = s; foes = foes; met = (same m.place).0 c },
        λ h. (h.first, h.second, (same m.place).1 h.met),
      )) step

  -- the meeting of a pair at its only place
  pub pair-meeting : (pair place : ℕ × ℕ) (old new : List Meeting) → AreFoes spacing owners (item_at items pair.0) (item_at items pair.1)
      → ((e : ℕ × ℕ) → (e ≡ place) ↔ IsMetByPair spacing.rule g (item_at items pair.0).rect (item_at items pair.1).rect e)
      → Adds (λ (m : Meeting). (m.first ≡ pair.0) × (m.second ≡ pair.1) × (m.place ≡ place)) old new → Adds (IsMeetingOf spacing owners g items pair) old new
  pair-meeting pair place old new foes same step = adds-same (λ (m : Meeting). (m.first ≡ pair.0) × (m.second ≡ pair.1) × (m.place ≡ place)) (IsMeetingOf spacing owners g items pair) old new
      (λ m. (
        λ (f, s, c). record { first = f; second = s; foes = foes; met = (same m.place).0 c },
        λ h. (h.first, h.second, (same m.place).1 h.met),
      )) step

-- a meeting whose pair counts in strip k
abbrev pub IsMeetingIn : Spacing → List ℕ → Grid → Joined → ℕ → Meeting → Type 0
IsMeetingIn spacing owners g join k m = (home_of join (m.first, m.second) ≡ k) × IsMeeting spacing owners g join.items m

pub strip-pairs : (spacing : Spacing) (join : Joined) (k : ℕ) (pairs : List (ℕ × ℕ)) → join.rule ≡ spacing.rule → Lists (IsPairOf join k) pairs
    → (p : ℕ × ℕ) → Contains pairs p → IsPair spacing.rule join.items p
strip-pairs spacing join k pairs rule lists p p_in = subst (λ r. IsPair r join.items p) rule ((lists.all p).0 p_in).pair

module _ (spacing : Spacing) (owners : List ℕ) (g : Grid) (join : Joined) where
  pub among-strip : (k : ℕ) (pairs : List (ℕ × ℕ)) → join.rule ≡ spacing.rule → Lists (IsPairOf join k) pairs
      → (m : Meeting) → IsMeetingAmong spacing owners g join.items pairs m ↔ IsMeetingIn spacing owners g join k m
  among-strip k pairs rule lists m = (
    λ (pair, pair_in, of).
        let same : pair ≡ (m.first, m.second) = ap (λ (n : ℕ). (n, pair.1)) (sym of.first) ∙ ap (λ (n : ℕ). (m.first, n)) (sym of.second) in
        let here = subst (IsPairOf join k) same ((lists.all pair).0 pair_in) in
        (here.here, (subst (λ r. IsPair r join.items (m.first, m.second)) rule here.pair, subst (λ p. IsMeetingOf spacing owners g join.items p m) same of)),
    λ (home, (pair, of)). ((m.first, m.second), (lists.all (m.first, m.second)).1 (record { pair = subst (λ r. IsPair r join.items (m.first, m.second)) (sym rule) pair; here = home }), of),
  )

-- ---- in order

not-before : (x y z w : ℕ) (r : Ordering) → r ≡ nat_cmp x y → is_lt (ordering_then r (nat_cmp z w)) ≡ false → ((x < y) ⊎ ((x ≡ y) × (z < w))) → ⊥
not-before x y z w Less e h k = absurd (cc)
not-before x y z w Equal e h (inl l) = let same : x ≡ y = ranked x y Equal e in omega (arith, same, l)
not-before x y z w Equal e h (inr (s, l)) = last z w (nat_cmp z w) refl h l
  where
    last : (z w : ℕ) (r : Ordering) → r ≡ nat_cmp z w → is_lt r ≡ false → z < w → ⊥
    last z w Less e h l = absurd (cc)
    last z w Equal e h l = let same : z ≡ w = ranked z w Equal e in omega (arith, same, l)
    last z w Greater e h l = let m : w < z = ranked z w Greater e in omega (arith, m, l)
not-before x y z w Greater e h (inl l) = let m : y < x = ranked x y Greater e in omega (arith, m, l)
not-before x y z w Greater e h (inr (s, l)) = let m : y < x = ranked x y Greater e in omega (arith, m, s)

pub rise-by_place : (ms : List Meeting) → IsSortedByKey (λ (m : Meeting). m.place) pair_cmp ms → RiseByPlace ms
rise-by_place ms h i j d l within before =
    not-before (get_or ms j d).place.0 (get_or ms i d).place.0 (get_or ms j d).place.1 (get_or ms i d).place.1 (nat_cmp (get_or ms j d).place.0 (get_or ms i d).place.0) refl
    (sorted_far (λ (a b : Meeting). is_lt (pair_cmp a.place b.place)) (ranks_by
    (then_total (on_total (λ t. t.0) nat_cmp_total) (on_total (λ t. t.1) nat_cmp_total)) (λ (m : Meeting). m.place)) ms h i j d l within) before

-- ---- those of a place

precedes-trans : (e f g : ℕ × ℕ) → Precedes e f → Precedes f g → Precedes e g
precedes-trans e f g (inl a) (inl b) = inl (omega (arith, a, b))
precedes-trans e f g (inl a) (inr (s, b)) = inl (omega (arith, a, s))
precedes-trans e f g (inr (s, a)) (inl b) = inl (omega (arith, s, b))
precedes-trans e f g (inr (s, a)) (inr (t, b)) = inr (s ∙ t, omega (arith, a, b))

precedes-none : (e : ℕ × ℕ) → Precedes e e → ⊥
precedes-none e (inl l) = omega (arith, l)
precedes-none e (inr (s, l)) = omega (arith, l)

-- of two places one goes before the other, or they are one
order : (e f : ℕ × ℕ) → (e ≡ f) ⊎ (Precedes e f ⊎ Precedes f e)
order e f = elim (cases_lt e.0 f.0) [
  | inl l ↦ inr (inl (inl l))
  | inr m ↦ elim (cases_lt f.0 e.0) [
    | inl l ↦ inr (inr (inl l))
    | inr n ↦ (let same : e.0 ≡ f.0 = omega (arith, m, n) in
        elim (cases_lt e.1 f.1) [
          | inl l ↦ inr (inl (inr (same, l)))
          | inr o ↦ elim (cases_lt f.1 e.1) [
            | inl l ↦ inr (inr (inr (sym same, l)))
            | inr q ↦ (let also : e.1 ≡ f.1 = omega (arith, o, q) in inl (ap (λ (n : ℕ). (n, e.1)) same ∙ ap (λ (n : ℕ). (f.0, n)) also))
          ]
        ])
  ]
]

module _ (ms : List Meeting) (place : ℕ × ℕ) (rise : RiseByPlace ms) where
  -- where one goes before the place, so do all that stand earlier
  pub half-under : (middle : ℕ) (d : Meeting) → middle < length ms → Precedes (get_or ms middle d).place place
      → (k : ℕ) (e : Meeting) → k < middle + 1 → k < length ms → Precedes (get_or ms k e).place place
  half-under middle d m_in under k e l k_in =
      let here : Precedes (get_or ms middle e).place place = subst (λ (u : Meeting). Precedes u.place place) (get_or_default ms middle d e m_in) under in
      elim (order (get_or ms k e).place place) [
        | inl same ↦ absurd (rise k middle e (omega (arith, l)) m_in (subst (Precedes (get_or ms middle e).place) (sym same) here))
        | inr o ↦ elim o [
          | inl b ↦ b
          | inr b ↦ absurd (rise k middle e (omega (arith, l)) m_in (precedes-trans (get_or ms middle e).place place (get_or ms k e).place here b))
        ]
      ]

  -- where one doesn't, no later one does
  pub half-over : (middle : ℕ) (d : Meeting) → middle < length ms → (Precedes (get_or ms middle d).place place → ⊥)
      → (k : ℕ) (e : Meeting) → middle ≤ k → k < length ms → Precedes (get_or ms k e).place place → ⊥
  half-over middle d m_in over k e l k_in before =
      let here : Precedes (get_or ms middle e).place place → ⊥ = λ h. over (subst (λ (u : Meeting). Precedes u.place place) (get_or_default ms middle e d m_in) h) in
      elim (order (get_or ms middle e).place (get_or ms k e).place) [
        | inl same ↦ here (subst (λ u. Precedes u place) (sym same) before)
        | inr o ↦ elim o [
          | inl b ↦ here (precedes-trans (get_or ms middle e).place (get_or ms k e).place place b before)
          | inr b ↦ rise middle k e l k_in b
        ]
      ]

  module _ (a b : ℕ) (start : IsStart ms place a) (at : AreAt ms place a b) where
    size : length (take (b - a) (drop a ms)) ≡ b - a
    size = let within = at.within in let t = length-take (b - a) (drop a ms) in let d = length-drop a ms in omega (arith, t, d, within)

    element : (k : ℕ) (d : Meeting) → k < b - a → get_or (take (b - a) (drop a ms)) k d ≡ get_or ms (a + k) d
    element k d l = get_or-take (b - a) (drop a ms) k d l ∙ get_or-drop a ms k d

    not-later : (k : ℕ) (m : Meeting) → b ≤ k → k < length ms → get_or ms k m ≡ m → m.place ≡ place → ⊥
    not-later k m l k_in e same =
        let b_in : b < length ms = omega (arith, l, k_in) in
        let from = at.from in
        elim (order (get_or ms b m).place place) [
          | inl here ↦ at.next m b_in here
          | inr o ↦ elim o [
            | inl before ↦ start.over b m from b_in before
            | inr after ↦ rise b k m l k_in (subst (λ u. Precedes u (get_or ms b m).place) (sym (ap (λ (u : Meeting). u.place) e ∙ same)) after)
          ]
        ]

    not-earlier : (k : ℕ) (m : Meeting) → k < a → k < length ms → get_or ms k m ≡ m → m.place ≡ place → ⊥
    not-earlier k m l k_in e same = precedes-none place (subst (λ u. Precedes u place) (ap (λ (u : Meeting). u.place) e ∙ same) (start.under k m l k_in))

    -- they stand side by side
    pub slice-at : (m : Meeting) → Contains (take (b - a) (drop a ms)) m ↔ (Contains ms m × (m.place ≡ place))
    slice-at m = (
      (λ (k, k_in, e).
          let within = at.within in
          let l : k < b - a = subst (λ n. k < n) size k_in in
          let is : get_or ms (a + k) m ≡ m = sym (element k m l) ∙ e in
          ((a + k, omega (arith, l, within), is), sym (ap (λ (u : Meeting). u.place) is) ∙ at.here (a + k) m (omega arith) (omega (arith, l)))),
      λ ((k, k_in, e), same).
          let low : a ≤ k = elim (cases_lt k a) [ inl l ↦ absurd (not-earlier k m l k_in e same) | inr l ↦ l ] in
          let top : k < b = elim (cases_lt k b) [ inl l ↦ l | inr l ↦ absurd (not-later k m l k_in e same) ] in
          let l : k - a < b - a = omega (arith, low, top) in
          let back : a + (k - a) ≡ k = omega (arith, low) in
          (k - a, subst (λ n. k - a < n) (sym size) l, element (k - a) m l ∙ (ap (λ n. get_or ms n m) back ∙ e)),
    )
