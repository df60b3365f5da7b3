-- Zones across, as crossings.
use Rattle.std.proofs.Common.{◌≡◌, ◌≢◌, ℕ, ◌+◌, ◌<◌, inl, inr, Bool, true, false, not, ◌&&◌, ◌||◌, ltb, eqb, cond, List, [], ◌∷◌, length, get_or, sym, refl, ap, ◌∙◌, subst, arith}
use Rattle.std.specs.List.Sorted.{IsPermutation}
use Rattle.std.proofs.lemmas.Bool.{cases_eq, cases_lt, cases_order, eq-eqb, ne_eqb, lt-ltb, le-ltb, and_left, and_right}
use Rattle.std.proofs.lemmas.List.{get_or-map, length-map}
use Rattle.std.proofs.lemmas.List.Elements.{All-head, All-tail, All-cons, All-nil, All-append}
use Rattle.std.proofs.lemmas.List.Sums.{sum_by-cons, sum_by-append}
use Rattle.std.proofs.lemmas.List.Sorted.{sum_by-IsPermutation, All-permutation as permuted}
use Rattle.dpl_spec_split.specs.Colours.{differ, crosses, zones_across, is_flipped, AreColours}
use Rattle.dpl_stars.specs.declared.list.Star.{Star}
use Rattle.dpl_orient.specs.declared.chart.Rooted.{Rooted}
use Rattle.dpl_orient.specs.declared.crossing.Across.{Across}
use Rattle.dpl_orient.specs.declared.crossing.Crossing.{Crossing}
use Rattle.dpl_orient.specs.Rooted.{AreRooted, AreSidesBelow}
use Rattle.dpl_orient.specs.Chart.{own_root, rooted_at, IsChart, AreLow, roots_in, odds_in}
use Rattle.dpl_orient.specs.Oriented.{AreColoursOfRows}
use Rattle.dpl_orient.specs.Crossings.{crossing, crossing_between, crossings_of, crossings_at, GoUp, AreFlips, tally, is_flipped_by, colours_of}
use Rattle.dpl_orient.proofs.Letters.{differ-assoc, first-holds, none-holds, second-holds, neither-holds, third-none}
use Rattle.dpl_orient.proofs.Settling.{counts, unit}

-- the crossing of a zone between these pieces, if it is one
abbrev crossings_between : Rooted → Rooted → List Crossing
crossings_between s t = cond (not (eqb s.root t.root)) (crossing_between s t ∷ []) []

-- crossings go up
one-up : (s t : Rooted) → s.root ≢ t.root → (crossing_between s t).earlier < (crossing_between s t).later
one-up s t apart = elim (cases_lt t.root s.root) [
  | inl l ↦ rw (lt-ltb t.root s.root l) l
  | inr m ↦ rw (le-ltb t.root s.root m) (omega (arith, m, apart))
]

between-up : (s t : Rooted) → GoUp (crossings_between s t)
between-up s t = elim (cases_eq s.root t.root) [
  | inl same ↦ rw (eq-eqb s.root t.root same) (All-nil (λ c. c.earlier < c.later))
  | inr apart ↦ rw (ne_eqb s.root t.root apart) (All-cons (λ c. c.earlier < c.later) (crossing_between s t) [] (one-up s t apart) (All-nil (λ c. c.earlier < c.later)))
]

crossings-up : (chart : List Rooted) (sides : List (ℕ × ℕ)) → GoUp (crossings_of chart sides)
crossings-up chart [] = All-nil (λ c. c.earlier < c.later)
crossings-up chart (s ∷ sides) = All-append (λ c. c.earlier < c.later) (crossings_between (rooted_at chart s.0) (rooted_at chart s.1))
    (crossings_of chart sides) (between-up (rooted_at chart s.0) (rooted_at chart s.1)) (crossings-up chart sides)

pub sorted-up : (chart : List Rooted) (sides : List (ℕ × ℕ)) (xs : List Crossing) → IsPermutation (crossings_of chart sides) xs → GoUp xs
sorted-up chart sides xs p = permuted (λ c. c.earlier < c.later) (crossings_of chart sides) xs p (crossings-up chart sides)

-- the letter of a piece
abbrev letter : List Bool → Rooted → Bool
letter flips r = differ r.odd (get_or flips r.root false)

module _ (flips : List Bool) (root : ℕ) (wanted : Bool) (s t : Rooted) where
  -- what a zone between these pieces adds
  abbrev adds : Bool
  adds = ((eqb s.root root && ltb t.root root) && not (differ wanted (differ s.odd (letter flips t)))) ||
      ((eqb t.root root && ltb s.root root) && not (differ wanted (differ t.odd (letter flips s))))

  one : (c : Crossing) → adds ≡ counts flips root wanted c → unit adds ≡ tally flips root wanted (c ∷ [])
  one c e =
      let f = sum_by-cons (λ x. unit (counts flips root wanted x)) c [] in
      let g : unit adds ≡ unit (counts flips root wanted c) = ap unit e in
      omega (arith, f, g)

  adds-first : t.root < s.root → adds ≡ counts flips root wanted (crossing s.root t.root (differ s.odd t.odd))
  adds-first l =
      elim (cases_eq s.root root) [
        | inl same ↦ first-holds _ _ _ (ltb s.root root) _ _ _ (eq-eqb s.root root same) (lt-ltb t.root root (omega (arith, l, same)))
            (ne_eqb t.root root (λ e. omega (arith, l, same, e)))
            (ap (λ b. not (differ wanted b)) (differ-assoc s.odd t.odd (get_or flips t.root false)))
        | inr other ↦ none-holds _ (ltb t.root root) (eqb t.root root) (ltb s.root root) _ _ _ (ne_eqb s.root root other)
            (elim (cases_eq t.root root) [
              | inl e ↦ and_right _ _ (le-ltb s.root root (omega (arith, l, e)))
              | inr e ↦ and_left _ _ (ne_eqb t.root root e)
            ])
      ]

  adds-second : s.root < t.root → adds ≡ counts flips root wanted (crossing t.root s.root (differ t.odd s.odd))
  adds-second l =
      elim (cases_eq t.root root) [
        | inl same ↦ second-holds _ (ltb t.root root) _ _ _ _ _ (ne_eqb s.root root (λ e. omega (arith, l, same, e)))
            (eq-eqb t.root root same) (lt-ltb s.root root (omega (arith, l, same)))
            (ap (λ b. not (differ wanted b)) (differ-assoc t.odd s.odd (get_or flips s.root false)))
        | inr other ↦ third-none (eqb s.root root) (ltb t.root root) _ (ltb s.root root) _ _ _
            (elim (cases_eq s.root root) [
              | inl e ↦ and_right _ _ (le-ltb t.root root (omega (arith, l, e)))
              | inr e ↦ and_left _ _ (ne_eqb s.root root e)
            ]) (ne_eqb t.root root other)
      ]

  adds-none : s.root ≡ t.root → adds ≡ false
  adds-none same = neither-holds (eqb s.root root) (ltb t.root root) (eqb t.root root) (ltb s.root root) _ _
      (elim (cases_eq s.root root) [
        | inl e ↦ and_right _ _ (le-ltb t.root root (omega (arith, same, e)))
        | inr e ↦ and_left _ _ (ne_eqb s.root root e)
      ])
      (elim (cases_eq t.root root) [
        | inl e ↦ and_right _ _ (le-ltb s.root root (omega (arith, same, e)))
        | inr e ↦ and_left _ _ (ne_eqb t.root root e)
      ])

  pub adds-is : unit adds ≡ tally flips root wanted (crossings_between s t)
  adds-is = elim (cases_order s.root t.root) [
    | inl same ↦ rw (eq-eqb s.root t.root same) (ap unit (adds-none same))
    | inr apart ↦ elim apart [
      | inl l ↦ rw (ne_eqb s.root t.root (λ e. omega (arith, l, e)), le-ltb t.root s.root (omega (arith, l))) (one _ (adds-second l))
      | inr l ↦ rw (ne_eqb s.root t.root (λ e. omega (arith, l, e)), lt-ltb t.root s.root l) (one _ (adds-first l))
    ]
  ]

-- whether a zone is across, and its sides differ or agree
abbrev told : List ℕ → List Bool → List Bool → ℕ → Bool → ℕ × ℕ → Bool
told roots odds colours root wanted side =
    (crosses roots root side.0 side.1 && not (differ wanted (differ (get_or odds side.0 false) (get_or colours side.1 false))))
    || (crosses roots root side.1 side.0 && not (differ wanted (differ (get_or odds side.1 false) (get_or colours side.0 false))))

module _ (chart : List Rooted) (flips : List Bool) where
  root-at : (v : ℕ) → v < length chart → get_or (roots_in chart) v 0 ≡ (rooted_at chart v).root
  root-at v l = get_or-map (λ s. s.root) chart v (own_root v) 0 l

  odd-at : (v : ℕ) → v < length chart → get_or (odds_in chart) v false ≡ (rooted_at chart v).odd
  odd-at v l = get_or-map (λ s. s.odd) chart v (own_root v) false l

  letter-at : (v : ℕ) → v < length chart → get_or (colours_of chart flips) v false ≡ letter flips (rooted_at chart v)
  letter-at v l = get_or-map (λ s. differ s.odd (get_or flips s.root false)) chart v (own_root v) false l

  side-adds : (root : ℕ) (wanted : Bool) (side : ℕ × ℕ) → side.0 < length chart → side.1 < length chart →
      told (roots_in chart) (odds_in chart) (colours_of chart flips) root wanted side ≡ adds flips root wanted (rooted_at chart side.0) (rooted_at chart side.1)
  side-adds root wanted side l m = rw (root-at side.0 l, root-at side.1 m, odd-at side.0 l, odd-at side.1 m, letter-at side.0 l, letter-at side.1 m) refl

  across-crossings : (root : ℕ) (wanted : Bool) (sides : List (ℕ × ℕ)) → AreSidesBelow (length chart) sides →
      zones_across (roots_in chart) (odds_in chart) (colours_of chart flips) root wanted sides ≡ tally flips root wanted (crossings_of chart sides)
  across-crossings root wanted [] below = refl
  across-crossings root wanted (side ∷ sides) below =
      let within : (side.0 < length chart) × (side.1 < length chart) = All-head (λ (s : ℕ × ℕ). (s.0 < length chart) × (s.1 < length chart)) side sides below in
      let rest = across-crossings root wanted sides (All-tail (λ (s : ℕ × ℕ). (s.0 < length chart) × (s.1 < length chart)) side sides below) in
      sum_by-cons (λ s. unit (told (roots_in chart) (odds_in chart) (colours_of chart flips) root wanted s)) side sides
      ∙ (ap (λ n. n + zones_across (roots_in chart) (odds_in chart) (colours_of chart flips) root wanted sides)
      (ap unit (side-adds root wanted side within.0 within.1) ∙ adds-is flips root wanted (rooted_at chart side.0)
      (rooted_at chart side.1))
      ∙ (ap (λ n. tally flips root wanted (crossings_between (rooted_at chart side.0) (rooted_at chart side.1)) + n) rest
      ∙ sym (sum_by-append (λ c. unit (counts flips root wanted c)) (crossings_between (rooted_at chart side.0) (rooted_at chart side.1)) (crossings_of chart sides))))

  module _ (xs : List Crossing) (sides : List (ℕ × ℕ)) (same : IsPermutation (crossings_of chart sides) xs)
      (below : AreSidesBelow (length chart) sides) (low : AreLow chart) (len : length flips ≡ length chart)
      (settled : AreFlips xs flips) where
    across-sorted : (root : ℕ) (wanted : Bool) → zones_across (roots_in chart) (odds_in chart) (colours_of chart flips) root wanted sides ≡ tally flips root wanted xs
    across-sorted root wanted = across-crossings root wanted sides below ∙ sym (sum_by-IsPermutation (λ c. unit (counts flips root wanted c)) (crossings_of chart sides) xs same)

    flipped-is : (root : ℕ) → is_flipped (roots_in chart) (odds_in chart) (colours_of chart flips) sides root ≡ is_flipped_by flips root xs
    flipped-is root = ap (λ n. ltb n (zones_across (roots_in chart) (odds_in chart) (colours_of chart flips) root true sides))
        (across-sorted root false) ∙ ap (λ n. ltb (tally flips root false xs) n) (across-sorted root true)

    pub are-colours : AreColours (roots_in chart) (odds_in chart) sides (colours_of chart flips)
    are-colours = record {
      each = length-map chart (λ s. differ s.odd (get_or flips s.root false)) ∙ sym (length-map chart (λ s. s.root));
      colour = λ v l. (let within : v < length chart = omega (arith, l, length-map chart (λ s. s.root)) in
          let down = low v within in
          let flip : get_or flips (rooted_at chart v).root false ≡ is_flipped (roots_in chart) (odds_in chart)
          (colours_of chart flips) sides (rooted_at chart v).root = settled (rooted_at chart v).root (omega (arith, down, len, within))
          ∙ sym (flipped-is (rooted_at chart v).root) in
          letter-at v within ∙ (ap (λ b. differ (rooted_at chart v).odd b) flip
          ∙ (ap (λ o. differ o (is_flipped (roots_in chart) (odds_in chart) (colours_of chart flips) sides (rooted_at chart v).root)) (sym (odd-at v within))
          ∙ ap (λ r. differ (get_or (odds_in chart) v false) (is_flipped (roots_in chart) (odds_in chart) (colours_of chart flips) sides r)) (sym (root-at v within)))));
    }

-- the roots and the parities of a chart are those that the rows give
pub chart-rooted : (rows : List Star) (n : ℕ) (chart : List Rooted) → IsChart rows n chart → AreRooted rows n (roots_in chart) (odds_in chart)
chart-rooted rows n chart h = record {
  as_many_roots = length-map chart (λ s. s.root) ∙ h.len;
  as_many_odds = length-map chart (λ s. s.odd) ∙ h.len;
  star = λ v l. (let within : v < length chart = omega (arith, l, h.len) in rw (root-at chart [] v within, odd-at chart [] v within) (h.each v l));
}

-- the colours of the rows, step by step
pub rows-coloured : (rows : List Star) (n : ℕ) (sides : List (ℕ × ℕ)) (chart c b d : List Rooted) (across ks : List Across) (flips f : List Bool) (colours : List Bool) →
    AreSidesBelow n sides → IsChart rows n chart → AreLow chart → c ≡ chart
    → IsPermutation (crossings_of c sides) (crossings_at c sides across) → b ≡ chart → ks ≡ across → length flips ≡ n
    → AreFlips (crossings_at b sides ks) flips → d ≡ chart → f ≡ flips → colours ≡ colours_of d f → AreColoursOfRows rows n sides colours
rows-coloured rows n sides chart c b d across ks flips f colours below h low c_is same b_is ks_is len settled d_is f_is colours_is = record {
  roots = roots_in chart;
  odds = odds_in chart;
  rooted = chart-rooted rows n chart h;
  coloured =
      (let e : colours ≡ colours_of chart flips = colours_is ∙ (ap (λ r. colours_of r f) d_is ∙ ap (λ g. colours_of chart g) f_is) in
      let xs : crossings_at b sides ks ≡ crossings_at chart sides across = ap (λ r. crossings_at r sides ks) b_is ∙ ap (λ k. crossings_at chart sides k) ks_is in
      subst (λ cs. AreColours (roots_in chart) (odds_in chart) sides cs) (sym e)
      (are-colours chart flips (crossings_at chart sides across) sides
      (subst (λ r. IsPermutation (crossings_of r sides) (crossings_at r sides across)) c_is same)
      (subst (λ k. AreSidesBelow k sides) (sym h.len) below) low (len ∙ sym h.len) (subst (λ ys. AreFlips ys flips) xs settled)));
}
