-- Links and the letters that they stand for.
use Rattle.std.proofs.Common.{◌≡◌, ◌≢◌, ℕ, zero, suc, ◌+◌, ◌<◌, inl, inr, Bool, true, false, not, ◌&&◌, eqb, cond, List, [], ◌∷◌, ◌++◌, length, get_or, set, take, sym, refl, ap, ◌∙◌, arith}
use Rattle.std.proofs.Common.{append_assoc}
use Rattle.std.specs.Prelude.{count_by, replicate}
use Rattle.std.specs.List.{All}
use Rattle.std.specs.List.Sorted.{IsPermutation}
use Rattle.std.proofs.lemmas.Bool.{cases_eq, cases_lt, eq-eqb, ne_eqb, eqb-true as eqb-is, cond-true, cond-false}
use Rattle.std.proofs.lemmas.List.{get_or-map, get_or_default, take_more, get_or-set_same, get_or-set_other, get_or-replicate, get_or_past, length-replicate, append-nil}
use Rattle.std.proofs.lemmas.Grind.{flat_map-append}
use Rattle.std.proofs.lemmas.List.Elements.{All-head, All-tail, All-cons, All-nil}
use Rattle.std.proofs.lemmas.List.Sums.{sum_by-cons, sum_by-append}
use Rattle.std.proofs.lemmas.List.Sorted.{sum_by-IsPermutation, All-permutation as permuted}
use Rattle.dpl_spec_split.specs.Colours.{differ, colour_at}
use Rattle.dpl_spec_fewer.specs.Fewer.{flipped, leaves, zones_out}
use Rattle.dpl_orient.specs.declared.chart.Rooted.{Rooted}
use Rattle.dpl_orient.specs.declared.links.Link.{Link}
use Rattle.dpl_orient.specs.Rooted.{AreSidesBelow}
use Rattle.dpl_orient.specs.Chart.{own_root, rooted_at, roots_in, AreLow}
use Rattle.dpl_orient.specs.Crossings.{is_across}
use Rattle.dpl_orient.specs.Links.{link_of, links_of, AreLinksBelow, differs_by, count_from, letters_of}
use Rattle.dpl_orient.specs.Tallies.{AreMutual}
use Rattle.dpl_orient.proofs.Settling.{unit}

-- whether a link counts
abbrev pub counted : List Bool → ℕ → Bool → Link → Bool
counted flips root wanted l = eqb l.from root && not (differ wanted (differs_by flips l))

pub length-letters : (chart : List Rooted) (colours flips : List Bool) → length colours ≡ length chart → length
    (letters_of chart colours flips) ≡ length chart
length-letters [] [] flips same = refl
length-letters [] (c ∷ colours) flips same = refl
length-letters (r ∷ chart) [] flips same = absurd (let e : 0 ≡ suc (length chart) = same in omega (arith, e))
length-letters (r ∷ chart) (c ∷ colours) flips same = ap suc (length-letters chart colours flips (let e : suc (length colours) ≡ suc
    (length chart) = same in omega (arith, e)))

pub letter-at : (chart : List Rooted) (colours flips : List Bool) (v : ℕ) (d : Rooted) → length colours ≡ length chart → v < length chart
    → colour_at (letters_of chart colours flips) v ≡ differ (get_or flips (get_or chart v d).root false) (colour_at colours v)
letter-at [] colours flips v d same l = absurd (omega (arith, l))
letter-at (r ∷ chart) [] flips v d same l = absurd (let e : 0 ≡ suc (length chart) = same in omega (arith, e))
letter-at (r ∷ chart) (c ∷ colours) flips zero d same l = refl
letter-at (r ∷ chart) (c ∷ colours) flips (suc v) d same l =
    letter-at chart colours flips v d (let e : suc (length colours) ≡ suc (length chart) = same in omega (arith, e)) (let m : suc v < suc
    (length chart) = l in omega (arith, m))

not-differ : (a b : Bool) → differ (not a) b ≡ not (differ a b)
not-differ false b = refl
not-differ true false = refl
not-differ true true = refl

-- the letters after a component is flipped
pub letters-flip : (chart : List Rooted) (colours flips : List Bool) (root : ℕ) → root < length flips →
    letters_of chart colours (set flips root (not (get_or flips root false))) ≡ flipped (roots_in chart) root (letters_of chart colours flips)
letters-flip [] colours flips root l = refl
letters-flip (r ∷ chart) [] flips root l = refl
letters-flip (r ∷ chart) (c ∷ colours) flips root l =
    let here : differ (get_or (set flips root (not (get_or flips root false))) r.root false) c ≡ differ (eqb r.root root) (differ
    (get_or flips r.root false) c) = elim (cases_eq r.root root) [
      | inl same ↦ rw (eq-eqb r.root root same, same, get_or-set_same flips root (not (get_or flips root false)) false l) (not-differ
          (get_or flips root false) c)
      | inr other ↦ rw (ne_eqb r.root root other, get_or-set_other flips root r.root (not (get_or flips root false)) false other) refl
    ] in
    let rest = letters-flip chart colours flips root l in
    cc

none-flipped : (n r : ℕ) → get_or (replicate n false) r false ≡ false
none-flipped n r = elim (cases_lt r n) [
  | inl below ↦ get_or-replicate n r false false below
  | inr above ↦ get_or_past (replicate n false) r false (let e = length-replicate n false in omega (arith, above, e))
]

-- where no component is flipped
pub letters-none : (chart : List Rooted) (colours : List Bool) (n : ℕ) → length colours ≡ length chart → letters_of chart colours
    (replicate n false) ≡ colours
letters-none [] [] n same = refl
letters-none [] (c ∷ colours) n same = absurd (let e : suc (length colours) ≡ 0 = same in omega (arith, e))
letters-none (r ∷ chart) [] n same = refl
letters-none (r ∷ chart) (c ∷ colours) n same =
    let here : differ (get_or (replicate n false) r.root false) c ≡ c = rw (none-flipped n r.root) refl in
    let rest = letters-none chart colours n (let e : suc (length colours) ≡ suc (length chart) = same in omega (arith, e)) in
    cc

-- the sides of a zone with letters x and y, whose components are flipped where f and g say so
state-first : (x y f g : Bool) → differ (differ x y) (differ f g) ≡ differ (differ f x) (differ g y)
state-first false false false false = refl
state-first false false false true = refl
state-first false false true false = refl
state-first false false true true = refl
state-first false true false false = refl
state-first false true false true = refl
state-first false true true false = refl
state-first false true true true = refl
state-first true false false false = refl
state-first true false false true = refl
state-first true false true false = refl
state-first true false true true = refl
state-first true true false false = refl
state-first true true false true = refl
state-first true true true false = refl
state-first true true true true = refl

differ-mutual : (a b : Bool) → differ a b ≡ differ b a
differ-mutual false false = refl
differ-mutual false true = refl
differ-mutual true false = refl
differ-mutual true true = refl

-- a zone of which at most one side is in the component counts once
pub one-of-two : (a b u : Bool) → (a ≡ true → b ≡ true → ⊥) → unit (a && u) + unit (b && u) ≡ unit (differ a b && u)
one-of-two false false u apart = refl
one-of-two false true false apart = refl
one-of-two false true true apart = refl
one-of-two true false false apart = refl
one-of-two true false true apart = refl
one-of-two true true u apart = absurd (apart refl refl)

none-of-two : (a u : Bool) → unit (differ a a && u) ≡ 0
none-of-two false u = refl
none-of-two true u = refl

-- the links of a zone
abbrev picked_of : List Rooted → List Bool → ℕ × ℕ → List Link
picked_of chart colours side = cond (is_across chart side) (link_of chart colours side.0 side.1 ∷ (link_of chart colours side.1 side.0 ∷ [])) []

module _ (chart : List Rooted) (colours flips : List Bool) (same : length colours ≡ length chart) where
  abbrev letters : List Bool
  letters = letters_of chart colours flips

  state-of : (u v : ℕ) → u < length chart → v < length chart → differs_by flips (link_of chart colours u v) ≡ differ (colour_at letters u)
      (colour_at letters v)
  state-of u v l m = rw (letter-at chart colours flips u (own_root u) same l, letter-at chart colours flips v (own_root v) same m)
      (state-first (colour_at colours u) (colour_at colours v) (get_or flips (rooted_at chart u).root false) (get_or flips (rooted_at chart v).root false))

  root-in : (v : ℕ) → v < length chart → get_or (roots_in chart) v 0 ≡ (rooted_at chart v).root
  root-in v l = get_or-map (λ s. s.root) chart v (own_root v) 0 l

  module _ (root : ℕ) (wanted : Bool) where
    abbrev told : ℕ × ℕ → Bool
    told side = leaves (roots_in chart) root side && not (differ wanted (differ (colour_at letters side.0) (colour_at letters side.1)))

    two : (a b : Link) → count_from flips root wanted (a ∷ (b ∷ [])) ≡ unit (counted flips root wanted a) + unit (counted flips root wanted b)
    two a b =
        let e = sum_by-cons (λ (l : Link). unit (counted flips root wanted l)) a (b ∷ []) in
        let f = sum_by-cons (λ (l : Link). unit (counted flips root wanted l)) b [] in
        omega (arith, e, f)

    one-side : (side : ℕ × ℕ) → side.0 < length chart → side.1 < length chart → count_from flips root wanted (picked_of chart colours side) ≡ unit (told side)
    one-side side l m =
        let s = (rooted_at chart side.0).root in
        let t = (rooted_at chart side.1).root in
        let x = differ (colour_at letters side.0) (colour_at letters side.1) in
        let told-is : unit (told side) ≡ unit (differ (eqb s root) (eqb t root) && not (differ wanted x)) = rw (root-in side.0 l, root-in side.1 m) refl in
        elim (cases_eq s t) [
          | inl e ↦ (let none : unit (differ (eqb s root) (eqb t root) && not (differ wanted x)) ≡ 0 = rw (← e) (none-of-two (eqb s root) (not
              (differ wanted x))) in
              rw (eq-eqb s t e) (sym (told-is ∙ none)))
          | inr e ↦ (
              let first : counted flips root wanted (link_of chart colours side.0 side.1) ≡ (eqb s root && not (differ wanted x)) = ap
              (λ y. eqb s root && not (differ wanted y)) (state-of side.0 side.1 l m) in
              let second : counted flips root wanted (link_of chart colours side.1 side.0) ≡ (eqb t root && not (differ wanted x)) =
              ap (λ y. eqb t root && not (differ wanted y)) (state-of side.1 side.0 m l ∙ differ-mutual (colour_at letters side.1)
              (colour_at letters side.0)) in
              let joined : unit (eqb s root && not (differ wanted x)) + unit (eqb t root && not (differ wanted x)) ≡ unit (differ (eqb s root)
              (eqb t root) && not (differ wanted x)) =
              one-of-two (eqb s root) (eqb t root) (not (differ wanted x)) (λ i j. e (eqb-is s root i ∙ sym (eqb-is t root j))) in
              rw (ne_eqb s t e) (two (link_of chart colours side.0 side.1) (link_of chart colours side.1 side.0)
              ∙ (ap (λ b. unit b + unit (counted flips root wanted (link_of chart colours side.1 side.0))) first
              ∙ (ap (λ b. unit (eqb s root && not (differ wanted x)) + unit b) second ∙ (joined ∙ sym told-is)))))
        ]

    -- the links of zones count as their sides do
    pub count-links : (sides : List (ℕ × ℕ)) → AreSidesBelow (length chart) sides → count_from flips root wanted
        (links_of chart colours sides) ≡ zones_out (roots_in chart) letters root wanted sides
    count-links [] below = refl
    count-links (side ∷ sides) below =
        let within : (side.0 < length chart) × (side.1 < length chart) = All-head (λ (s : ℕ × ℕ). (s.0 < length chart) ×
        (s.1 < length chart)) side sides below in
        let rest = count-links sides (All-tail (λ (s : ℕ × ℕ). (s.0 < length chart) × (s.1 < length chart)) side sides below) in
        let here = one-side side within.0 within.1 in
        let a = sum_by-append (λ (l : Link). unit (counted flips root wanted l)) (picked_of chart colours side) (links_of chart colours sides) in
        let b = sum_by-cons (λ (s : ℕ × ℕ). unit (told s)) side sides in
        omega (arith, rest, here, a, b)

BelowAll-cons : (n : ℕ) (a b : Link) (links : List Link) → (a.from < n) × (a.to < n) → (b.from < n) × (b.to < n) → AreLinksBelow n links
    → AreLinksBelow n (a ∷ (b ∷ links))
BelowAll-cons n a b links h i below = All-cons (λ (l : Link). (l.from < n) × (l.to < n)) a (b ∷ links) h (All-cons (λ (l : Link). (l.from < n) ×
    (l.to < n)) b links i below)

links-one_more : (chart : List Rooted) (colours : List Bool) (sides : List (ℕ × ℕ)) (k : ℕ) → k < length sides
    → links_of chart colours (take (k + 1) sides) ≡ links_of chart colours (take k sides) ++ picked_of chart colours (get_or sides k (0, 0))
links-one_more chart colours sides k within =
    ap (links_of chart colours) (take_more sides k (0, 0) within)
    ∙ (flat_map-append (picked_of chart colours) (take k sides) (get_or sides k (0, 0) ∷ [])
    ∙ ap (λ ls. links_of chart colours (take k sides) ++ ls) (append-nil (picked_of chart colours (get_or sides k (0, 0)))))

-- one zone more, between two components or within one
pub links-across : (chart : List Rooted) (colours : List Bool) (sides : List (ℕ × ℕ)) (k : ℕ) → k < length sides → is_across chart (get_or sides k (0, 0)) ≡ true
    → links_of chart colours (take (k + 1) sides) ≡ (links_of chart colours (take k sides)
    ++ link_of chart colours (get_or sides k (0, 0)).0 (get_or sides k (0, 0)).1 ∷ []) ++ link_of chart colours (get_or sides k (0, 0)).1 (get_or sides k (0, 0)).0 ∷ []
links-across chart colours sides k within apart =
    links-one_more chart colours sides k within
    ∙ (ap (λ ls. links_of chart colours (take k sides) ++ ls) (cond-true (is_across chart (get_or sides k (0, 0))) _ _ apart)
    ∙ sym (append_assoc (links_of chart colours (take k sides)) _ _))

pub links-within : (chart : List Rooted) (colours : List Bool) (sides : List (ℕ × ℕ)) (k : ℕ) → k < length sides → is_across chart (get_or sides k (0, 0)) ≡ false
    → links_of chart colours (take (k + 1) sides) ≡ links_of chart colours (take k sides)
links-within chart colours sides k within joined =
    links-one_more chart colours sides k within
    ∙ (ap (λ ls. links_of chart colours (take k sides) ++ ls) (cond-false (is_across chart (get_or sides k (0, 0))) _ _ joined)
    ∙ append-nil (links_of chart colours (take k sides)))

-- links join components below the number of pieces
pub links-below : (chart : List Rooted) (colours : List Bool) (sides : List (ℕ × ℕ)) → AreLow chart → AreSidesBelow (length chart) sides
    → AreLinksBelow (length chart) (links_of chart colours sides)
links-below chart colours [] low below = All-nil (λ (l : Link). (l.from < length chart) × (l.to < length chart))
links-below chart colours (side ∷ sides) low below =
    let within : (side.0 < length chart) × (side.1 < length chart) = All-head (λ (s : ℕ × ℕ). (s.0 < length chart) × (s.1 < length chart)) side sides below in
    let rest = links-below chart colours sides low (All-tail (λ (s : ℕ × ℕ). (s.0 < length chart) × (s.1 < length chart)) side sides below) in
    let first : (rooted_at chart side.0).root < length chart = let l = low side.0 within.0 in omega (arith, l, within.0) in
    let second : (rooted_at chart side.1).root < length chart = let l = low side.1 within.1 in omega (arith, l, within.1) in
    elim (cases_eq (rooted_at chart side.0).root (rooted_at chart side.1).root) [
      | inl e ↦ rw (eq-eqb (rooted_at chart side.0).root (rooted_at chart side.1).root e) rest
      | inr e ↦ rw (ne_eqb (rooted_at chart side.0).root (rooted_at chart side.1).root e)
          (BelowAll-cons (length chart) (link_of chart colours side.0 side.1) (link_of chart colours side.1 side.0) (links_of chart colours sides)
          (first, second) (second, first) rest)
    ]

-- one more letter
pub letters-more : (chart : List Rooted) (colours flips : List Bool) (p : ℕ) (d : Rooted) (e : Bool) → length colours ≡ length chart → p < length colours →
    take (p + 1) (letters_of chart colours flips) ≡ take p (letters_of chart colours flips) ++ differ (get_or flips (get_or chart p d).root false)
    (get_or colours p e) ∷ []
letters-more chart colours flips p d e same l =
    let many = length-letters chart colours flips same in
    take_more (letters_of chart colours flips) p false (omega (arith, l, many, same))
    ∙ ap (λ b. take p (letters_of chart colours flips) ++ b ∷ []) (letter-at chart colours flips p d same (omega (arith, l, same))
    ∙ ap (differ (get_or flips (get_or chart p d).root false)) (get_or_default colours p false e l))

and-swap : (a b u : Bool) → ((a && b) && u) ≡ ((b && a) && u)
and-swap false false u = refl
and-swap false true u = refl
and-swap true false u = refl
and-swap true true u = refl

-- whether a link leads from p to q, and its sides differ, or agree
abbrev leads : List Bool → ℕ → ℕ → Bool → Link → Bool
leads flips p q wanted l = (eqb l.from p && eqb l.to q) && not (differ wanted (differs_by flips l))

module _ (chart : List Rooted) (colours flips : List Bool) (p q : ℕ) (wanted : Bool) where
  same-state : (u v : ℕ) → differs_by flips (link_of chart colours u v) ≡ differs_by flips (link_of chart colours v u)
  same-state u v =
      ap (λ b. differ b (differ (get_or flips (rooted_at chart u).root false) (get_or flips (rooted_at chart v).root false))) (differ-mutual
      (colour_at colours u) (colour_at colours v))
      ∙ ap (differ (differ (colour_at colours v) (colour_at colours u))) (differ-mutual (get_or flips (rooted_at chart u).root false) (get_or flips
      (rooted_at chart v).root false))

  there-and-back : (u v : ℕ) → leads flips p q wanted (link_of chart colours u v) ≡ leads flips q p wanted (link_of chart colours v u)
  there-and-back u v =
      and-swap (eqb (rooted_at chart u).root p) (eqb (rooted_at chart v).root q) (not (differ wanted (differs_by flips (link_of chart colours u v))))
      ∙ ap (λ b. (eqb (rooted_at chart v).root q && eqb (rooted_at chart u).root p) && not (differ wanted b)) (same-state u v)

  two-lead : (p q : ℕ) (a b : Link) → count_by (leads flips p q wanted) (a ∷ (b ∷ [])) ≡ unit (leads flips p q wanted a) + unit (leads flips p q wanted b)
  two-lead p q a b =
      let e = sum_by-cons (λ (l : Link). unit (leads flips p q wanted l)) a (b ∷ []) in
      let f = sum_by-cons (λ (l : Link). unit (leads flips p q wanted l)) b [] in
      omega (arith, e, f)

  one-both : (side : ℕ × ℕ) → count_by (leads flips p q wanted) (picked_of chart colours side) ≡ count_by (leads flips q p wanted)
      (picked_of chart colours side)
  one-both side = elim (cases_eq (rooted_at chart side.0).root (rooted_at chart side.1).root) [
    | inl e ↦ rw (eq-eqb (rooted_at chart side.0).root (rooted_at chart side.1).root e) refl
    | inr e ↦ (let a = link_of chart colours side.0 side.1 in
        let b = link_of chart colours side.1 side.0 in
        let x : unit (leads flips p q wanted a) ≡ unit (leads flips q p wanted b) = ap unit (there-and-back side.0 side.1) in
        let y : unit (leads flips p q wanted b) ≡ unit (leads flips q p wanted a) = ap unit (there-and-back side.1 side.0) in
        let m = two-lead p q a b in
        let n = two-lead q p a b in
        let both : count_by (leads flips p q wanted) (a ∷ (b ∷ [])) ≡ count_by (leads flips q p wanted) (a ∷ (b ∷ [])) = omega (arith, m, n, x, y) in
        rw (ne_eqb (rooted_at chart side.0).root (rooted_at chart side.1).root e) both)
  ]

  both-of : (sides : List (ℕ × ℕ)) → count_by (leads flips p q wanted) (links_of chart colours sides) ≡ count_by (leads flips q p wanted)
      (links_of chart colours sides)
  both-of [] = refl
  both-of (side ∷ sides) =
      let here = one-both side in
      let rest = both-of sides in
      let a = sum_by-append (λ (l : Link). unit (leads flips p q wanted l)) (picked_of chart colours side) (links_of chart colours sides) in
      let b = sum_by-append (λ (l : Link). unit (leads flips q p wanted l)) (picked_of chart colours side) (links_of chart colours sides) in
      omega (arith, here, rest, a, b)

apart-of : (chart : List Rooted) (colours : List Bool) (sides : List (ℕ × ℕ)) → All (λ (l : Link). l.from ≢ l.to) (links_of chart colours sides)
apart-of chart colours [] = All-nil (λ (l : Link). l.from ≢ l.to)
apart-of chart colours (side ∷ sides) =
    let rest = apart-of chart colours sides in
    elim (cases_eq (rooted_at chart side.0).root (rooted_at chart side.1).root) [
      | inl e ↦ rw (eq-eqb (rooted_at chart side.0).root (rooted_at chart side.1).root e) rest
      | inr e ↦ rw (ne_eqb (rooted_at chart side.0).root (rooted_at chart side.1).root e)
          (All-cons (λ (l : Link). l.from ≢ l.to) (link_of chart colours side.0 side.1) (link_of chart colours side.1 side.0 ∷ links_of chart colours sides) e
          (All-cons (λ (l : Link). l.from ≢ l.to) (link_of chart colours side.1 side.0) (links_of chart colours sides) (λ f. e (sym f)) rest))
    ]

-- there are both links of each zone between two components
pub links-paired : (chart : List Rooted) (colours : List Bool) (sides : List (ℕ × ℕ)) (links : List Link) → IsPermutation
    (links_of chart colours sides) links → AreMutual links
links-paired chart colours sides links same = record {
  apart = permuted (λ (l : Link). l.from ≢ l.to) (links_of chart colours sides) links same (apart-of chart colours sides);
  both = λ flips p q wanted. sum_by-IsPermutation (λ (l : Link). unit (leads flips p q wanted l)) (links_of chart colours sides) links same
      ∙ (both-of chart colours flips p q wanted sides ∙ sym (sum_by-IsPermutation (λ (l : Link). unit (leads flips q p wanted l))
      (links_of chart colours sides) links same));
}
