-- Masks have as many stitches as there are zones whose sides differ, so those with fewer stitches have no more of them.
use Rattle.std.proofs.Common.{◌≡◌, ℕ, zero, suc, ◌+◌, ◌<◌, ◌≤◌, inl, inr, Bool, true, false, cond, List, [], ◌∷◌, length, get_or, refl, sym, ap, ◌∙◌, subst, arith}
use Rattle.std.specs.Prelude.{◌↔◌, Option, Some, None, count_by}
use Rattle.std.specs.List.{AllPairs, Contains}
use Rattle.std.proofs.lemmas.Bool.{cases_Bool, false≢true}
use Rattle.std.proofs.lemmas.List.{get_or_default}
use Rattle.std.proofs.lemmas.List.Sums.{sum_by-cons}
use Rattle.dpl_spec_split.specs.declared.Spacing.{Spacing}
use Rattle.dpl_spec_split.specs.Colours.{differ, colour_at, AreColours, AreStitches}
use Rattle.dpl_spec_split.specs.Marks.{Marks, letters_by, sides_by, vertex}
use Rattle.dpl_spec_split.specs.Decomposition.{Cut, Masks, cut_graph}
use Rattle.dpl_spec_split.proofs.ColourLaws.{colours-unique}
use Rattle.dpl_spec_split.proofs.Uniqueness.{roots-unique}
use Rattle.dpl_spec_fewer.specs.Fewer.{stitch_count}
use Rattle.dpl_spec_fewer.specs.Masks.{AreMasksBy, fixed_by}
use Rattle.dpl_spec_fewer.proofs.Ends.{no-more}
use Rattle.dpl_law_split.proofs.Apart.{letter-at}

-- what counts for one
abbrev unit : Bool → ℕ
unit b = cond b 1 0

-- ---- a list of places

-- the zone at place k, counted from a start, passes the test
abbrev Passes : (ℕ × ℕ → Bool) → ℕ → List (ℕ × ℕ) → ℕ → Type 0
Passes test start sides k = (i : ℕ) × (k ≡ start + i) × (i < length sides) × ((d : ℕ × ℕ) → test (get_or sides i d) ≡ true)

further : (test : ℕ × ℕ → Bool) (start : ℕ) (x : ℕ × ℕ) (sides : List (ℕ × ℕ)) (k : ℕ) → Passes test (start + 1) sides k → Passes test start (x ∷ sides) k
further test start x sides k (i, is, i_in, pass) = (suc i, omega (arith, is), omega (arith, i_in), pass)

behind : (test : ℕ × ℕ → Bool) (start : ℕ) (x : ℕ × ℕ) (sides : List (ℕ × ℕ)) (k : ℕ) → (k ≡ start → test x ≡ true → ⊥)
    → Passes test start (x ∷ sides) k → Passes test (start + 1) sides k
behind test start x sides k other (zero, is, i_in, pass) = absurd (other (omega (arith, is)) (pass x))
behind test start x sides k other (suc i, is, i_in, pass) = (i, omega (arith, is), omega (arith, i_in), pass)

-- the first of rising numbers is the least
first-least : (k o : ℕ) (ks : List ℕ) → AllPairs (λ i j. i < j) (k ∷ ks) → Contains (k ∷ ks) o → k ≤ o
first-least k o ks ordered (zero, n_in, is) = omega (arith, is)
first-least k o ks ordered (suc n, n_in, is) = (let less = ordered 0 (suc n) o (omega arith) n_in in omega (arith, less, is))

among-others : (k j : ℕ) (ks : List ℕ) → (k ≡ j → ⊥) → Contains (k ∷ ks) j → Contains ks j
among-others k j ks other (zero, n_in, is) = absurd (other is)
among-others k j ks other (suc n, n_in, is) = (n, omega (arith, n_in), is)

-- As many places as zones that pass, if that is so from the second zone on.
module _ (test : ℕ × ℕ → Bool) (start : ℕ) (x : ℕ × ℕ) (sides : List (ℕ × ℕ))
    (rest : (ks : List ℕ) → AllPairs (λ i j. i < j) ks → ((k : ℕ) → Contains ks k ↔ Passes test (start + 1) sides k) → length ks ≡ count_by test sides) where
  whole : count_by test (x ∷ sides) ≡ unit (test x) + count_by test sides
  whole = sum_by-cons (λ s. unit (test s)) x sides

  with-first : (ks : List ℕ) → AllPairs (λ i j. i < j) ks → ((k : ℕ) → Contains ks k ↔ Passes test start (x ∷ sides) k) → test x ≡ true
      → length ks ≡ count_by test (x ∷ sides)
  with-first [] ordered exactly passes =
      let (n, n_in, is) = (exactly start).1 (0, omega arith, omega arith, λ d. passes) in absurd (omega (arith, n_in))
  with-first (k ∷ ks) ordered exactly passes =
      let low = first-least k start ks ordered ((exactly start).1 (0, omega arith, omega arith, λ d. passes)) in
      let (i, is, i_in, pass) = (exactly k).0 (0, omega arith, refl) in
      let same : k ≡ start = omega (arith, low, is) in
      let more = rest ks (λ i j d l j_in. ordered (suc i) (suc j) d (omega (arith, l)) (omega (arith, j_in))) (λ j. (
        λ (n, n_in, at). behind test start x sides j (λ e t. (let less = ordered 0 (suc n) j (omega arith) (omega (arith, n_in)) in omega (arith, less, at, same, e)))
            ((exactly j).0 (suc n, omega (arith, n_in), at)),
        λ place. among-others k j ks (λ e. (let far = place.1 in omega (arith, far, e, same))) ((exactly j).1 (further test start x sides j place)),
      )) in
      let one : unit (test x) ≡ 1 = ap unit passes in
      omega (arith, more, whole, one)

  without-first : (ks : List ℕ) → AllPairs (λ i j. i < j) ks → ((k : ℕ) → Contains ks k ↔ Passes test start (x ∷ sides) k) → test x ≡ false
      → length ks ≡ count_by test (x ∷ sides)
  without-first ks ordered exactly fails =
      let more = rest ks ordered (λ j. (
        λ h. behind test start x sides j (λ e t. false≢true (sym fails ∙ t)) ((exactly j).0 h),
        λ place. (exactly j).1 (further test start x sides j place),
      )) in
      let none : unit (test x) ≡ 0 = ap unit fails in
      omega (arith, more, whole, none)

many-places : (test : ℕ × ℕ → Bool) (start : ℕ) (sides : List (ℕ × ℕ)) (ks : List ℕ) → AllPairs (λ i j. i < j) ks
    → ((k : ℕ) → Contains ks k ↔ Passes test start sides k) → length ks ≡ count_by test sides
many-places test start [] [] ordered exactly = refl
many-places test start [] (k ∷ ks) ordered exactly = (let (i, is, i_in, pass) = (exactly k).0 (0, omega arith, refl) in absurd (omega (arith, i_in)))
many-places test start (x ∷ sides) ks ordered exactly = elim (cases_Bool (test x)) [
  | inl passes ↦ with-first test start x sides (λ others. many-places test (start + 1) sides others) ks ordered exactly passes
  | inr fails ↦ without-first test start x sides (λ others. many-places test (start + 1) sides others) ks ordered exactly fails
]

-- ---- stitches

many-stitches : (sides : List (ℕ × ℕ)) (letters : List Bool) (stitches : List ℕ) → AreStitches sides letters stitches → length stitches ≡ stitch_count sides letters
many-stitches sides letters stitches are =
    many-places (λ side. differ (colour_at letters side.0) (colour_at letters side.1)) 0 sides stitches are.ordered (λ k. (
      λ h. (let (side, k_in, is, both) = (are.exactly k).0 h in (
        k,
        omega arith,
        k_in,
        λ d. ap (λ (s : ℕ × ℕ). differ (colour_at letters s.0) (colour_at letters s.1)) (get_or_default sides k d side k_in ∙ is) ∙ both,
      )),
      λ (i, is, i_in, pass). (let same : i ≡ k = omega (arith, is) in
          let side = get_or sides i (0, 0) in
          subst (λ n. Contains stitches n) same ((are.exactly i).1 (side, i_in, get_or_default sides i side (0, 0) i_in, pass (0, 0)))),
    ))

-- the zones of pieces whose sides differ are those of vertices
by-vertices : (marks : Option Marks) (sides : List (ℕ × ℕ)) (colours : List Bool) → stitch_count sides (letters_by marks colours) ≡ stitch_count (sides_by marks sides) colours
by-vertices None sides colours = refl
by-vertices (Some m) [] colours = refl
by-vertices (Some m) (side ∷ sides) colours =
    let letters : List Bool = letters_by (Some m) colours in
    let rest = by-vertices (Some m) sides colours in
    let here : unit (differ (colour_at letters side.0) (colour_at letters side.1)) ≡ unit (differ (colour_at colours (side.0 + 2)) (colour_at colours (side.1 + 2))) =
    rw (letter-at (Some m) colours side.0, letter-at (Some m) colours side.1) refl in
    let pieces = sum_by-cons (λ (s : ℕ × ℕ). unit (differ (colour_at letters s.0) (colour_at letters s.1))) side sides in
    let vertices = sum_by-cons (λ (s : ℕ × ℕ). unit (differ (colour_at colours s.0) (colour_at colours s.1))) (side.0 + 2, side.1 + 2) (sides_by (Some m) sides) in
    omega (arith, rest, here, pieces, vertices)

pub no-more-stitches : (marks : Option Marks) (spacing : Spacing) (c : Cut) (few plain : Masks) → AreMasksBy true marks spacing c few
    → AreMasksBy false marks spacing c plain → length few.stitches ≤ length plain.stitches
no-more-stitches marks spacing c few plain a b =
    let sides = sides_by marks c.sides in
    let rooted = roots-unique (cut_graph marks spacing c) (vertex marks (length c.pieces)) b.roots a.roots b.odds a.odds b.rooted a.rooted in
    let mine : AreColours a.roots a.odds sides b.colours = subst (λ o. AreColours a.roots o sides b.colours) rooted.1
    (subst (λ r. AreColours r b.odds sides b.colours) rooted.0 b.coloured) in
    let first = a.coloured.first in
    let same : stitch_count sides first ≡ stitch_count sides b.colours =
    ap (λ cs. stitch_count sides cs) (colours-unique a.roots a.odds sides first b.colours a.coloured.coloured mine) in
    let most = no-more a.roots (fixed_by marks) sides first a.colours a.coloured.led in
    let few_many = many-stitches c.sides (letters_by marks a.colours) few.stitches a.stitches ∙ by-vertices marks c.sides a.colours in
    let plain_many = many-stitches c.sides (letters_by marks b.colours) plain.stitches b.stitches ∙ by-vertices marks c.sides b.colours in
    omega (arith, same, most, few_many, plain_many)
