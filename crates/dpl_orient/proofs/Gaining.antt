-- Components that gain.
use Rattle.std.proofs.Common.{◌≡◌, ◌≢◌, ℕ, ◌+◌, ◌<◌, ◌≤◌, inl, inr, Bool, true, false, not, List, [], ◌∷◌, length, get_or, set, replicate, sym, refl, ap, ◌∙◌, subst, arith}
use Rattle.std.specs.Prelude.{Option, Some, None}
use Rattle.std.specs.List.Sorted.{IsPermutation}
use Rattle.std.proofs.lemmas.Bool.{cases_lt, ne_eqb, and_left, cond-false}
use Rattle.std.proofs.lemmas.List.{length-map, length-set, length-replicate}
use Rattle.std.proofs.lemmas.List.Elements.{All-head, All-tail}
use Rattle.std.proofs.lemmas.List.Sums.{sum_by-cons}
use Rattle.std.proofs.lemmas.List.Sorted.{sum_by-IsPermutation}
use Rattle.dpl_spec_fewer.specs.Fewer.{stitch_count, flipped, IsFree, Gains, IsLeastGain, LeadsTo, stay, flip, zones_out}
use Rattle.dpl_spec_fewer.proofs.Flips.{all-sides}
use Rattle.dpl_orient.specs.declared.chart.Rooted.{Rooted}
use Rattle.dpl_orient.specs.declared.links.Link.{Link}
use Rattle.dpl_orient.specs.Rooted.{AreSidesBelow}
use Rattle.dpl_orient.specs.Chart.{roots_in}
use Rattle.dpl_orient.specs.Links.{links_of, AreLinksBelow, count_from, held_root, letters_of}
use Rattle.dpl_orient.proofs.Settling.{unit}
use Rattle.dpl_orient.proofs.Linked.{counted, length-letters, letters-flip, letters-none, count-links}

-- more of the component's zones to others have sides that differ than sides that agree
pub record GainsBy (held : Option ℕ) (flips : List Bool) (links : List Link) (root : ℕ) : Type 0 where
  pub free : held ≢ Some root
  pub fewer : count_from flips root false links < count_from flips root true links

pub record IsLeastGainBy (held : Option ℕ) (flips : List Bool) (links : List Link) (root : ℕ) : Type 0 where
  pub gains : GainsBy held flips links root
  pub least : (other : ℕ) → GainsBy held flips links other → root ≤ other

none-from : (flips : List Bool) (root n : ℕ) (wanted : Bool) (links : List Link) → AreLinksBelow n links → n ≤ root → count_from flips root wanted links ≡ 0
none-from flips root n wanted [] below past = refl
none-from flips root n wanted (x ∷ links) below past =
    let here : (x.from < n) × (x.to < n) = All-head (λ (l : Link). (l.from < n) × (l.to < n)) x links below in
    let rest = none-from flips root n wanted links (All-tail (λ (l : Link). (l.from < n) × (l.to < n)) x links below) past in
    let e : unit (counted flips root wanted x) ≡ 0 = cond-false _ 1 0 (and_left _ _ (ne_eqb x.from root (λ same. omega (arith, here, same, past)))) in
    let f = sum_by-cons (λ (l : Link). unit (counted flips root wanted l)) x links in
    omega (arith, e, f, rest)

-- only a component that a link leads from gains
pub gains-below : (held : Option ℕ) (flips : List Bool) (links : List Link) (root n : ℕ) → AreLinksBelow n links → GainsBy held flips links root → root < n
gains-below held flips links root n below g = elim (cases_lt root n) [
  | inl l ↦ l
  | inr past ↦ absurd (let e = none-from flips root n true links below past in let f = g.fewer in omega (arith, e, f))
]

free-to : (chart : List Rooted) (fixed : Option ℕ) (root : ℕ) → IsFree (roots_in chart) fixed root → held_root chart fixed ≢ Some root
free-to chart None root h = λ e. cc
free-to chart (Some v) root h = h

free-from : (chart : List Rooted) (fixed : Option ℕ) (root : ℕ) → held_root chart fixed ≢ Some root → IsFree (roots_in chart) fixed root
free-from chart None root h = tt
free-from chart (Some v) root h = h

module _ (chart : List Rooted) (colours flips : List Bool) (sides : List (ℕ × ℕ)) (fixed : Option ℕ) (links : List Link)
    (same : length colours ≡ length chart) (below : AreSidesBelow (length chart) sides) (mixed : IsPermutation (links_of chart colours sides) links) where
  abbrev letters : List Bool
  letters = letters_of chart colours flips

  count-is : (root : ℕ) (wanted : Bool) → count_from flips root wanted links ≡ zones_out (roots_in chart) letters root wanted sides
  count-is root wanted = sum_by-IsPermutation (λ l. unit (counted flips root wanted l)) (links_of chart colours sides) links mixed
      ∙ count-links chart colours flips same root wanted sides below

  by-counts : (root : ℕ) → stitch_count sides (flipped
      (roots_in chart) root letters) + count_from flips root true links ≡ stitch_count sides letters + count_from flips root false links
  by-counts root =
      let many : length (roots_in chart) ≡ length chart = length-map chart (λ s. s.root) in
      let h = all-sides (roots_in chart) letters root (length-letters chart colours flips same ∙ sym many) sides (subst (λ n. AreSidesBelow n sides)
      (sym many) below) in
      let a = count-is root true in
      let b = count-is root false in
      omega (arith, h, a, b)

  pub gains-to : (root : ℕ) → Gains (roots_in chart) fixed sides letters root → GainsBy (held_root chart fixed) flips links root
  gains-to root g = record {
    free = free-to chart fixed root g.free;
    fewer = (let e = by-counts root in let f = g.fewer in omega (arith, e, f));
  }

  pub gains-from : (root : ℕ) → GainsBy (held_root chart fixed) flips links root → Gains (roots_in chart) fixed sides letters root
  gains-from root g = record {
    free = free-from chart fixed root g.free;
    fewer = (let e = by-counts root in let f = g.fewer in omega (arith, e, f));
  }

  pub least-from : (root : ℕ) → IsLeastGainBy (held_root chart fixed) flips links root → IsLeastGain (roots_in chart) fixed sides letters root
  least-from root g = record { gains = gains-from root g.gains; least = λ other h. g.least other (gains-to other h) }

-- what is known between two flips
pub record IsUnderway (chart : List Rooted) (colours : List Bool) (sides : List (ℕ × ℕ)) (fixed : Option ℕ) (flips : List Bool) : Type 0 where
  pub len : length flips ≡ length chart
  pub way : (last : List Bool) → LeadsTo (roots_in chart) fixed sides (letters_of chart colours flips) last → LeadsTo
      (roots_in chart) fixed sides colours last

pub underway-start : (chart : List Rooted) (colours : List Bool) (sides : List (ℕ × ℕ)) (fixed : Option ℕ) (flips : List Bool) → length colours ≡ length chart
    → flips ≡ replicate (length chart) false → IsUnderway chart colours sides fixed flips
underway-start chart colours sides fixed flips same is = record {
  len = ap length is ∙ length-replicate (length chart) false;
  way = λ last led. subst (λ c. LeadsTo (roots_in chart) fixed sides c last) (ap (letters_of chart colours) is ∙ letters-none chart colours
      (length chart) same) led;
}

module _ (chart : List Rooted) (colours flips : List Bool) (sides : List (ℕ × ℕ)) (fixed : Option ℕ) (links : List Link)
    (same : length colours ≡ length chart) (below : AreSidesBelow (length chart) sides) (mixed : IsPermutation (links_of chart colours sides) links)
    (h : IsUnderway chart colours sides fixed flips) where
  pub underway-end : ((root : ℕ) → GainsBy (held_root chart fixed) flips links root → ⊥) → LeadsTo (roots_in chart) fixed sides colours
      (letters_of chart colours flips)
  underway-end none = h.way (letters_of chart colours flips) (stay (λ root g. none root
      (gains-to chart colours flips sides fixed links same below mixed root g)))

  module _ (root : ℕ) (within : root < length flips) (g : IsLeastGainBy (held_root chart fixed) flips links root) where
    abbrev more : List Bool
    more = set flips root (not (get_or flips root false))

    pub underway-more : IsUnderway chart colours sides fixed more
    underway-more = record {
      len = length-set flips root (not (get_or flips root false)) ∙ h.len;
      way = λ last led. h.way last (flip root (least-from chart colours flips sides fixed links same below mixed root g)
          (subst (λ c. LeadsTo (roots_in chart) fixed sides c last) (letters-flip chart colours flips root within) led));
    }

    pub fewer-left : stitch_count sides (letters_of chart colours more) < stitch_count sides (letters_of chart colours flips)
    fewer-left = subst (λ c. stitch_count sides c < stitch_count sides (letters_of chart colours flips)) (sym (letters-flip chart colours flips root within))
        (least-from chart colours flips sides fixed links same below mixed root g).gains.fewer
