-- Crossings by their zones.
use Rattle.std.proofs.Common.{◌≡◌, ℕ, ◌+◌, ◌<◌, true, false, cond, List, [], ◌∷◌, ◌++◌, length, get_or, take, sym, ap, ◌∙◌, arith}
use Rattle.std.specs.List.Sorted.{IsNonDecreasingBy}
use Rattle.std.proofs.lemmas.List.{get_or-map, length-map, map-append, append-nil, take_more}
use Rattle.std.proofs.lemmas.List.Elements.{All-push}
use Rattle.std.proofs.lemmas.Bool.{cond-true, cond-false}
use Rattle.std.proofs.lemmas.Grind.{flat_map-append}
use Rattle.dpl_orient.specs.declared.chart.Rooted.{Rooted}
use Rattle.dpl_orient.specs.declared.crossing.Across.{Across}
use Rattle.dpl_orient.specs.declared.crossing.Crossing.{Crossing}
use Rattle.dpl_orient.specs.Crossings.{crossing_of, is_across, crossings_of, crossing_at, crossings_at, HaveLater, AreGrouped}

module _ (chart : List Rooted) (sides : List (ℕ × ℕ)) (across : List Across) where
  pub as-many : length (crossings_at chart sides across) ≡ length across
  as-many = length-map across (λ a. crossing_at chart sides a.zone)

  -- the crossing made from the zone at a place is the one at that place
  pub crossing-here : (k : ℕ) (d : Across) (x : Crossing) → k < length across → x ≡ crossing_at chart sides (get_or across k d).zone
      → x ≡ get_or (crossings_at chart sides across) k x
  crossing-here k d x within is = is ∙ sym (get_or-map (λ a. crossing_at chart sides a.zone) across k d x within)

  pub grouped-across : HaveLater chart sides across → IsNonDecreasingBy (λ a. a.later) across → AreGrouped (crossings_at chart sides across)
  grouped-across have h i j d le l =
      let none : Across = record { later = 0; zone = 0 } in
      let below : j < length across = omega (arith, l, as-many) in
      let first = have i none (omega (arith, le, below)) in
      let second = have j none below in
      let up = h i j none le below in
      rw (
        get_or-map (λ a. crossing_at chart sides a.zone) across i none d (omega (arith, le, below)),
        get_or-map (λ a. crossing_at chart sides a.zone) across j none d below,
      ) (rw (← first, ← second) up)

-- the crossings among the first k zones
pub record AreListed (chart : List Rooted) (sides : List (ℕ × ℕ)) (k : ℕ) (across : List Across) : Type 0 where
  pub later : HaveLater chart sides across
  pub same : crossings_at chart sides across ≡ crossings_of chart (take k sides)

module _ (chart : List Rooted) (sides : List (ℕ × ℕ)) (k : ℕ) (across : List Across) (within : k < length sides) (h : AreListed chart sides k across) where
  -- the crossing of a zone, if it is one
  abbrev picked : ℕ × ℕ → List Crossing
  picked side = cond (is_across chart side) (crossing_of chart side ∷ []) []

  crossings-more : crossings_of chart (take (k + 1) sides) ≡ crossings_of chart (take k sides) ++ picked (get_or sides k (0, 0))
  crossings-more =
      ap (crossings_of chart) (take_more sides k (0, 0) within)
      ∙ (flat_map-append picked (take k sides) (get_or sides k (0, 0) ∷ [])
      ∙ ap (λ xs. crossings_of chart (take k sides) ++ xs) (append-nil (picked (get_or sides k (0, 0)))))

  pub listed-across : (l : ℕ) → is_across chart (get_or sides k (0, 0)) ≡ true → l ≡ (crossing_at chart sides k).later
      → AreListed chart sides (k + 1) (across ++ record { later = l; zone = k } ∷ [])
  listed-across l apart is = record {
    later = All-push (λ a. a.later ≡ (crossing_at chart sides a.zone).later) across (record { later = l; zone = k }) h.later is;
    same =
        map-append (λ a. crossing_at chart sides a.zone) across (record { later = l; zone = k } ∷ [])
        ∙ (ap (λ xs. xs ++ crossing_at chart sides k ∷ []) h.same
        ∙ sym (crossings-more ∙ ap (λ xs. crossings_of chart (take k sides) ++ xs) (cond-true (is_across chart (get_or sides k (0, 0))) _ _ apart)));
  }

  pub listed-within : is_across chart (get_or sides k (0, 0)) ≡ false → AreListed chart sides (k + 1) across
  listed-within joined = record {
    later = h.later;
    same = h.same ∙ sym
        (crossings-more ∙ (ap (λ xs. crossings_of chart (take k sides) ++ xs)
        (cond-false (is_across chart (get_or sides k (0, 0))) _ _ joined) ∙ append-nil (crossings_of chart (take k sides))));
  }
