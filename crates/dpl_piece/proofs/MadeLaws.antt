-- Pieces of features that are made before the features' turn.
use Rattle.std.proofs.Common.{◌≡◌, ℕ, ◌<◌, List, [], length, get_or, map, take, sym, ap, ◌∙◌, subst, arith}
use Rattle.std.specs.Prelude.{◌≢◌, Result, Ok, Err, OnOk}
use Rattle.std.specs.List.{All, Contains, range_with_len}
use Rattle.std.proofs.lemmas.List.{get_or-map, length-map}
use Rattle.std.proofs.lemmas.List.Elements.{All-contains, Contains-get_or}
use Rattle.std.proofs.lemmas.List.FromFn.{length-range_with_len, get_or-range_with_len}
use Rattle.dpl_spec_split.specs.declared.Rect.{Rect}
use Rattle.dpl_spec_split.specs.declared.Zone.{Zone}
use Rattle.dpl_piece.specs.Cutting.{AreTheirZones}
use Rattle.dpl_piece.specs.declared.made.Made.{Made}
use Rattle.dpl_sides.specs.Sided.{numbers_in}
use Rattle.dpl_piece.specs.Made.{AreMadeOf, IsMade}
use Rattle.dpl_sides.specs.Noted.{AreSidesNoted, AreSidesOf}
use Rattle.dpl_sides.specs.Pieces.{no_zone, rect_at, zone_at}
use Rattle.dpl_piece.specs.Pieces.{feature_at, AreHolesOf, AreZonesFrom}
use Rattle.dpl_piece.proofs.Cuts.{zones-below}
use Rattle.dpl_piece.proofs.Turns.{own-feature, own-holes, own-known, own-there}

-- what holds of a result by two clauses of it
pub both-ok : {T E : Type 0} (r : Result T E) (P Q S : Type 0) → (P → Q → S) → OnOk r P → OnOk r Q → OnOk r S
both-ok (Ok x) P Q S f p q = f p q
both-ok (Err e) P Q S f p q = tt

-- each number below how many zones are listed is one of a listed zone
pub local-known : (zones : List Zone) (own : List ℕ) → All (λ j. j < length (map (zone_at zones) own)) (range_with_len 0 (length own))
local-known zones own k d k_in =
    let each : length (range_with_len 0 (length own)) ≡ length own = length-range_with_len 0 (length own) in
    let e = get_or-range_with_len 0 (length own) k d (omega (arith, k_in, each)) in
    omega (arith, k_in, each, e, length-map own (zone_at zones))

-- what was noted for zones in a list of their own was listed for them
pub sides-of : (Stands : Zone → ℕ → Type 0) (zones : List Zone) (own old sides : List ℕ) → length old ≡ length own
    → AreSidesNoted Stands (map (zone_at zones) own) (range_with_len 0 (length own)) old sides → AreSidesOf Stands zones own sides
sides-of Stands zones own old sides each h = record {
  each = h.each ∙ each;
  stand = λ i i_in k stands. (
      let is : zone_at (map (zone_at zones) own) i ≡ zone_at zones (get_or own i 0) = get_or-map (zone_at zones) own i 0 no_zone i_in in
      let e = get_or-range_with_len 0 (length own) i i i_in in
      let there : Contains (range_with_len 0 (length own)) i = (i, omega (arith, length-range_with_len 0 (length own), i_in), omega (arith, e)) in
      subst (λ z. Stands z (get_or sides i 0)) is (h.noted i there k (subst (λ z. Stands z k) (sym is) stands)));
}

-- each of the numbers of zones is of a feature
pub first-known : (features : List (List Rect)) (zones : List Zone) (sorted : List ℕ) (place : ℕ) → AreTheirZones features zones → AreZonesFrom zones 0 sorted
    → place < length sorted → feature_at zones (get_or sorted place 0) < length features
first-known features zones sorted place theirs h place_in =
    zones-below features zones theirs (get_or sorted place 0) no_zone (((h.members (get_or sorted place 0)).0 (Contains-get_or sorted place 0 place_in)).0)

-- what the first zones of a list make of their feature, where they are all its zones
pub is-made : (features : List (List Rect)) (zones : List Zone) (rest : List ℕ) (n count : ℕ) → AreZonesFrom zones n rest → All (λ j. feature_at zones j ≡ n) (take count rest)
    → (count < length rest → (d : ℕ) → feature_at zones (get_or rest count d) ≢ n) → n ≡ feature_at zones (get_or rest 0 0) → 0 < length rest
    → (m : Made) → m.feature ≡ n → numbers_in m.zones.items ≡ take count rest → AreMadeOf (get_or features n []) zones m → IsMade features zones m
is-made features zones rest n count h own next n_is some m is own_is made =
    let first_in : get_or rest 0 0 < length zones = ((h.members (get_or rest 0 0)).0 (Contains-get_or rest 0 0 some)).0 in
    let (i, i_in, at) = own-there zones rest n count h own next (get_or rest 0 0) first_in (sym n_is) in
    let known = own-known zones rest n count h own next in
    record {
      some = omega (arith, ap length own_is, i_in);
      own = λ j. (
        λ j_in. (
            let there : Contains (take count rest) j = subst (λ l. Contains l j) own_is j_in in
            (All-contains (λ k. k < length zones) (take count rest) j known there, own-feature zones rest n count h own next j there ∙ sym is)),
        λ (j_in, of). subst (λ l. Contains l j) (sym own_is) (own-there zones rest n count h own next j j_in (of ∙ is)),
      );
      holes = subst (λ k. AreHolesOf zones k (map (rect_at zones) (numbers_in m.zones.items))) (sym is)
          (subst (λ l. AreHolesOf zones n (map (rect_at zones) l)) (sym own_is) (own-holes zones rest n count h own next));
      are = subst (λ k. AreMadeOf (get_or features k []) zones m) (sym is) made;
    }
