-- Piles of what zones leave of features.
use Rattle.std.proofs.Common.{◌≡◌, ℕ, suc, ◌+◌, ◌-◌, ◌*◌, ◌<◌, ◌≤◌, inl, inr, List, [], ◌∷◌, ◌++◌, length, get_or, map, refl, sym, ap, ◌∙◌, subst, arith, IfOk, append_assoc}
use Rattle.std.specs.Prelude.{Result, Ok}
use Rattle.std.specs.declared.alloc.AllocError.{AllocError}
use Rattle.std.specs.List.Sorted.{IsNonDecreasingBy}
use Rattle.std.specs.List.{All, Contains, flat_map}
use Rattle.std.proofs.lemmas.List.Concat.{flat_map-cons}
use Rattle.std.proofs.lemmas.List.{append-nil}
use Rattle.std.proofs.lemmas.List.{get_or-map, length-map, map-append}
use Rattle.std.proofs.lemmas.List.Elements.{All-append, All-contains, All-head, All-map, All-push, All-tail, Contains-append_left, Contains-append_right, Contains-append_cases, Contains-get_or, Contains-push, Contains-push_cases}
use Rattle.std.proofs.lemmas.List.Quantifiers.{all_pairs_push}
use Rattle.std.proofs.Math.Nat.{add-mul}
use Rattle.dpl_spec_split.specs.declared.Rect.{Rect}
use Rattle.dpl_spec_split.specs.declared.Zone.{Zone}
use Rattle.dpl_spec_split.specs.Loops.{farthest, AreRectsWithin}
use Rattle.dpl_spec_split.proofs.Ordered.{AllPairs-rest, Contains-nil}
use Rattle.dpl_slabs.proofs.StripLaws.{AllPairs-append}
use Rattle.dpl_sides.specs.declared.piece.Piece.{Piece}
use Rattle.dpl_sides.specs.declared.sided.Sided.{Sided}
use Rattle.dpl_sides.specs.declared.standing.Side.TheVariants.{Before, After}
use Rattle.dpl_sides.specs.Corners.{StandsAfter, StandsBefore}
use Rattle.dpl_sides.specs.Noted.{StandsAfterFrom, StandsBeforeFrom}
use Rattle.dpl_sides.specs.Pieces.{parts_in, rect_at, zone_at}
use Rattle.dpl_sides.specs.Sided.{numbers_in, on_side, sides_in}
use Rattle.dpl_piece.specs.declared.made.Made.{Made}
use Rattle.dpl_piece.specs.declared.pile.Pile.{Pile}
use Rattle.dpl_piece.specs.declared.rest.Cutting.{Cutting}
use Rattle.dpl_piece.specs.Adding.{AddsPile, IsBegun}
use Rattle.dpl_piece.specs.Cutting.{AreFeatures, AreTheirZones}
use Rattle.std.proofs.lemmas.Bool.{cases_eq}
use Rattle.dpl_piece.specs.Made.{AddsMade, AreAllMade, AreBelow, AreMade, BeginsAt, IsOfPlaces, IsEmptyPile, IsMade, IsSided, moved_by}
use Rattle.dpl_piece.specs.Pieces.{feature_at, AddsPieces, AreZonesFrom}
use Rattle.dpl_piece.specs.Share.{ArePiecesOf}
use Rattle.dpl_piece.proofs.Broken.{pieces-added, pieces-both, pieces-none, pieces-same, Either, IsFeature}
use Rattle.dpl_piece.proofs.Cuts.{comps}
use Rattle.dpl_piece.proofs.Sides.{broken-stand, kept-after, kept-before, moved-after, moved-before, parts-broken, some-after, some-before}

-- what the elements of a list give, one behind the other, as far as they are gone through
pub flat-next : {X A : Type 0} (f : X → List A) (all done more : List A) (left rest : List X) (x : X) → all ≡ done ++ flat_map f left → left ≡ x ∷ rest
    → more ≡ done ++ f x → all ≡ more ++ flat_map f rest
flat-next f all done more left rest x is next adds =
    is ∙ ap (λ l. done ++ flat_map f l) next ∙ ap (λ l. done ++ l) (flat_map-cons f x rest) ∙ sym (append_assoc done (f x) (flat_map f rest)) ∙ ap (λ l. l ++ flat_map f rest) (sym adds)

pub flat-all : {X A : Type 0} (f : X → List A) (all done : List A) (left : List X) → all ≡ done ++ flat_map f left → length left ≡ 0 → done ≡ all
flat-all f all done [] is none = sym (is ∙ append-nil done)
flat-all f all done (x ∷ left) is none = absurd (omega (arith, none))

-- a part of all is one of those from the first on
all-before : (parts : List (List Rect)) (z : Zone) (k : ℕ) → StandsBefore parts z k → StandsBeforeFrom parts 0 z k
all-before parts z k (inl (i, r, i_in, r_in, is)) = inl (i, r, omega arith, i_in, r_in, is)
all-before parts z k (inr (i, r, i_in, r_in, is)) = inr (i, r, omega arith, i_in, r_in, is)

all-after : (parts : List (List Rect)) (z : Zone) (k : ℕ) → StandsAfter parts z k → StandsAfterFrom parts 0 z k
all-after parts z k (inl (i, r, i_in, r_in, is)) = inl (i, r, omega arith, i_in, r_in, is)
all-after parts z k (inr (i, r, i_in, r_in, is)) = inr (i, r, omega arith, i_in, r_in, is)

pub pile-none : (features : List (List Rect)) (zones : List Zone) (b : Pile) → IsEmptyPile b → AreMade features zones b
pile-none features zones b is = record {
  known = rw is.features (λ k d k_in. absurd (omega (arith, k_in)));
  rise = rw is.features (λ i j d l j_in. absurd (omega (arith, j_in)));
  pieces = rw (is.features, is.pieces) (pieces-none features zones);
  own = λ j. rw (is.features, is.zones) (λ listed. absurd (Contains-nil j listed), λ (j_in, listed). absurd (Contains-nil (feature_at zones j) listed));
  sided = rw is.zones (λ k d k_in. absurd (omega (arith, k_in)));
}

pub none-made : (features : List (List Rect)) (zones : List Zone) → AreAllMade features zones []
none-made features zones = record { each = λ k d k_in. absurd (omega (arith, k_in)); rise = λ i j d l j_in. absurd (omega (arith, j_in)) }

-- a pile that was made
abbrev fine : Pile → Result Pile AllocError
fine b = Ok b

-- a number of stretches is no longer than a greater one
stretches : (i j size : ℕ) → i < j → (i + 1) * size ≤ j * size
stretches i j size l =
    let rest : ℕ = j - (i + 1) in
    let parts : j ≡ (i + 1) + rest = omega (arith, l) in
    rw (parts, add-mul (i + 1) rest size) (omega arith)

-- what a worker makes of the features whose zones begin in its stretch of the sorted numbers
pub record IsPileFrom (features : List (List Rect)) (zones : List Zone) (sorted : List ℕ) (size k : ℕ) (r : Result Pile AllocError) : Type 0 where
  pub to : ℕ
  pub begins : k * size < length sorted
  pub upto : to ≤ (k + 1) * size
  pub made : IfOk r (AreMade features zones)
  pub places : IfOk r (λ b. All (IsOfPlaces zones sorted (k * size) to) b.features.items)

-- parts in front of which others come
parts-both : (pieces more : List Piece) → parts_in (pieces ++ more) ≡ parts_in pieces ++ parts_in more
parts-both pieces more = map-append (λ x. let u : Piece = x in u.part) pieces more

parts-long : (pieces : List Piece) → length (parts_in pieces) ≡ length pieces
parts-long pieces = length-map pieces (λ x. let u : Piece = x in u.part)

-- zones that stand between these parts do so where more come behind them, and where others come before them
sided-kept : (pieces more : List Piece) (zones : List Zone) (s : Sided) → IsSided (parts_in pieces) zones s → IsSided (parts_in (pieces ++ more)) zones s
sided-kept pieces more zones s (before, after) = rw (parts-both pieces more) (
  kept-before (parts_in pieces) (parts_in more) (zone_at zones s.zone) s.first before,
  kept-after (parts_in pieces) (parts_in more) (zone_at zones s.zone) s.second after,
)

sided-moved : (pieces more : List Piece) (zones : List Zone) (s : Sided) → IsSided (parts_in more) zones s
    → IsSided (parts_in (pieces ++ more)) zones (moved_by (length pieces) s)
sided-moved pieces more zones s (before, after) = rw (parts-both pieces more, ← parts-long pieces) (
  moved-before (parts_in pieces) (parts_in more) (zone_at zones s.zone) s.first before,
  moved-after (parts_in pieces) (parts_in more) (zone_at zones s.zone) s.second after,
)

numbers-moved : (n : ℕ) (zones : List Sided) → numbers_in (map (moved_by n) zones) ≡ numbers_in zones
numbers-moved n [] = refl
numbers-moved n (s ∷ zones) = ap (λ l. s.zone ∷ l) (numbers-moved n zones)

numbers-both : (n : ℕ) (zones more : List Sided) → numbers_in (zones ++ map (moved_by n) more) ≡ numbers_in zones ++ numbers_in more
numbers-both n zones more = map-append (λ z. let u : Sided = z in u.zone) zones (map (moved_by n) more) ∙ ap (λ l. numbers_in zones ++ l) (numbers-moved n more)

module _ (features : List (List Rect)) (zones : List Zone) (given : AreFeatures features) (theirs : AreTheirZones features zones) where
  -- what was made of one feature stands on the two sides of its zones
  made-sided : (m : Made) (made : IsMade features zones m) → m.feature < length features → All (IsSided made.are.parts zones) m.zones.items
  made-sided m made known i d i_in =
      let (spacing, overlap, some, zs) = theirs in
      let numbers : List ℕ = numbers_in m.zones.items in
      let s : Sided = get_or m.zones.items i d in
      let number : get_or numbers i 0 ≡ s.zone = get_or-map (λ z. let u : Sided = z in u.zone) m.zones.items i d 0 i_in in
      let first : get_or (sides_in Before m.zones.items) i 0 ≡ s.first = get_or-map (on_side Before) m.zones.items i d 0 i_in in
      let second : get_or (sides_in After m.zones.items) i 0 ≡ s.second = get_or-map (on_side After) m.zones.items i d 0 i_in in
      let listed : i < length numbers = omega (arith, i_in, length-map m.zones.items (λ z. let u : Sided = z in u.zone)) in
      let (j_in, of) = (made.own s.zone).0 (subst (Contains numbers) number (Contains-get_or numbers i 0 listed)) in
      let long = length-map numbers (rect_at zones) in
      let (side, one, two) = broken-stand spacing overlap features zones some (comps features zones given theirs) zs m.feature known numbers
      (λ j j_in e. (made.own j).1 (j_in, e)) (λ j j_in. ((made.own j).0 j_in).1) (map (rect_at zones) numbers) made.holes made.are.parts (omega (arith, made.some, long)) made.are.broken s.zone j_in of in
      let before = made.are.firsts.stand i listed side.0 (rw number (all-before made.are.parts (zone_at zones s.zone) side.0 one)) in
      let after = made.are.seconds.stand i listed side.1 (rw number (all-after made.are.parts (zone_at zones s.zone) side.1 two)) in (
        some-before made.are.parts 0 (zone_at zones s.zone) s.first (rw (number, first) at before),
        some-after made.are.parts 0 (zone_at zones s.zone) s.second (rw (number, second) at after),
      )

  -- it is the last of a pile
  pub pile-more : All (AreRectsWithin farthest) features → (old new : Pile) (m : Made) → AreMade features zones old → IsMade features zones m → m.feature < length features
      → All (λ k. k < m.feature) old.features.items → AddsMade m old new → AreMade features zones new
  pile-more within old new m h made known below adds =
      let (spacing, overlap, some, zs) = theirs in
      let numbers : List ℕ = numbers_in m.zones.items in
      let holes : List Rect = map (rect_at zones) numbers in
      let long = length-map numbers (rect_at zones) in
      let feature : ℕ = m.feature in
      let parts : parts_in m.pieces.items ≡ made.are.parts = ap parts_in made.are.pieces ∙ parts-broken feature made.are.parts in
      let broken : AddsPieces (get_or features feature []) holes feature [] m.pieces.items = inr (
        omega (arith, made.some, long),
        record { parts = made.are.parts; broken = made.are.broken; added = made.are.pieces },
      ) in
      let (more, of, is) = pieces-added spacing overlap features zones (comps features zones given theirs) zs feature known holes made.holes [] m.pieces.items (within feature [] known) broken in
      let both : ArePiecesOf features zones (Either (Contains old.features.items) (IsFeature feature)) (old.pieces.items ++ m.pieces.items) =
      pieces-both spacing overlap features zones (comps features zones given theirs) zs (Contains old.features.items) (IsFeature feature)
      (λ k listed e. (let l = All-contains (λ i. i < feature) old.features.items k below listed in omega (arith, l, e)))
      old.pieces.items m.pieces.items h.pieces (rw is of) in
      record {
        known = rw adds.features (All-push (λ k. k < length features) old.features.items feature h.known known);
        rise = rw adds.features (all_pairs_push (λ j k. j < k) old.features.items feature h.rise (λ k d k_in. below k d k_in));
        pieces = rw (adds.features, adds.pieces)
            (pieces-same features zones (Either (Contains old.features.items) (IsFeature feature)) (Contains (old.features.items ++ feature ∷ []))
            (λ k. elim [
              | inl listed ↦ Contains-append_left old.features.items (feature ∷ []) k listed
              | inr e ↦ subst (Contains (old.features.items ++ feature ∷ [])) (sym e) (Contains-push old.features.items feature)
            ])
            (λ k listed. elim (Contains-push_cases old.features.items feature k listed) [
              | inl a ↦ inl a
              | inr e ↦ inr (sym e)
            ])
            (old.pieces.items ++ m.pieces.items) both);
        own = λ j. rw (adds.features, adds.zones, numbers-both (length old.pieces.items) old.zones.items m.zones.items) (
          λ listed. elim (Contains-append_cases (numbers_in old.zones.items) numbers j listed) [
            | inl a ↦ (let (j_in, of_old) = (h.own j).0 a in (j_in, Contains-append_left old.features.items (feature ∷ []) (feature_at zones j) of_old))
            | inr a ↦ (let (j_in, e) = (made.own j).0 a in (j_in, subst (Contains (old.features.items ++ feature ∷ [])) (sym e) (Contains-push old.features.items feature)))
          ],
          λ (j_in, listed). elim (Contains-push_cases old.features.items feature (feature_at zones j) listed) [
            | inl a ↦ Contains-append_left (numbers_in old.zones.items) numbers j ((h.own j).1 (j_in, a))
            | inr e ↦ Contains-append_right (numbers_in old.zones.items) numbers j ((made.own j).1 (j_in, sym e))
          ],
        );
        sided = rw (adds.zones, adds.pieces)
            (All-append (IsSided (parts_in (old.pieces.items ++ m.pieces.items)) zones) old.zones.items (map (moved_by (length old.pieces.items)) m.zones.items)
            (λ k d k_in. sided-kept old.pieces.items m.pieces.items zones (get_or old.zones.items k d) (h.sided k d k_in))
            (All-map (IsSided (parts_in (old.pieces.items ++ m.pieces.items)) zones) (moved_by (length old.pieces.items)) m.zones.items
            (λ k d k_in. sided-moved old.pieces.items m.pieces.items zones (get_or m.zones.items k d) (rw parts (made-sided m made known k d k_in)))));
      }

  -- one pile more is added
  pub begun-next : (old new : Cutting) (b : Pile) → IsBegun features zones old → AreMade features zones b → AreBelow old.made.items b.features.items → AddsPile b old new
      → IsBegun features zones new
  begun-next old new b h m below adds =
      let (spacing, overlap, some, zs) = theirs in
      let both : ArePiecesOf features zones (Either (Contains old.made.items) (Contains b.features.items)) (old.pieces.items ++ b.pieces.items) =
      pieces-both spacing overlap features zones (comps features zones given theirs) zs (Contains old.made.items) (Contains b.features.items)
      (λ k in_old in_b. (let l = below k k in_old in_b in omega (arith, l)))
      old.pieces.items b.pieces.items h.pieces m.pieces in
      record {
        known = rw adds.made (All-append (λ k. k < length features) old.made.items b.features.items h.known m.known);
        rise = rw adds.made (AllPairs-append (λ j k. j < k) old.made.items b.features.items h.rise m.rise below);
        pieces = rw (adds.made, adds.pieces)
            (pieces-same features zones (Either (Contains old.made.items) (Contains b.features.items)) (Contains (old.made.items ++ b.features.items))
            (λ k. elim [
              | inl a ↦ Contains-append_left old.made.items b.features.items k a
              | inr a ↦ Contains-append_right old.made.items b.features.items k a
            ])
            (λ k listed. Contains-append_cases old.made.items b.features.items k listed)
            (old.pieces.items ++ b.pieces.items) both);
        sides = rw (adds.made, adds.pieces) (record {
          firsts-each = adds.firsts.each ∙ h.sides.firsts-each;
          seconds-each = adds.seconds.each ∙ h.sides.seconds-each;
          before = λ j j_in listed. elim (adds.firsts.moved j) [
            | inl (i, i_in, is, value) ↦ rw value ((stands j i i_in is).0)
            | inr (none, kept) ↦ rw (kept, parts-both old.pieces.items b.pieces.items)
                (kept-before (parts_in old.pieces.items) (parts_in b.pieces.items) (zone_at zones j) (get_or old.noted.firsts.items j 0) (h.sides.before j j_in (only j j_in listed none)))
          ];
          after = λ j j_in listed. elim (adds.seconds.moved j) [
            | inl (i, i_in, is, value) ↦ rw value ((stands j i i_in is).1)
            | inr (none, kept) ↦ rw (kept, parts-both old.pieces.items b.pieces.items)
                (kept-after (parts_in old.pieces.items) (parts_in b.pieces.items) (zone_at zones j) (get_or old.noted.seconds.items j 0) (h.sides.after j j_in (only j j_in listed none)))
          ];
        });
        wholes = adds.wholes ∙ h.wholes;
      }
    where
      -- a zone that the pile doesn't list is of a feature before
      only : (j : ℕ) → j < length zones → Contains (old.made.items ++ b.features.items) (feature_at zones j) → ¬ Contains (numbers_in b.zones.items) j
          → Contains old.made.items (feature_at zones j)
      only j j_in listed none = elim (Contains-append_cases old.made.items b.features.items (feature_at zones j) listed) [
        | inl a ↦ a
        | inr a ↦ absurd (none ((m.own j).1 (j_in, a)))
      ]

      -- one that it lists stands between two of its pieces
      stands : (j i : ℕ) → i < length (numbers_in b.zones.items) → get_or (numbers_in b.zones.items) i 0 ≡ j
          → StandsBefore (parts_in (old.pieces.items ++ b.pieces.items)) (zone_at zones j) (length old.pieces.items + get_or (sides_in Before b.zones.items) i 0)
          × StandsAfter (parts_in (old.pieces.items ++ b.pieces.items)) (zone_at zones j) (length old.pieces.items + get_or (sides_in After b.zones.items) i 0)
      stands j i i_in is =
          let d : Sided = record { zone = 0; first = 0; second = 0 } in
          let at : i < length b.zones.items = omega (arith, i_in, length-map b.zones.items (λ z. let u : Sided = z in u.zone)) in
          let s : Sided = get_or b.zones.items i d in
          let number : s.zone ≡ j = sym (get_or-map (λ z. let u : Sided = z in u.zone) b.zones.items i d 0 at) ∙ is in
          let first : get_or (sides_in Before b.zones.items) i 0 ≡ s.first = get_or-map (on_side Before) b.zones.items i d 0 at in
          let second : get_or (sides_in After b.zones.items) i 0 ≡ s.second = get_or-map (on_side After) b.zones.items i d 0 at in
          let (before, after) = sided-moved old.pieces.items b.pieces.items zones s (m.sided i d at) in
          rw (first, second, ← number) (before, after)

  -- the next of them, whose features come behind
  pub begun-pile : (old new : Cutting) (b : Pile) (rest : List Pile) → IsBegun features zones old → AreAllMade features zones (b ∷ rest)
      → All (λ q. AreBelow old.made.items q.features.items) (b ∷ rest) → AddsPile b old new
      → IsBegun features zones new × AreAllMade features zones rest × All (λ q. AreBelow new.made.items q.features.items) rest
  begun-pile old new b rest h all below adds = (
    begun-next old new b h (All-head (AreMade features zones) b rest all.each) (All-head (λ q. AreBelow old.made.items q.features.items) b rest below) adds,
    record {
      each = All-tail (AreMade features zones) b rest all.each;
      rise = AllPairs-rest (λ p q. AreBelow p.features.items q.features.items) b rest all.rise;
    },
    λ k d k_in. rw adds.made (λ i j i_in j_in. elim (Contains-append_cases old.made.items b.features.items i i_in) [
      | inl a ↦ All-tail (λ q. AreBelow old.made.items q.features.items) b rest below k d k_in i j a j_in
      | inr a ↦ all.rise 0 (suc k) d (omega arith) (omega (arith, k_in)) i j a j_in
    ]),
  )

-- piles of zones' places that follow one another have features that do
module _ (features : List (List Rect)) (zones : List Zone) (sorted : List ℕ) (size : ℕ) (some : 0 < size) (rise : IsNonDecreasingBy (feature_at zones) sorted)
    (made : List (Result Pile AllocError)) (piles : List Pile) (all : made ≡ map fine piles)
    (each : (k : ℕ) (d : Result Pile AllocError) → k < length made → IsPileFrom features zones sorted size k (get_or made k d)) where
  pile-from : (k : ℕ) (d : Pile) → k < length piles → IsPileFrom features zones sorted size k (fine (get_or piles k d))
  pile-from k d k_in =
      let long = ap length all in
      let is : get_or made k (fine d) ≡ fine (get_or piles k d) = ap (λ l. get_or l k (fine d)) all ∙ get_or-map fine piles k d (fine d) k_in in
      rw is at (each k (fine d) (omega (arith, long, k_in, length-map piles fine)))

  follow : (i j : ℕ) (d : Pile) → i < j → j < length piles → AreBelow (get_or piles i d).features.items (get_or piles j d).features.items
  follow i j d l j_in a b a_in b_in =
      let first = pile-from i d (omega (arith, l, j_in)) in
      let second = pile-from j d j_in in
      let low : IsOfPlaces zones sorted (i * size) first.to a = All-contains (IsOfPlaces zones sorted (i * size) first.to) (get_or piles i d).features.items a first.places a_in in
      let high : IsOfPlaces zones sorted (j * size) second.to b = All-contains (IsOfPlaces zones sorted (j * size) second.to) (get_or piles j d).features.items b second.places b_in in
      let steps : (i + 1) * size ≤ j * size = stretches i j size l in
      let far = first.upto in
      let begun = low.some in
      let upto = low.upto in
      let inside = second.begins in
      let up = rise (first.to - 1) (j * size - 1) 0 (omega (arith, steps, far)) (omega (arith, inside, steps, far, begun)) in
      elim high.behind [
        | inl none ↦ absurd (omega (arith, none, steps, far, begun))
        | inr behind ↦ omega (arith, upto, up, behind)
      ]

  pub all-made : AreAllMade features zones piles
  all-made = record { each = λ k d k_in. (pile-from k d k_in).made; rise = follow }

-- the features of places before one come before the feature whose zones begin there
module _ (zones : List Zone) (sorted : List ℕ) (from at : ℕ) (h : AreZonesFrom zones 0 sorted) (low : from ≤ at) (at_in : at < length sorted) where
  pub places-before : (k : ℕ) → BeginsAt zones sorted at → IsOfPlaces zones sorted from at k → k < feature_at zones (get_or sorted at 0)
  places-before k begins is =
      let some = is.some in
      let upto = is.upto in
      let up = h.rise (at - 1) at 0 (omega arith) at_in in
      elim begins [
        | inl none ↦ absurd (omega (arith, none, some))
        | inr differ ↦ omega (arith, upto, up, differ)
      ]

  -- they are of places before the next one
  pub places-on : (k : ℕ) → IsOfPlaces zones sorted from at k → IsOfPlaces zones sorted from (at + 1) k
  places-on k is =
      let some = is.some in
      let upto = is.upto in
      let up = h.rise (at - 1) at 0 (omega arith) at_in in
      let back : get_or sorted (at + 1 - 1) 0 ≡ get_or sorted at 0 = ap (λ i. get_or sorted i 0) (omega arith) in
      record { some = omega (arith, some); behind = is.behind; upto = rw back (omega (arith, upto, up)) }

  -- and so is the feature whose zones begin there
  pub places-next : BeginsAt zones sorted at → IsOfPlaces zones sorted from (at + 1) (feature_at zones (get_or sorted at 0))
  places-next begins =
      let back : get_or sorted (at + 1 - 1) 0 ≡ get_or sorted at 0 = ap (λ i. get_or sorted i 0) (omega arith) in
      record {
        some = omega (arith, low);
        behind = elim (cases_eq from 0) [
          | inl e ↦ inl e
          | inr ne ↦ elim begins [
            | inl none ↦ inl (omega (arith, none, low))
            | inr differ ↦ (
                let one = h.rise (from - 1) (at - 1) 0 (omega (arith, low)) (omega (arith, at_in)) in
                let two = h.rise (at - 1) at 0 (omega arith) at_in in
                inr (omega (arith, one, two, differ)))
          ]
        ];
        upto = rw back (omega arith);
      }
