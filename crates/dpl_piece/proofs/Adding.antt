-- Features one after the other, some of which workers cut before.
use Rattle.std.proofs.Common.{◌≡◌, ℕ, ◌+◌, ◌<◌, ◌≤◌, inl, inr, List, [], ◌++◌, length, get_or, map, sym, ap, ◌∙◌, subst, arith}
use Rattle.std.specs.List.{All, AllPairs, Contains}
use Rattle.std.proofs.lemmas.Bool.{cases_eq, cases_lt}
use Rattle.std.proofs.lemmas.List.{get_or_default, length-map}
use Rattle.std.proofs.lemmas.List.Elements.{All-contains}
use Rattle.dpl_spec_split.specs.declared.Rect.{Rect}
use Rattle.dpl_spec_split.specs.declared.Zone.{Zone}
use Rattle.dpl_spec_split.specs.Loops.{farthest, AreRectsWithin}
use Rattle.dpl_sides.specs.declared.piece.Piece.{Piece}
use Rattle.dpl_sides.specs.Pieces.{parts_in, rect_at}
use Rattle.dpl_piece.specs.declared.rest.Cutting.{Cutting}
use Rattle.dpl_piece.specs.Adding.{AddsFeature, AddsNext, IsBegun, IsMadeAt, KeepsMade}
use Rattle.dpl_piece.specs.Cutting.{AreFeatures, AreTheirZones}
use Rattle.dpl_piece.specs.Pieces.{feature_at, AreHolesOf, AreZonesOf}
use Rattle.dpl_piece.specs.Share.{ArePiecesOf, AreSidesOfShare}
use Rattle.dpl_piece.specs.Wholes.{AreWholesBelow}
use Rattle.dpl_piece.proofs.Broken.{pieces-added, pieces-both, pieces-same, Either, IsFeature}
use Rattle.dpl_piece.proofs.Cuts.{comps}
use Rattle.dpl_piece.proofs.Sides.{sided-next, IsBelow}
use Rattle.dpl_piece.proofs.Turns.{zones-holes}
use Rattle.dpl_piece.proofs.WholeLaws.{wholes-kept, wholes-next, wholes-none}

-- the first n features, and those that workers cut
abbrev pub IsDone : List ℕ → ℕ → ℕ → Type 0
IsDone made n = Either (IsBelow n) (Contains made)

-- these are added, and as many of those that workers cut as are said come before feature n
pub record AreAdded (features : List (List Rect)) (zones : List Zone) (n place : ℕ) (c : Cutting) : Type 0 where
  pub known : All (λ k. k < length features) c.made.items
  pub rise : AllPairs (λ j k. j < k) c.made.items
  pub before : (i : ℕ) → i < place → i < length c.made.items → get_or c.made.items i 0 < n
  pub behind : (i : ℕ) → place ≤ i → i < length c.made.items → n ≤ get_or c.made.items i 0
  pub pieces : ArePiecesOf features zones (IsDone c.made.items n) c.pieces.items
  pub sides : AreSidesOfShare zones (IsDone c.made.items n) (parts_in c.pieces.items) c.noted.firsts.items c.noted.seconds.items
  pub wholes : AreWholesBelow features zones n c.wholes.items

-- a share said otherwise has the same sides
sides-same : (zones : List Zone) (Share Other : ℕ → Type 0) (parts : List (List Rect)) (firsts seconds : List ℕ) → ((k : ℕ) → Other k → Share k)
    → AreSidesOfShare zones Share parts firsts seconds → AreSidesOfShare zones Other parts firsts seconds
sides-same zones Share Other parts firsts seconds back h = record {
  firsts-each = h.firsts-each;
  seconds-each = h.seconds-each;
  before = λ j j_in o. h.before j j_in (back (feature_at zones j) o);
  after = λ j j_in o. h.after j j_in (back (feature_at zones j) o);
}

pub added-begun : (features : List (List Rect)) (zones : List Zone) (c : Cutting) → IsBegun features zones c → AreAdded features zones 0 0 c
added-begun features zones c h =
    let back : (k : ℕ) → IsDone c.made.items 0 k → Contains c.made.items k = λ k. elim [
      | inl l ↦ absurd (omega (arith, l))
      | inr a ↦ a
    ] in
    record {
      known = h.known;
      rise = h.rise;
      before = λ i l i_in. absurd (omega (arith, l));
      behind = λ i l i_in. omega arith;
      pieces = pieces-same features zones (Contains c.made.items) (IsDone c.made.items 0) (λ k a. inr a) back c.pieces.items h.pieces;
      sides = sides-same zones (Contains c.made.items) (IsDone c.made.items 0) (parts_in c.pieces.items) c.noted.firsts.items c.noted.seconds.items back h.sides;
      wholes = rw h.wholes (wholes-none features zones);
    }

module _ (features : List (List Rect)) (zones : List Zone) (given : AreFeatures features) (theirs : AreTheirZones features zones)
    (within : All (AreRectsWithin farthest) features) (n : ℕ) (n_in : n < length features) (own : List ℕ) (are : AreZonesOf zones n own)
    (place : ℕ) (old : Cutting) (h : AreAdded features zones n place old) where
  abbrev made : List ℕ
  made = old.made.items

  holes : AreHolesOf zones n (map (rect_at zones) own)
  holes = zones-holes zones n own are

  -- one more of those that workers cut
  here : IsMadeAt made place n → Contains made n
  here (place_in, is) = (place, place_in, get_or_default made place n 0 place_in ∙ is)

  kept-next : (new : Cutting) → IsMadeAt made place n → KeepsMade (get_or features n []) n old new → AreAdded features zones (n + 1) (place + 1) new
  kept-next new at keeps =
      let to : (k : ℕ) → IsDone made n k → IsDone made (n + 1) k = λ k. elim [
        | inl l ↦ inl (omega (arith, l))
        | inr a ↦ inr a
      ] in
      let back : (k : ℕ) → IsDone made (n + 1) k → IsDone made n k = λ k. elim [
        | inl l ↦ elim (cases_eq k n) [
          | inl e ↦ inr (subst (Contains made) (sym e) (here at))
          | inr ne ↦ inl (omega (arith, l, ne))
        ]
        | inr a ↦ inr a
      ] in
      record {
        known = rw keeps.made h.known;
        rise = rw keeps.made h.rise;
        before = rw keeps.made (λ i l i_in. elim (cases_eq i place) [
          | inl e ↦ (let is = at.1 in let same = ap (λ q. get_or made q 0) e in omega (arith, is, same))
          | inr ne ↦ (let low = h.before i (omega (arith, l, ne)) i_in in omega (arith, low))
        ]);
        behind = rw keeps.made (λ i l i_in. (let up = h.rise place i 0 (omega (arith, l)) i_in in let is = at.1 in omega (arith, up, is)));
        pieces = rw (keeps.made, keeps.pieces) (pieces-same features zones (IsDone made n) (IsDone made (n + 1)) to back old.pieces.items h.pieces);
        sides = rw (keeps.made, keeps.pieces, keeps.firsts, keeps.seconds)
            (sides-same zones (IsDone made n) (IsDone made (n + 1)) (parts_in old.pieces.items) old.noted.firsts.items old.noted.seconds.items back h.sides);
        wholes = wholes-kept features zones n old.wholes.items new.wholes.items h.wholes keeps.wholes;
      }

  -- or one that they didn't cut
  not-made : ¬ IsMadeAt made place n → ¬ Contains made n
  not-made none (i, i_in, is) =
      let e : get_or made i 0 ≡ n = get_or_default made i 0 n i_in ∙ is in
      elim (cases_lt i place) [
        | inl l ↦ (let low = h.before i l i_in in omega (arith, low, e))
        | inr past ↦ (
            let up = h.behind place (omega arith) (omega (arith, past, i_in)) in
            elim (cases_eq place i) [
              | inl same ↦ none (omega (arith, past, i_in), ap (λ q. get_or made q 0) same ∙ e)
              | inr ne ↦ (let more = h.rise place i 0 (omega (arith, past, ne)) i_in in omega (arith, up, more, e))
            ])
      ]

  cut-next : (new : Cutting) → ¬ IsMadeAt made place n → AddsFeature (get_or features n []) zones own n old new → AreAdded features zones (n + 1) place new
  cut-next new none adds =
      let (spacing, overlap, some, zs) = theirs in
      let all = comps features zones given theirs in
      let free = not-made none in
      let (more, of, is) = pieces-added spacing overlap features zones all zs n n_in (map (rect_at zones) own) holes old.pieces.items new.pieces.items (within n [] n_in) adds.pieces in
      let both : ArePiecesOf features zones (Either (IsDone made n) (IsFeature n)) (old.pieces.items ++ more) =
      pieces-both spacing overlap features zones all zs (IsDone made n) (IsFeature n) (λ k. elim [
        | inl l ↦ (λ e. omega (arith, l, e))
        | inr a ↦ (λ e. free (subst (Contains made) e a))
      ]) old.pieces.items more h.pieces of in
      record {
        known = rw adds.made h.known;
        rise = rw adds.made h.rise;
        before = rw adds.made (λ i l i_in. (let low = h.before i l i_in in omega (arith, low)));
        behind = rw adds.made (λ i l i_in. (
            let up = h.behind i l i_in in
            elim (cases_eq (get_or made i 0) n) [
              | inl e ↦ absurd (free (i, i_in, get_or_default made i n 0 i_in ∙ e))
              | inr ne ↦ omega (arith, up, ne)
            ]));
        pieces = rw (adds.made, is)
            (pieces-same features zones (Either (IsDone made n) (IsFeature n)) (IsDone made (n + 1)) (λ k. elim [
              | inl (inl l) ↦ inl (omega (arith, l))
              | inl (inr a) ↦ inr a
              | inr e ↦ inl (omega (arith, e))
            ]) (λ k. elim [
              | inl l ↦ elim (cases_eq k n) [
                | inl e ↦ inr e
                | inr ne ↦ inl (inl (omega (arith, l, ne)))
              ]
              | inr a ↦ inl (inr a)
            ]) (old.pieces.items ++ more) both);
        sides = rw adds.made
            (sided-next spacing overlap features zones some all zs n n_in own (λ j j_in e. (are j).1 (j_in, e)) (λ j j_in. ((are j).0 j_in).1) (map (rect_at zones) own) holes
            (IsDone made n) (IsDone made (n + 1)) (λ k. elim [
              | inl l ↦ (λ ne. inl (omega (arith, l, ne)))
              | inr a ↦ (λ ne. inr a)
            ])
            old.pieces.items new.pieces.items (length old.pieces.items) old.noted.firsts.items old.noted.seconds.items new.noted.firsts.items new.noted.seconds.items
            (sym (length-map old.pieces.items (λ x. let u : Piece = x in u.part))) adds.pieces h.sides adds.firsts adds.seconds);
        wholes = wholes-next features zones n old.wholes.items new.wholes.items h.wholes (map (rect_at zones) own) holes adds.wholes;
      }

  pub added-next : (next : ℕ) (new : Cutting) → AddsNext (get_or features n []) zones own n place next old new → AreAdded features zones (n + 1) next new
  added-next next new (inl (at, is, keeps)) = rw is (kept-next new at keeps)
  added-next next new (inr (none, is, adds)) = rw is (cut-next new none adds)

-- all are added
module _ (features : List (List Rect)) (zones : List Zone) (n place : ℕ) (c : Cutting) (h : AreAdded features zones n place c) (all : n ≡ length features) where
  done : (k : ℕ) → IsDone c.made.items n k → k < n
  done k (inl l) = l
  done k (inr a) = rw all (All-contains (λ i. i < length features) c.made.items k h.known a)

  pub all-pieces : ArePiecesOf features zones (IsBelow n) c.pieces.items
  all-pieces = pieces-same features zones (IsDone c.made.items n) (IsBelow n) done (λ k l. inl l) c.pieces.items h.pieces

  pub all-sides : AreSidesOfShare zones (IsBelow n) (parts_in c.pieces.items) c.noted.firsts.items c.noted.seconds.items
  all-sides = sides-same zones (IsDone c.made.items n) (IsBelow n) (parts_in c.pieces.items) c.noted.firsts.items c.noted.seconds.items (λ k l. inl l) h.sides
