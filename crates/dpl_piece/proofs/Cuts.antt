-- What the cut of features at their zones gives.
use Rattle.std.proofs.Common.{◌≡◌, ◌≢◌, ℕ, ◌<◌, List, [], ◌∷◌, length, get_or, map, refl, sym, ◌∙◌, subst, inl, inr}
use Rattle.std.specs.List.{All, AllZip}
use Rattle.std.proofs.lemmas.List.{get_or_default, length-map}
use Rattle.std.proofs.lemmas.List.Elements.{All-contains, All-head, All-tail, Contains-get_or}
use Rattle.dpl_spec_split.specs.declared.Rect.{Rect}
use Rattle.dpl_spec_split.specs.declared.Zone.{Zone}
use Rattle.dpl_spec_split.specs.Squares.{Region, Covers, IsLeast, IsSolidWithin}
use Rattle.dpl_spec_split.specs.Loops.{farthest, IsRectWithin, AreRectsWithin}
use Rattle.dpl_spec_split.specs.Slabs.{IsCanonical}
use Rattle.dpl_spec_split.specs.Components.{here, AreComponents}
use Rattle.dpl_spec_split.specs.Pieces.{without, IsOwner}
use Rattle.dpl_spec_split.proofs.Ordered.{Contains-nil}
use Rattle.dpl_spec_split.proofs.SquareLaws.{SameSquares-sym}
use Rattle.dpl_spec_split.proofs.SlabLaws.{member-Covers, IsLeast-first}
use Rattle.dpl_slabs.specs.Parts.{union_of}
use Rattle.dpl_piece.specs.Cutting.{cut_pieces, first_square, keys_in, AreMatched, BareCut, bare_cut, AreBare, AreBarePieces, AreFeatures, AreTheirZones, AreTheirPieces}
use Rattle.dpl_sides.specs.declared.corner.Kind.TheVariants.{LowerLeft, LowerRight, UpperLeft}
use Rattle.dpl_sides.specs.declared.piece.Piece.{Piece}
use Rattle.dpl_sides.specs.Corners.{StandBeside}
use Rattle.dpl_sides.specs.Pieces.{parts_in, no_zone}
use Rattle.dpl_piece.specs.Pieces.{owners_in, AreCut, AreHolesOf}
use Rattle.dpl_piece.proofs.CornerLaws.{corner-known, zip-length, zip-at}
use Rattle.dpl_piece.proofs.Regions.{components-same, without-same}
use Rattle.dpl_piece.proofs.Stands.{zone-within}
use Rattle.dpl_piece.proofs.Sides.{sided}

-- a component has some square
pub some-square : (a : Region) (parts : List (List Rect)) → AreComponents a parts → All (λ part. part ≢ []) parts
some-square a parts c k d k_in empty =
    let whole = c.whole k d k_in in
    let covered : Covers (get_or parts k d) whole.0 = (whole.2 whole.0).1 (here whole.1) in
    let found = member-Covers [] whole.0 (subst (λ s. Covers s whole.0) empty covered) in
    Contains-nil found.0 found.1

-- the corner of the first slab is the least square
first-least : (part : List Rect) → IsCanonical part → part ≢ [] → IsLeast (Covers part) (first_square part)
first-least [] c some = absurd (some refl)
first-least (r ∷ rs) c some = IsLeast-first r rs c

all-keyed : (parts : List (List Rect)) → All IsCanonical parts → All (λ part. part ≢ []) parts → AllZip (λ piece key. IsLeast (Covers piece) key) parts (keys_in parts)
all-keyed [] c some = tt
all-keyed (part ∷ parts) c some = (
  first-least part (All-head IsCanonical part parts c) (All-head (λ p. p ≢ []) part parts some),
  all-keyed parts (All-tail IsCanonical part parts c) (All-tail (λ p. p ≢ []) part parts some),
)

-- a relation of two fields of each piece
zip-of : {A B : Type 0} (R : A → B → Type 0) (f : Piece → A) (g : Piece → B) (xs : List Piece) → All (λ x. R (f x) (g x)) xs → AllZip R (map f xs) (map g xs)
zip-of R f g [] h = tt
zip-of R f g (x ∷ xs) h = (All-head (λ y. R (f y) (g y)) x xs h, zip-of R f g xs (All-tail (λ y. R (f y) (g y)) x xs h))

-- zones are of features
pub zones-below : (features : List (List Rect)) (zones : List Zone) → AreTheirZones features zones → All (λ z. let u : Zone = z in u.feature < length features) zones
zones-below features zones (spacing, overlap, some, zs) k d k_in = (zs.kept (get_or zones k d) (Contains-get_or zones k d k_in)).0

module _ (features : List (List Rect)) (zones : List Zone) (given : AreFeatures features) (theirs : AreTheirZones features zones) where
  pub comps : AreComponents (union_of features) features
  comps = let (layer, c) = given in components-same (Covers layer) (union_of features) features (SameSquares-sym _ _ c.together) c

  zones-within : All (AreRectsWithin farthest) features → All (λ z. IsSolidWithin farthest z.rect) zones
  zones-within within k z k_in =
      let (spacing, overlap, some, zs) = theirs in
      zone-within spacing overlap (union_of features) features zones some comps zs (get_or zones k z) (k, k_in, get_or_default zones k (get_or zones k z) z k_in) within

  pub own-within : All (AreRectsWithin farthest) features → (n : ℕ) (holes : List Rect) → AreHolesOf zones n holes → AreRectsWithin farthest holes
  own-within within n holes own r r_in =
      let (z, z_in, mine, is) = (own r).0 r_in in
      let w : IsSolidWithin farthest z.rect = All-contains (λ y. IsSolidWithin farthest y.rect) zones z (zones-within within) z_in in
      subst (IsRectWithin farthest) is (record { left = w.left; low = w.low; right = w.right; high = w.high })

  module _ (pieces : List Piece) (cut : AreCut features zones pieces) where
    abbrev left : Region
    left = without (union_of features) zones

    pub pieces-some : All (λ part. part ≢ []) (parts_in pieces)
    pieces-some = some-square left (parts_in pieces) cut.components

    pub all-owned : AllZip (IsOwner features) (parts_in pieces) (owners_in pieces)
    all-owned = zip-of (IsOwner features) (λ x. x.part) (λ x. x.owner) pieces cut.owned

    pub owners-each : length (owners_in pieces) ≡ length (parts_in pieces)
    owners-each = length-map pieces (λ x. x.owner) ∙ sym (length-map pieces (λ x. x.part))

    pub bare : All (AreRectsWithin farthest) features → (sides : List (ℕ × ℕ)) → AllZip (StandBeside (parts_in pieces)) zones sides
        → AreBare (bare_cut (parts_in pieces) (owners_in pieces) zones) sides
    bare within sides stand_so = record { parts = cut.apart; some = pieces-some; owners = owners-each; sides = stand_so; zones = zones-within within }

    their-pieces : (sides : List (ℕ × ℕ)) → AllZip (StandBeside (parts_in pieces)) zones sides
        → AreTheirPieces features zones (cut_pieces (parts_in pieces) (owners_in pieces) (keys_in (parts_in pieces)) zones sides)
    their-pieces sides stand_so layer c =
        let (spacing, overlap, some, zs) = theirs in
        record {
          components = components-same left (without (Covers layer) zones) (parts_in pieces) (without-same (union_of features) (Covers layer) zones c.together) cut.components;
          owned = all-owned;
          keyed = all-keyed (parts_in pieces) cut.apart.canonical pieces-some;
          sided = sided spacing overlap (union_of features) features (parts_in pieces) zones some comps zs cut.components sides stand_so;
        }

    pub bare-pieces : AreBarePieces features zones (bare_cut (parts_in pieces) (owners_in pieces) zones)
    bare-pieces c done =
        let stand_so : AllZip (StandBeside (parts_in pieces)) zones c.sides = rw (done.parts, done.zones) at done.sides in
        let keys : c.keys ≡ keys_in (parts_in pieces) = rw done.parts at done.keys in
        rw (done.parts, done.owners, keys) (their-pieces c.sides stand_so)

-- parts beside a zone are some of the parts
beside-known : (parts : List (List Rect)) (z : Zone) (side : ℕ × ℕ) → StandBeside parts z side → (side.0 < length parts) × (side.1 < length parts)
beside-known parts z side (one, two) = (
  elim one [
    | inl h ↦ corner-known LowerRight parts z.rect.x0 z.rect.y0 side.0 h
    | inr h ↦ corner-known UpperLeft parts z.rect.x0 z.rect.y0 side.0 h
  ],
  elim two [
    | inl h ↦ corner-known LowerLeft parts z.rect.x1 z.rect.y0 side.1 h
    | inr h ↦ corner-known LowerLeft parts z.rect.x0 z.rect.y1 side.1 h
  ],
)

-- with the pieces beside each zone they are complete
pub matched : (b : BareCut) (sides : List (ℕ × ℕ)) → AreBare b sides → AreMatched (cut_pieces b.parts b.owners (keys_in b.parts) b.zones sides)
matched b sides h =
    let each : length b.zones ≡ length sides = zip-length (StandBeside b.parts) b.zones sides h.sides in
    record {
      parts = h.parts;
      owners = h.owners;
      keys = refl;
      sides = sym each;
      known = λ k d k_in. beside-known b.parts (get_or b.zones k no_zone) (get_or sides k d)
          (zip-at (StandBeside b.parts) b.zones sides k no_zone d h.sides (subst (λ n. k < n) (sym each) k_in));
      zones = h.zones;
    }
