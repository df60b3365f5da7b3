-- The pieces on the two sides of each zone.
use Rattle.std.proofs.Common.{◌≡◌, ◌≢◌, ℕ, ◌≤◌, ◌<◌, ◌+◌, inl, inr, List, [], ◌∷◌, ◌++◌, length, get_or, map, refl, sym, ap, ◌∙◌, subst, arith}
use Rattle.std.specs.Prelude.{ℤ}
use Rattle.std.specs.List.{AllZip, Contains}
use Rattle.std.proofs.lemmas.Bool.{cases_eq}
use Rattle.std.proofs.lemmas.List.{get_or_append_left, get_or-append-add, get_or_default, length-append, map-append}
use Rattle.dpl_spec_split.specs.declared.Spacing.{Spacing}
use Rattle.dpl_spec_split.specs.declared.Rect.{Rect}
use Rattle.dpl_spec_split.specs.declared.Zone.{Zone}
use Rattle.dpl_spec_split.specs.Squares.{Region}
use Rattle.dpl_spec_split.specs.Components.{AreComponents}
use Rattle.dpl_spec_split.specs.Zones.{AreSomeZones, part_at}
use Rattle.dpl_spec_split.specs.Pieces.{without, AreSides}
use Rattle.dpl_slabs.specs.Parts.{union_of}
use Rattle.dpl_sides.specs.declared.corner.Corner.{Corner}
use Rattle.dpl_sides.specs.declared.corner.Kind.{Kind}
use Rattle.dpl_sides.specs.declared.corner.Kind.TheVariants.{LowerLeft, LowerRight, UpperLeft}
use Rattle.dpl_sides.specs.declared.piece.Piece.{Piece}
use Rattle.dpl_sides.specs.Corners.{corner_at, IsCornerOf, IsCornerWithin, StandsBefore, StandsAfter, StandBeside}
use Rattle.dpl_sides.specs.Noted.{AreSidesNoted, StandsBeforeFrom, StandsAfterFrom}
use Rattle.dpl_sides.specs.Pieces.{parts_in, rect_at, whole_piece, zone_at}
use Rattle.dpl_piece.specs.Pieces.{broken_piece, feature_at, AddsPieces, AreBroken, AreHolesOf}
use Rattle.dpl_piece.specs.Share.{AreSidesOfShare}
use Rattle.dpl_piece.proofs.Broken.{broken-left}
use Rattle.dpl_sides.proofs.CornerLaws.{number-is, renumber}
use Rattle.dpl_piece.proofs.CornerLaws.{zip-length, zip-at, zip-from}
use Rattle.dpl_piece.proofs.Stands.{AreLeftOf, left-of, sides-from_stand, stand}

module _ (spacing : Spacing) (overlap : ℕ) (layer : Region) (features pieces : List (List Rect)) (zones : List Zone) (some : 1 ≤ overlap)
    (c : AreComponents layer features) (zs : AreSomeZones spacing overlap layer features zones) (ps : AreComponents (without layer zones) pieces)
    (sides : List (ℕ × ℕ)) (stand_so : AllZip (StandBeside pieces) zones sides) where
  pub sided : AllZip (AreSides features pieces) zones sides
  sided = zip-from (AreSides features pieces) zones sides (zip-length (StandBeside pieces) zones sides stand_so)
      (λ k z s k_in. sides-from_stand spacing overlap layer features pieces zones some c zs (get_or zones k z)
      (k, k_in, get_or_default zones k (get_or zones k z) z k_in) (left-of layer zones (part_at features (get_or zones k z).feature) pieces ps)
      (get_or sides k s)
      (zip-at (StandBeside pieces) zones sides k z s stand_so k_in))

module _ (old more : List (List Rect)) (kind : Kind) (x y : ℤ) (k : ℕ) where
  -- a corner of one of some parts is one of these after others
  pub moved-corner : IsCornerOf kind more (corner_at x y k) → IsCornerWithin kind (old ++ more) (length old) (length (old ++ more)) (corner_at x y (length old + k))
  moved-corner (i, r, i_in, r_in, is) =
      let same : i ≡ k = number-is kind i k r x y is in
      let there : get_or (old ++ more) (length old + i) [] ≡ get_or more i [] = get_or-append-add old more i [] in (
        length old + i,
        r,
        omega arith,
        omega (arith, i_in, length-append old more),
        subst (λ s. Contains s r) (sym there) r_in,
        renumber kind i k (length old + i) r x y is ∙ ap (λ m. corner_at x y (length old + m)) same,
      )

  -- or one of these before others
  kept-corner : IsCornerOf kind old (corner_at x y k) → IsCornerOf kind (old ++ more) (corner_at x y k)
  kept-corner (i, r, i_in, r_in, is) = (
    i,
    r,
    omega (arith, i_in, length-append old more),
    subst (λ s. Contains s r) (sym (get_or_append_left old more [] i i_in)) r_in,
    is,
  )

pub some-corner : (kind : Kind) (parts : List (List Rect)) (from : ℕ) (c : Corner) → IsCornerWithin kind parts from (length parts) c → IsCornerOf kind parts c
some-corner kind parts from c (i, r, low, high, r_in, is) = (i, r, high, r_in, is)

pub some-before : (parts : List (List Rect)) (from : ℕ) (z : Zone) (k : ℕ) → StandsBeforeFrom parts from z k → StandsBefore parts z k
some-before parts from z k (inl h) = inl (some-corner LowerRight parts from (corner_at z.rect.x0 z.rect.y0 k) h)
some-before parts from z k (inr h) = inr (some-corner UpperLeft parts from (corner_at z.rect.x0 z.rect.y0 k) h)

pub some-after : (parts : List (List Rect)) (from : ℕ) (z : Zone) (k : ℕ) → StandsAfterFrom parts from z k → StandsAfter parts z k
some-after parts from z k (inl h) = inl (some-corner LowerLeft parts from (corner_at z.rect.x1 z.rect.y0 k) h)
some-after parts from z k (inr h) = inr (some-corner LowerLeft parts from (corner_at z.rect.x0 z.rect.y1 k) h)

-- the share of the first n features
abbrev pub IsBelow : ℕ → ℕ → Type 0
IsBelow n k = k < n

-- a part that stands beside a zone does so where more come behind it
pub kept-before : (old more : List (List Rect)) (z : Zone) (k : ℕ) → StandsBefore old z k → StandsBefore (old ++ more) z k
kept-before old more z k (inl h) = inl (kept-corner old more LowerRight z.rect.x0 z.rect.y0 k h)
kept-before old more z k (inr h) = inr (kept-corner old more UpperLeft z.rect.x0 z.rect.y0 k h)

pub kept-after : (old more : List (List Rect)) (z : Zone) (k : ℕ) → StandsAfter old z k → StandsAfter (old ++ more) z k
kept-after old more z k (inl h) = inl (kept-corner old more LowerLeft z.rect.x1 z.rect.y0 k h)
kept-after old more z k (inr h) = inr (kept-corner old more LowerLeft z.rect.x0 z.rect.y1 k h)

-- and where others come before it, as many places later
placed : (old more : List (List Rect)) (kind : Kind) (x y : ℤ) (k : ℕ) → IsCornerOf kind more (corner_at x y k) → IsCornerOf kind (old ++ more) (corner_at x y (length old + k))
placed old more kind x y k h = some-corner kind (old ++ more) (length old) (corner_at x y (length old + k)) (moved-corner old more kind x y k h)

pub moved-before : (old more : List (List Rect)) (z : Zone) (k : ℕ) → StandsBefore more z k → StandsBefore (old ++ more) z (length old + k)
moved-before old more z k (inl h) = inl (placed old more LowerRight z.rect.x0 z.rect.y0 k h)
moved-before old more z k (inr h) = inr (placed old more UpperLeft z.rect.x0 z.rect.y0 k h)

pub moved-after : (old more : List (List Rect)) (z : Zone) (k : ℕ) → StandsAfter more z k → StandsAfter (old ++ more) z (length old + k)
moved-after old more z k (inl h) = inl (placed old more LowerLeft z.rect.x1 z.rect.y0 k h)
moved-after old more z k (inr h) = inr (placed old more LowerLeft z.rect.x0 z.rect.y1 k h)

-- pieces are added behind the others
pub adds-longer : (feature holes : List Rect) (n : ℕ) (pieces new : List Piece) → AddsPieces feature holes n pieces new → length pieces ≤ length new
adds-longer feature holes n pieces new (inl (none, is)) = omega (arith, ap length is, length-append pieces (whole_piece n feature ∷ []))
adds-longer feature holes n pieces new (inr (some, b)) = omega (arith, ap length b.added, length-append pieces (map (broken_piece n) b.parts))

pub parts-broken : (n : ℕ) (parts : List (List Rect)) → parts_in (map (broken_piece n) parts) ≡ parts
parts-broken n [] = refl
parts-broken n (part ∷ parts) = ap (λ l. part ∷ l) (parts-broken n parts)

module _ (spacing : Spacing) (overlap : ℕ) (features : List (List Rect)) (zones : List Zone) (least : 1 ≤ overlap) (c : AreComponents (union_of features) features)
    (zs : AreSomeZones spacing overlap (union_of features) features zones) (n : ℕ) (n_in : n < length features) (own : List ℕ)
    (there : (j : ℕ) → j < length zones → feature_at zones j ≡ n → Contains own j) (mine : (j : ℕ) → Contains own j → feature_at zones j ≡ n)
    (holes : List Rect) (are : AreHolesOf zones n holes) where
  zone-in : (j : ℕ) → j < length zones → Contains zones (zone_at zones j)
  zone-in j j_in = (j, j_in, get_or_default zones j (zone_at zones j) (zone_at [] 0) j_in)

  -- a zone of the feature stands between two of the parts into which it is broken
  pub broken-stand : (parts : List (List Rect)) → 0 < length holes → AreBroken (get_or features n []) holes parts → (j : ℕ) → j < length zones → feature_at zones j ≡ n
      → (side : ℕ × ℕ) × StandsBefore parts (zone_at zones j) side.0 × StandsAfter parts (zone_at zones j) side.1
  broken-stand parts some b j j_in is =
      let z : Zone = zone_at zones j in
      let ls : AreLeftOf (union_of features) zones (part_at features z.feature) parts = subst
      (λ k. AreLeftOf (union_of features) zones (part_at features k) parts) (sym is)
      (broken-left spacing overlap features zones c zs n n_in holes are parts some b.components b.apart) in
      let (side, (one, two)) = stand spacing overlap (union_of features) features parts zones least c zs z (zone-in j j_in) ls in
      (side, one, two)

  -- or of its new ones
  new-stand : (pieces new : List Piece) → AddsPieces (get_or features n []) holes n pieces new → (j : ℕ) → j < length zones → feature_at zones j ≡ n
      → (side : ℕ × ℕ) × StandsBeforeFrom (parts_in new) (length (parts_in pieces)) (zone_at zones j) side.0
      × StandsAfterFrom (parts_in new) (length (parts_in pieces)) (zone_at zones j) side.1
  new-stand pieces new (inl (none, new_is)) j j_in is =
      absurd (let (i, i_in, i_is) = (are (rect_at zones j)).1 (zone_at zones j, zone-in j j_in, is, refl) in omega (arith, i_in, none))
  new-stand pieces new (inr (some, b)) j j_in is =
      let z : Zone = zone_at zones j in
      let (side, one, two) = broken-stand b.parts some b.broken j j_in is in
      let old : List (List Rect) = parts_in pieces in
      let whole : parts_in new ≡ old ++ b.parts = ap parts_in b.added ∙ (map-append (λ x. let u : Piece = x in u.part) pieces (map (broken_piece n) b.parts)
      ∙ ap (λ l. old ++ l) (parts-broken n b.parts)) in
      rw whole (
        (length old + side.0, length old + side.1),
        elim one [
          | inl h ↦ inl (moved-corner old b.parts LowerRight z.rect.x0 z.rect.y0 side.0 h)
          | inr h ↦ inr (moved-corner old b.parts UpperLeft z.rect.x0 z.rect.y0 side.0 h)
        ],
        elim two [
          | inl h ↦ inl (moved-corner old b.parts LowerLeft z.rect.x1 z.rect.y0 side.1 h)
          | inr h ↦ inr (moved-corner old b.parts LowerLeft z.rect.x0 z.rect.y1 side.1 h)
        ],
      )

  more-parts : (pieces new : List Piece) → AddsPieces (get_or features n []) holes n pieces new → (more : List (List Rect)) × (parts_in new ≡ parts_in pieces ++ more)
  more-parts pieces new (inl (none, is)) =
      (parts_in (whole_piece n (get_or features n []) ∷ []), ap parts_in is ∙ map-append (λ x. let u : Piece = x in u.part) pieces (whole_piece n (get_or features n []) ∷ []))
  more-parts pieces new (inr (some, b)) =
      (parts_in (map (broken_piece n) b.parts), ap parts_in b.added ∙ map-append (λ x. let u : Piece = x in u.part) pieces (map (broken_piece n) b.parts))

  -- one feature more
  pub sided-next : (Share Next : ℕ → Type 0) → ((k : ℕ) → Next k → k ≢ n → Share k) → (pieces new : List Piece) (from : ℕ) (firsts seconds firsts-new seconds-new : List ℕ) → from ≡ length (parts_in pieces)
      → AddsPieces (get_or features n []) holes n pieces new → AreSidesOfShare zones Share (parts_in pieces) firsts seconds
      → AreSidesNoted (StandsBeforeFrom (parts_in new) from) zones own firsts firsts-new
      → AreSidesNoted (StandsAfterFrom (parts_in new) from) zones own seconds seconds-new
      → AreSidesOfShare zones Next (parts_in new) firsts-new seconds-new
  sided-next Share Next but pieces new from firsts seconds firsts-new seconds-new from_is adds h one two =
      let (more, whole) = more-parts pieces new adds in
      record {
        firsts-each = one.each ∙ h.firsts-each;
        seconds-each = two.each ∙ h.seconds-each;
        before = λ j j_in l. elim (cases_eq (feature_at zones j) n) [
          | inl e ↦ (
              let (side, stands, other) = new-stand pieces new adds j j_in e in
              some-before (parts_in new) from (zone_at zones j) (get_or firsts-new j 0)
              (one.noted j (there j j_in e) side.0 (subst (λ m. StandsBeforeFrom (parts_in new) m (zone_at zones j) side.0) (sym from_is) stands)))
          | inr ne ↦ (
              let is : get_or firsts-new j 0 ≡ get_or firsts j 0 = one.kept j (λ own_in. ne (mine j own_in)) in
              rw (is, whole) (kept-before (parts_in pieces) more (zone_at zones j) (get_or firsts j 0) (h.before j j_in (but (feature_at zones j) l ne))))
        ];
        after = λ j j_in l. elim (cases_eq (feature_at zones j) n) [
          | inl e ↦ (
              let (side, other, stands) = new-stand pieces new adds j j_in e in
              some-after (parts_in new) from (zone_at zones j) (get_or seconds-new j 0)
              (two.noted j (there j j_in e) side.1 (subst (λ m. StandsAfterFrom (parts_in new) m (zone_at zones j) side.1) (sym from_is) stands)))
          | inr ne ↦ (
              let is : get_or seconds-new j 0 ≡ get_or seconds j 0 = two.kept j (λ own_in. ne (mine j own_in)) in
              rw (is, whole) (kept-after (parts_in pieces) more (zone_at zones j) (get_or seconds j 0) (h.after j j_in (but (feature_at zones j) l ne))))
        ];
      }
