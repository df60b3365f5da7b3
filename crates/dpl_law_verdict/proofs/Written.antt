-- The certificate of a decomposition is in the grammar, and its masks lie within the range.
use Rattle.std.proofs.Common.{◌≡◌, ℕ, suc, ◌/◌, ◌^◌, ◌<◌, ◌≤◌, inl, inr, Bool, List, [], ◌∷◌, length, map, get_or, refl, sym, ap, ◌∙◌, subst, arith}
use Rattle.std.specs.Prelude.{Option, pos, ◌-ℤ◌, ◌≤ℤ◌, ◌<ℤ◌}
use Rattle.std.specs.List.{AllByRecursion, AllZip, Contains, zip}
use Rattle.std.proofs.lemmas.Int.{ints}
use Rattle.std.proofs.lemmas.List.{get_or_default, length-map}
use Rattle.std.proofs.lemmas.Slice.Zip.{AllZip-long}
use Rattle.dpl_spec_split.specs.declared.Spacing.{Spacing}
use Rattle.dpl_spec_split.specs.declared.Pt.{Pt}
use Rattle.dpl_spec_split.specs.declared.Rect.{Rect}
use Rattle.dpl_spec_split.specs.declared.Zone.{Zone}
use Rattle.dpl_spec_split.specs.Squares.{Region, Covers, Has, IsLeast}
use Rattle.dpl_spec_split.specs.Slabs.{IsSolid}
use Rattle.dpl_spec_split.specs.Loops.{AreRectsWithin, farthest}
use Rattle.dpl_spec_split.specs.Zones.{at, part_at, IsHorizontalZone, IsKeptZone, transposed, transposed_rect}
use Rattle.dpl_spec_split.specs.Pieces.{AreSides, without}
use Rattle.dpl_spec_split.specs.Graphs.{IsOddCycle}
use Rattle.dpl_spec_split.specs.Cycle.{IsReported}
use Rattle.dpl_spec_split.specs.Decomposition.{Cut, IsCut, Masks, conflicts}
use Rattle.dpl_law_split.specs.Letters.{AreLettered}
use Rattle.dpl_spec_split.specs.Marks.{Marks, letters_by}
use Rattle.dpl_law_verdict.proofs.Painted.{many-letters}
use Rattle.dpl_stars.proofs.Forks.{reported-odd}
use Rattle.dpl_law_split.proofs.Parts.{part-inside, zip-at, kept, zone-own, piece-rest}
use Rattle.dpl_law_split.proofs.Cover.{as_many_sides, cover}
use Rattle.dpl_slabs.proofs.LoopLaws.{Inside}
use Rattle.dpl_cert.specs.declared.cert.NearLine.{NearLine}
use Rattle.dpl_cert.specs.declared.cert.NearLine.TheVariants.{Pair, Mark, Anchors}
use Rattle.dpl_law_verdict.specs.Own.{AreGainsBy, ShowsPair}
use Rattle.dpl_law_verdict.proofs.Rising.{gains-fit}
use Rattle.dpl_cert.specs.declared.cert.Gain.{Gain}
use Rattle.dpl_law_verdict.specs.Written.{IsCorner}
use Rattle.dpl_nearest.specs.Nearest.{IsNearestPair}
use Rattle.std.specs.Prelude.{slice_index, ◌+◌, ◌%◌}
use Rattle.dpl_cert.specs.declared.cert.Cert.TheVariants.{Masks as MasksText, Conflict as ConflictText}
use Rattle.dpl_cert.specs.Grammar.{IsCert, IsCycleLength, IsHead, IsNear, IsPiece, IsPlace, IsPoint, IsRect, IsRule, IsStitch}
use Rattle.dpl_law_verdict.specs.Own.{ShowNearest, head_of, no_zone, piece_line, place_line, stitch_line}
use Rattle.dpl_law_verdict.proofs.Ranges.{covered-inside, part-within}
use Rattle.dpl_law_verdict.proofs.Counting.{corner, few-numbers, few-parts, few-zones}
use Rattle.dpl_law_verdict.proofs.Clashing.{conflicts-undirected}

-- ---- lists

pub all-map : {A B : Type 0} (P : B → Type 0) (f : A → B) (xs : List A) → ((x : A) → (k : ℕ) → k < length xs → get_or xs k x ≡ x → P (f x)) → AllByRecursion P (map f xs)
all-map P f [] each = tt
all-map P f (x ∷ xs) each = (each x 0 (omega arith) refl, all-map P f xs (λ y k k_in is. each y (suc k) (omega (arith, k_in)) is))

pub all-index : {A : Type 0} (P : A → Type 0) (xs : List A) → ((k : ℕ) (d : A) → k < length xs → P (get_or xs k d)) → AllByRecursion P xs
all-index P [] each = tt
all-index P (x ∷ xs) each = (each 0 x (omega arith), all-index P xs (λ k d k_in. each (suc k) d (omega (arith, k_in))))

-- the keys of parts that lie in the range
all-keys : (parts : List (List Rect)) (keys : List Pt) → AllZip (λ part key. IsLeast (Covers part) key) parts keys
    → ((k : ℕ) (p : Pt) → part_at parts k p → IsPoint p) → AllByRecursion IsPoint keys
all-keys [] [] z within = tt
all-keys [] (k ∷ ks) z within = absurd z
all-keys (p ∷ ps) [] z within = absurd z
all-keys (p ∷ ps) (k ∷ ks) z within = (within 0 k z.0.inside, all-keys ps ks z.1 (λ j q has. within (suc j) q has))

all-lines : (colours : List Bool) (keys : List Pt) → AllByRecursion IsPoint keys → AllByRecursion IsPiece (map piece_line (zip colours keys))
all-lines [] keys h = tt
all-lines (c ∷ cs) [] h = tt
all-lines (c ∷ cs) (k ∷ ks) h = (h.0, all-lines cs ks h.1)

many-lines : (colours : List Bool) (keys : List Pt) → length colours ≡ length keys → length (map piece_line (zip colours keys)) ≡ length keys
many-lines [] [] h = refl
many-lines [] (k ∷ ks) h = absurd (omega (arith, h))
many-lines (c ∷ cs) [] h = absurd (omega (arith, h))
many-lines (c ∷ cs) (k ∷ ks) h = ap suc (many-lines cs ks (omega (arith, h)))

-- ---- zones

pub point-of : (p : Pt) → Inside farthest p → IsPoint p
point-of p (a, b, c, d) = record { x = (omega (arith, ints, a), omega (arith, ints, a)); y = (omega (arith, ints, b), omega (arith, ints, b)) }

level-solid : (spacing : Spacing) (overlap : ℕ) (l f : Region) (z : Rect) → 1 ≤ overlap → IsHorizontalZone spacing overlap l f z → IsSolid z
level-solid spacing overlap l f z some h =
    let r : Rect = h.stretch in
    let st = h.is in
    let m = h.middle in
    let width = m.width in
    let (low, high) = m.rows in
    let long = st.long in
    let from : r.x0 ≤ℤ z.x0 = elim m.middle [ inl e ↦ omega (arith, ints, e, width, long) | inr e ↦ omega (arith, ints, e, width, long) ] in
    let to : z.x1 ≤ℤ r.x1 = elim m.middle [ inl e ↦ omega (arith, ints, e, width, long) | inr e ↦ omega (arith, ints, e, width, long) ] in
    let wide : z.x0 <ℤ z.x1 = omega (arith, ints, width, some) in
    let tall = (st.runs z.x0 from (omega (arith, ints, wide, to))).some in
    record { wide = wide; tall = omega (arith, ints, tall, low, high) }

zone-solid : (spacing : Spacing) (overlap : ℕ) (l f : Region) (z : Rect) → 1 ≤ overlap → IsKeptZone spacing overlap l f z → IsSolid z
zone-solid spacing overlap l f z some (inl h) = level-solid spacing overlap l f z some h
zone-solid spacing overlap l f z some (inr (v, apart)) =
    let s = level-solid spacing overlap (transposed l) (transposed f) (transposed_rect z) some v in
    record { wide = s.tall; tall = s.wide }

-- a rectangle whose least and greatest squares lie in the range
rect-of : (r : Rect) → IsSolid r → Inside farthest (at r.x0 r.y0) → Inside farthest (at (r.x1 -ℤ pos 1) (r.y1 -ℤ pos 1)) → IsRect r
rect-of r solid (a, b, c, d) (e, f, g, h) = record {
  x0 = (omega (arith, ints, a), omega (arith, ints, a));
  y0 = (omega (arith, ints, b), omega (arith, ints, b));
  x1 = (omega (arith, ints, g), omega (arith, ints, g));
  y1 = (omega (arith, ints, h), omega (arith, ints, h));
  wide = solid.wide;
  high = solid.tall;
}

-- ---- the lines of a cut

module _ (marks : Option Marks) (spacing : Spacing) (overlap : ℕ) (layer : List Rect) (c : Cut) (ruled : IsRule spacing.rule) (cornered : IsCorner spacing) (lapped : IsRule overlap)
    (within : AreRectsWithin farthest layer) (cut : IsCut marks spacing overlap (Covers layer) c) where
  pub piece-inside : (k : ℕ) (p : Pt) → part_at c.pieces k p → Inside farthest p
  piece-inside k p has = covered-inside layer p within (piece-rest marks spacing overlap (Covers layer) c cut k p has).0

  zone-inside : (z : Zone) (p : Pt) → Contains c.zones z → Has z.rect p → Inside farthest p
  zone-inside z p z_in has = covered-inside layer p within (part-inside (Covers layer) c.features z.feature p cut.features
      (zone-own marks spacing overlap (Covers layer) c cut z p z_in has))

  solid-zone : (z : Zone) → Contains c.zones z → IsSolid z.rect
  solid-zone z z_in = zone-solid spacing overlap (Covers layer) (part_at c.features z.feature) z.rect lapped.0 (kept marks spacing overlap (Covers layer) c cut z z_in).1

  first-inside : (z : Zone) → Contains c.zones z → Inside farthest (corner z)
  first-inside z z_in =
      let s = solid-zone z z_in in
      let wide = s.wide in
      let tall = s.tall in
      zone-inside z (corner z) z_in (record { left = omega (arith, ints); right = wide; low = omega (arith, ints); high = tall })

  rect-zone : (z : Zone) → Contains c.zones z → IsRect z.rect
  rect-zone z z_in =
      let s = solid-zone z z_in in
      let wide = s.wide in
      let tall = s.tall in
      rect-of z.rect s (first-inside z z_in)
      (zone-inside z (at (z.rect.x1 -ℤ pos 1) (z.rect.y1 -ℤ pos 1)) z_in
      (record {
        left = omega (arith, ints, wide);
        right = omega (arith, ints);
        low = omega (arith, ints, tall);
        high = omega
            (arith, ints);
      }))

  pub bounded-pieces : length c.pieces ≤ 4000000000000000000
  bounded-pieces = few-parts layer (without (Covers layer) c.zones) c.pieces within (λ p h. h.0) cut.pieces.components

  few-pieces : length c.pieces < 2 ^ 64
  few-pieces = (let few = bounded-pieces in omega (arith, few))

  pub head-fits : IsHead (head_of spacing overlap c)
  head-fits = record {
    rule = ruled;
    overlap = lapped;
    corner = cornered;
    features = (let few = few-parts layer (Covers layer) c.features within (λ p h. h) cut.features in omega (arith, few));
    pieces = few-pieces;
    zones = (let few = few-zones c.zones cut.zones.ordered first-inside in omega (arith, few));
  }

  pub many-keys : length c.keys ≡ length c.pieces
  many-keys = AllZip-long (λ piece key. IsLeast (Covers piece) key) c.pieces c.keys cut.pieces.keyed

  keys-fit : AllByRecursion IsPoint c.keys
  keys-fit = all-keys c.pieces c.keys cut.pieces.keyed (λ k p has. point-of p (piece-inside k p has))

  -- the lines of masks
  module _ (m : Masks) (masks : AreLettered marks c m) where
    abbrev letters : List Bool
    letters = letters_by marks masks.colours

    many-colours : length letters ≡ length c.pieces
    many-colours = many-letters marks (length c.pieces) masks.colours masks.each

    stitch-zone : (k : ℕ) → Contains m.stitches k → k < length c.zones
    stitch-zone k k_in = (let (side, k_side, side_is, both) = (masks.stitches.exactly k).0 k_in in
        subst (λ n. k < n) (as_many_sides marks spacing overlap (Covers layer) c cut letters) k_side)

    stitch-fits : (k : ℕ) → Contains m.stitches k → IsStitch (stitch_line c.zones c.sides k)
    stitch-fits k k_in =
        let l = stitch-zone k k_in in
        let z = get_or c.zones k no_zone in
        let known = (zip-at (AreSides c.features c.pieces) c.zones c.sides k no_zone (0, 0) cut.pieces.sided l).known in
        let few = few-pieces in
        record {
          rect = rect-zone z (k, l, get_or_default c.zones k z no_zone l);
          p = omega (arith, known.0, few);
          q = omega (arith, known.1, few);
        }

    few-stitches : length m.stitches < 2 ^ 64
    few-stitches =
        let most = few-numbers (length c.zones) m.stitches (λ i j d l j_in e. (let less = masks.stitches.ordered i j d l j_in in omega (arith, less, e))) stitch-zone in
        let few = head-fits.zones in
        omega (arith, most, few)

    few-sides : length c.sides < 2 ^ 64
    few-sides =
        let same = as_many_sides marks spacing overlap (Covers layer) c cut letters in
        let few = head-fits.zones in
        omega (arith, same, few)

    pub masks-cert : (fewer : Bool) (gains : Option (List Gain)) → AreGainsBy fewer marks spacing c letters gains
        → IsCert (MasksText (head_of spacing overlap c) (map piece_line (zip letters c.keys)) (map (stitch_line c.zones c.sides) m.stitches) gains)
    masks-cert fewer gains are = (
      head-fits,
      many-lines letters c.keys (many-colours ∙ sym many-keys) ∙ many-keys,
      all-lines letters c.keys keys-fit,
      subst (λ n. n < 2 ^ 64) (sym (length-map m.stitches (stitch_line c.zones c.sides))) few-stitches,
      all-map IsStitch (stitch_line c.zones c.sides) m.stitches (λ k i i_in is. stitch-fits k (i, i_in, is)),
      gains-fit fewer marks spacing c letters gains few-pieces few-sides are,
    )

    pub masks-within : AreRectsWithin farthest m.a × AreRectsWithin farthest m.b
    masks-within = (
      part-within layer m.a within masks.a.canonical (λ p h. (cover marks spacing overlap (Covers layer) c m cut masks p).0 (inl h)),
      part-within layer m.b within masks.b.canonical (λ p h. (cover marks spacing overlap (Covers layer) c m cut masks p).0 (inr h)),
    )

  -- the lines of a cycle
  module _ (cycle : List ℕ) (near : List NearLine) (reported : IsReported (conflicts spacing c) cycle) (each : length near ≡ length cycle)
      (pairs : ShowNearest spacing c.pieces cycle near) where
    odd : IsOddCycle (conflicts spacing c) cycle
    odd = reported-odd (conflicts spacing c) (conflicts-undirected spacing c) cycle reported

    place-known : (k : ℕ) → Contains cycle k → k < length c.pieces
    place-known k (i, i_in, is) = subst (λ n. n < length c.pieces) (get_or_default cycle i 0 k i_in ∙ is) (odd.around i i_in).first

    place-fits : (k : ℕ) → Contains cycle k → IsPlace (place_line c.keys k)
    place-fits k k_in =
        let l = place-known k k_in in
        let few = few-pieces in
        let key = get_or c.keys k (at (pos 0) (pos 0)) in (
          omega (arith, l, few),
          point-of key (piece-inside k key (zip-at (λ piece p. IsLeast (Covers piece) p) c.pieces c.keys k [] (at (pos 0) (pos 0)) cut.pieces.keyed l).inside),
        )

    near-line : (i j : ℕ) (line : NearLine) → ShowsPair (IsNearestPair spacing (part_at c.pieces i) (part_at c.pieces j)) line → IsNear line
    near-line i j (Pair p q) pair = (point-of p (piece-inside i p pair.are.from), point-of q (piece-inside j q pair.are.to))
    near-line i j (Mark p) pair = absurd pair
    near-line i j Anchors pair = absurd pair

    near-fits : (k : ℕ) (d : NearLine) → k < length near → IsNear (get_or near k d)
    near-fits k d k_in =
        near-line (slice_index cycle k) (slice_index cycle ((k + 1) % length cycle)) (get_or near k d) (pairs k d (subst (λ n. k < n) each k_in))

    cycle-length : IsCycleLength (length cycle)
    cycle-length =
        let most = few-numbers (length c.pieces) cycle odd.different place-known in
        let few = few-pieces in
        let rest = odd.odd in
        record { long = odd.three; odd = (length cycle / 2, omega (arith, rest)); fits = omega (arith, most, few) }

    pub cycle-cert : IsCert (ConflictText (head_of spacing overlap c) (map (place_line c.keys) cycle) near)
    cycle-cert =
        let many : length (map (place_line c.keys) cycle) ≡ length cycle = length-map cycle (place_line c.keys) in (
          head-fits,
          subst IsCycleLength (sym many) cycle-length,
          all-map IsPlace (place_line c.keys) cycle (λ k i i_in is. place-fits k (i, i_in, is)),
          each ∙ sym many,
          all-index IsNear near near-fits,
        )
