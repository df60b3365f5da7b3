-- Masks of a cut without an odd cycle are valid.
use Rattle.std.proofs.Common.{◌≡◌, ◌≢◌, ℕ, ◌<◌, ◌≤◌, ◌⊎◌, inl, inr, Bool, true, false, List, [], length, map, get_or, sym, refl, ap, ◌∙◌, subst, arith}
use Rattle.std.specs.Prelude.{Option, Some, None, pos, ◌≤ℤ◌, ◌-ℤ◌, ◌+ℤ◌, cond}
use Rattle.std.specs.List.{Any, zip}
use Rattle.std.proofs.Math.Nat.{min-eq_left}
use Rattle.std.proofs.lemmas.Int.{ints}
use Rattle.std.proofs.lemmas.List.{get_or_default, get_or-map, length-drop, length-map}
use Rattle.std.proofs.lemmas.Slice.Zip.{AllZip-long, length-zip, get_or-zip}
use Rattle.dpl_spec_split.specs.declared.Spacing.{Spacing}
use Rattle.dpl_spec_split.specs.declared.Pt.{Pt}
use Rattle.dpl_spec_split.specs.declared.Rect.{Rect}
use Rattle.dpl_spec_split.specs.declared.Zone.{Zone}
use Rattle.dpl_spec_split.specs.Squares.{Region, Covers, Has, IsLeast}
use Rattle.dpl_spec_split.specs.Components.{Linked}
use Rattle.dpl_spec_split.specs.Zones.{at, part_at, IsKeptZone}
use Rattle.dpl_spec_split.specs.Pieces.{AreSides}
use Rattle.dpl_spec_split.specs.Colours.{differ, colour_at, on_mask}
use Rattle.dpl_spec_split.specs.Decomposition.{AreMasks, Cut, IsCut, Masks}
use Rattle.dpl_spec_split.specs.Marks.{Marks, letters_by, vertex}
use Rattle.dpl_spec_split.proofs.ComponentLaws.{Linked-trans, Linked-sym}
use Rattle.dpl_spec_fewer.specs.Masks.{AreMasksBy}
use Rattle.dpl_law_split.specs.Letters.{AreLettered, AreSound}
use Rattle.dpl_law_split.specs.Masks.{KeepsApart, rect_at, rects_of}
use Rattle.dpl_law_split.proofs.Parts.{part-of, zip-at, kept}
use Rattle.dpl_law_split.proofs.Cover.{as_many_sides, cover}
use Rattle.dpl_law_split.proofs.Apart.{far-on-a, far-on-b}
use Rattle.dpl_law_split.proofs.Overlap.{overlap-at}
use Rattle.dpl_law_split.proofs.Fixed.{fixed-on-a, fixed-on-b}
use Rattle.dpl_spec_verdict.specs.Order.{HasSquare}
use Rattle.dpl_cert.specs.declared.cert.PieceLine.{PieceLine}
use Rattle.dpl_cert.specs.declared.cert.StitchLine.{StitchLine}
use Rattle.dpl_cert.specs.declared.cert.Gain.{Gain}
use Rattle.dpl_spec_verdict.specs.declared.Verdict.TheVariants.{Valid}
use Rattle.dpl_spec_verdict.specs.Gains.{letters as letters_in, VerdictOfGains}
use Rattle.dpl_spec_verdict.specs.Masks.{IsTight, IsGoodStitch, is_misplaced, piece_at}
use Rattle.dpl_law_verdict.specs.Own.{head_of, piece_line, no_zone, stitch_line}
use Rattle.dpl_law_verdict.proofs.Passing.{IsKept}

-- the masks of a decomposition are those without the wish for fewer stitches
abbrev pub plain : (marks : Option Marks) (spacing : Spacing) (c : Cut) (m : Masks) → AreMasks marks spacing c m → AreMasksBy false marks spacing c m
plain marks spacing c m are =
    record { roots = are.roots; odds = are.odds; colours = are.colours; rooted = are.rooted; coloured = are.coloured; a = are.a; b = are.b; stitches = are.stitches }

two-letters : (a b : Bool) → differ a b ≡ true → a ≢ b
two-letters false false e f = cc
two-letters false true e f = cc
two-letters true false e f = cc
two-letters true true e f = cc

-- a zone has a side as long as the overlap
zone-long : (spacing : Spacing) (overlap : ℕ) (layer feature : Region) (r : Rect) → IsKeptZone spacing overlap layer feature r → (pos overlap ≤ℤ (r.x1 -ℤ r.x0)) ⊎ (pos overlap ≤ℤ (r.y1 -ℤ r.y0))
zone-long spacing overlap layer feature r (inl h) = let w : r.x1 ≡ r.x0 +ℤ pos overlap = h.middle.width in inl (omega (arith, ints, w))
zone-long spacing overlap layer feature r (inr (v, apart)) = let w : r.y1 ≡ r.y0 +ℤ pos overlap = v.middle.width in inr (omega (arith, ints, w))

-- the lines of stitches have the squares of their zones
any-lines : (zones : List Zone) (sides : List (ℕ × ℕ)) (ks : List ℕ) (p : Pt) → Covers (rects_of zones ks) p
    → Any (λ (s : StitchLine). Has s.rect p) (map (stitch_line zones sides) ks)
any-lines zones sides ks p (n, r, l, is, has) =
    let within : n < length ks = subst (λ t. n < t) (length-map ks (rect_at zones)) l in
    let s : StitchLine = stitch_line zones sides (get_or ks n 0) in
    let here : r ≡ rect_at zones (get_or ks n 0) = sym is ∙ get_or-map (rect_at zones) ks n 0 r within in
    (n, s, subst (λ t. n < t) (sym (length-map ks (stitch_line zones sides))) within, get_or-map (stitch_line zones sides) ks n 0 s within, subst (λ (t : Rect). Has t p) here has)

covers-zone : (zones : List Zone) (ks : List ℕ) (n : ℕ) (p : Pt) → n < length ks → Has (rect_at zones (get_or ks n 0)) p → Covers (rects_of zones ks) p
covers-zone zones ks n p within has = (
  n,
  rect_at zones (get_or ks n 0),
  subst (λ t. n < t) (sym (length-map ks (rect_at zones))) within,
  get_or-map (rect_at zones) ks n 0
      (rect_at zones (get_or ks n 0)) within,
  has,
)

-- as many letters as pieces
pub many-letters : (marks : Option Marks) (n : ℕ) (colours : List Bool) → length colours ≡ vertex marks n → length (letters_by marks colours) ≡ n
many-letters None n colours many = many
many-letters (Some m) n colours many = (let left = length-drop 2 colours in omega (arith, left, many))

-- each marked square is on its mask alone
none-misplaced : (marks : Option Marks) (spacing : Spacing) (overlap : ℕ) (layer : List Rect) (c : Cut) (m : Masks) → IsCut marks spacing overlap (Covers layer) c
    → (masks : AreLettered marks c m) → AreSound marks spacing c masks.colours → HasSquare (is_misplaced marks layer m.a m.b) → ⊥
none-misplaced None spacing overlap layer c m cut masks sound (p, (there, off)) = elim off [ inl (marked, lost) ↦ marked | inr (marked, lost) ↦ marked ]
none-misplaced (Some k) spacing overlap layer c m cut masks sound (p, (there, off)) = elim off [
  | inl (marked, lost) ↦ lost (fixed-on-a k spacing overlap (Covers layer) c m cut masks sound p there marked)
  | inr (marked, lost) ↦ lost (fixed-on-b k spacing overlap (Covers layer) c m cut masks sound p there marked)
]

module _ (marks : Option Marks) (spacing : Spacing) (overlap : ℕ) (layer : List Rect) (c : Cut) (m : Masks) (cut : IsCut marks spacing overlap (Covers layer) c) (masks : AreLettered marks c m) where
  abbrev letters : List Bool
  letters = letters_by marks masks.colours

  abbrev lines : List PieceLine
  lines = map piece_line (zip letters c.keys)

  abbrev stitch_lines : List StitchLine
  stitch_lines = map (stitch_line c.zones c.sides) m.stitches

  many-colours : length letters ≡ length c.pieces
  many-colours = many-letters marks (length c.pieces) masks.colours masks.each

  many-keys : length c.keys ≡ length c.pieces
  many-keys = AllZip-long (λ piece key. IsLeast (Covers piece) key) c.pieces c.keys cut.pieces.keyed

  many-lines : length lines ≡ length c.pieces
  many-lines =
      let few : length letters ≤ length c.keys = omega (arith, many-colours, many-keys) in
      length-map (zip letters c.keys) piece_line ∙ (length-zip letters c.keys ∙ (min-eq_left few ∙ many-colours))

  line-at : (k : ℕ) (d : PieceLine) → k < length c.pieces → get_or lines k d ≡ piece_line (colour_at letters k, get_or c.keys k (at (pos 0) (pos 0)))
  line-at k d k_in =
      let in_lines : k < length lines = subst (λ n. k < n) (sym many-lines) k_in in
      let in_zip : k < length (zip letters c.keys) = subst (λ n. k < n) (length-map (zip letters c.keys) piece_line) in_lines in
      get_or-map piece_line (zip letters c.keys) k (false, at (pos 0) (pos 0)) d in_zip
      ∙ ap piece_line (get_or-zip letters c.keys k (false, at (pos 0) (pos 0)) (subst (λ n. k < n) (sym many-colours) k_in) (subst (λ n. k < n) (sym many-keys) k_in))

  good-stitch : (n : ℕ) → n < length m.stitches → IsGoodStitch overlap (Covers m.a) (Covers m.b) lines (stitch_line c.zones c.sides (get_or m.stitches n 0))
  good-stitch n n_in =
      let k = get_or m.stitches n 0 in
      let (side, k_side, side_is, both) = (masks.stitches.exactly k).0 (n, n_in, get_or_default m.stitches n k 0 n_in) in
      let k_in : k < length c.zones = subst (λ t. k < t) (as_many_sides marks spacing overlap (Covers layer) c cut letters) k_side in
      let z = get_or c.zones k no_zone in
      let s = get_or c.sides k (0, 0) in
      let s_is : s ≡ side = get_or_default c.sides k (0, 0) side k_side ∙ side_is in
      let known = (zip-at (AreSides c.features c.pieces) c.zones c.sides k no_zone (0, 0) cut.pieces.sided k_in).known in
      let differing : differ (colour_at letters s.0) (colour_at letters s.1) ≡ true = subst
      (λ (t : ℕ × ℕ). differ (colour_at letters t.0) (colour_at letters t.1) ≡ true) (sym s_is) both in
      let first : (piece_at lines s.0).b ≡ colour_at letters s.0 = ap (λ (l : PieceLine). l.b) (line-at s.0 _ known.0) in
      let second : (piece_at lines s.1).b ≡ colour_at letters s.1 = ap (λ (l : PieceLine). l.b) (line-at s.1 _ known.1) in
      record {
        on_both = λ p has. (overlap-at marks spacing overlap (Covers layer) c m cut masks p).1 (covers-zone c.zones m.stitches n p n_in has);
        long = zone-long spacing overlap (Covers layer) (part_at c.features z.feature) z.rect
            (kept marks spacing overlap (Covers layer) c cut z (k, k_in, get_or_default c.zones k z no_zone k_in)).1;
        listed = (subst (λ t. s.0 < t) (sym many-lines) known.0, subst (λ t. s.1 < t) (sym many-lines) known.1);
        letters = λ e. two-letters (colour_at letters s.0) (colour_at letters s.1) differing (sym first ∙ (e ∙ second));
      }

  on-letter : (letter : Bool) (p : Pt) → on_mask c.pieces c.zones c.sides letters letter p → Covers (cond letter m.b m.a) p
  on-letter false p h = (masks.a.covers p).1 h
  on-letter true p h = (masks.b.covers p).1 h

  key-masked : (k : ℕ) (d : PieceLine) → k < length c.pieces → Covers (cond (get_or lines k d).b m.b m.a) (get_or lines k d).key
  key-masked k d k_in =
      let least = zip-at (λ piece key. IsLeast (Covers piece) key) c.pieces c.keys k [] (at (pos 0) (pos 0)) cut.pieces.keyed k_in in
      subst (λ (l : PieceLine). Covers (cond l.b m.b m.a) l.key) (sym (line-at k d k_in))
      (on-letter (colour_at letters k) (get_or c.keys k (at (pos 0) (pos 0))) (inl (k, k_in, refl, least.inside)))

  linked-one : (k : ℕ) (p q : Pt) → k < length c.features → part_at c.features k p → part_at c.features k q → Linked (Covers layer) p q
  linked-one k p q k_in in_p in_q =
      let whole = cut.features.whole k [] k_in in
      Linked-trans (Covers layer) (Linked-sym (Covers layer) ((whole.2 p).0 in_p)) ((whole.2 q).0 in_q)

  none-tight : (mask : List Rect) → KeepsApart spacing c.features mask → IsTight spacing layer mask → ⊥
  none-tight mask far (p, q, t) =
      let (i, i_in, at_i) = part-of (Covers layer) c.features p cut.features t.of_layer.0 in
      let (j, j_in, at_j) = part-of (Covers layer) c.features q cut.features t.of_layer.1 in
      let ne : i ≢ j = λ e. t.apart (linked-one i p q i_in at_i (subst (λ k. part_at c.features k q) (sym e) at_j)) in
      far i j p q ne at_i at_j t.first t.second t.close

  pub painted-kept : (gains : Option (List Gain)) → AreSound marks spacing c masks.colours
      → VerdictOfGains marks spacing overlap layer (head_of spacing overlap c) (letters_in lines) gains Valid
      → IsKept marks spacing overlap
      (record {
        layer = layer;
        a = m.a;
        b = m.b;
        head = record {
          rule = spacing.rule;
          overlap = overlap;
          corner = spacing.corner;
          features = length c.features;
          pieces = length c.pieces;
          zones = length c.zones;
        };
        pieces = lines;
        stitches = stitch_lines;
        gains = gains;
      })
  painted-kept gains sound gained = record {
    rules = λ differs. elim differs [ inl ne ↦ ne refl | inr (inl ne) ↦ ne refl | inr (inr ne) ↦ ne refl ];
    counts = λ differs. differs (c.features, cut.features, refl);
    covered = λ (p, off). elim off [
      | inl (there, none) ↦ none ((cover marks spacing overlap (Covers layer) c m cut masks p).1 there)
      | inr (masked, none) ↦ none ((cover marks spacing overlap (Covers layer) c m cut masks p).0 masked)
    ];
    doubled = λ (p, (in_a, in_b, none)). none (any-lines c.zones c.sides m.stitches p ((overlap-at marks spacing overlap (Covers layer) c m cut masks p).0 (in_a, in_b)));
    tight_a = none-tight m.a (far-on-a marks spacing overlap (Covers layer) c m cut masks sound);
    tight_b = none-tight m.b (far-on-b marks spacing overlap (Covers layer) c m cut masks sound);
    marked = none-misplaced marks spacing overlap layer c m cut masks sound;
    stitches = λ (n, n_in, bad). (
        let within : n < length m.stitches = subst (λ t. n < t) (length-map m.stitches (stitch_line c.zones c.sides)) n_in in
        let s : StitchLine = stitch_line c.zones c.sides (get_or m.stitches n 0) in
        bad s (subst (λ (t : StitchLine). IsGoodStitch overlap (Covers m.a) (Covers m.b) lines t)
        (sym (get_or-map (stitch_line c.zones c.sides) m.stitches n 0 s within)) (good-stitch n within)));
    pieces = λ (n, n_in, bad). (
        let d : PieceLine = piece_line (false, at (pos 0) (pos 0)) in
        bad d (key-masked n d (subst (λ t. n < t) many-lines n_in)));
    gained = gained;
  }
