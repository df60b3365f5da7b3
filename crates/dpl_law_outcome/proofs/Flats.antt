-- A layer has one decomposition, with one text of its certificate.
use Rattle.std.proofs.Common.{◌≡◌, ℕ, ◌+◌, ◌%◌, Bool, List, length, map, get_or, refl, sym, ap, ◌∙◌, subst, arith}
use Rattle.std.specs.List.{zip}
use Rattle.std.proofs.lemmas.List.{same_lists}
use Rattle.dpl_spec_split.specs.declared.Spacing.{Spacing}
use Rattle.dpl_spec_split.specs.declared.Rect.{Rect}
use Rattle.dpl_spec_split.specs.Squares.{Region, Covers, IsLeast}
use Rattle.dpl_spec_split.specs.Zones.{part_at}
use Rattle.dpl_spec_split.specs.Decomposition.{Cut, Masks, cut_graph}
use Rattle.dpl_spec_split.specs.Marks.{Marks, letters_by}
use Rattle.dpl_spec_fewer.proofs.Painting.{masks-one}
use Rattle.dpl_spec_split.proofs.CycleLaws.{cycle-unique}
use Rattle.dpl_spec_split.proofs.SquareLaws.{IsLeast-unique, SameSquares-refl}
use Rattle.dpl_spec_verdict.proofs.GainLaws.{gains-same, one-cut}
use Rattle.std.specs.Prelude.{zero, suc, false, true, Option, Some, None}
use Rattle.dpl_cert.specs.declared.cert.Head.{Head}
use Rattle.dpl_cert.specs.declared.cert.Gain.{Gain}
use Rattle.dpl_cert.specs.declared.cert.PlaceLine.{PlaceLine}
use Rattle.dpl_cert.specs.declared.cert.NearLine.{NearLine}
use Rattle.dpl_cert.specs.declared.cert.NearLine.TheVariants.{Pair, Mark, Anchors}
use Rattle.dpl_law_verdict.specs.Own.{ShowsPair}
use Rattle.dpl_nearest.specs.Nearest.{IsNearestPair}
use Rattle.dpl_nearest.proofs.PairLaws.{nearest-unique}
use Rattle.dpl_answer.specs.Flat.{Painted, Clash, Flat, Paints, Clashes, AreLinks, AreNearest, place_by, IsPaintedCut, IsClashOfCut, IsFlatCut, IsFlat}
use Rattle.dpl_law_verdict.specs.Own.{AreGainsBy, head_of, piece_line, stitch_line}
use Rattle.dpl_answer.specs.Anchors.{ShowsLink, ShowsSquare, set_against, vertex_of}

-- ---- masks

gains-one : (fewer : Bool) (marks : Option Marks) (spacing : Spacing) (c : Cut) (letters : List Bool) (m n : Option (List Gain))
    → AreGainsBy fewer marks spacing c letters m → AreGainsBy fewer marks spacing c letters n → m ≡ n
gains-one false marks spacing c letters None None a b = refl
gains-one false marks spacing c letters None (Some n) a b = absurd b
gains-one false marks spacing c letters (Some m) n a b = absurd a
gains-one true marks spacing c letters None n a b = absurd a
gains-one true marks spacing c letters (Some m) None a b = absurd b
gains-one true marks spacing c letters (Some m) (Some n) a b = ap (λ (gs : List Gain). Some gs) (gains-same marks spacing c letters m n a b)

painted-same : (fewer : Bool) (marks : Option Marks) (spacing : Spacing) (overlap : ℕ) (c : Cut) (x y : Painted)
    → IsPaintedCut fewer marks spacing overlap c x → IsPaintedCut fewer marks spacing overlap c y → x ≡ y
painted-same fewer marks spacing overlap c x y a b =
    let (colours, masks) = masks-one fewer marks spacing c a.masks b.masks a.are_masks b.are_masks in
    let mine : AreGainsBy fewer marks spacing c (letters_by marks b.are_masks.colours) a.gains =
    subst (λ (cs : List Bool). AreGainsBy fewer marks spacing c (letters_by marks cs) a.gains) colours a.are_gains in
    let gains : a.gains ≡ b.gains = gains-one fewer marks spacing c (letters_by marks b.are_masks.colours) a.gains b.gains mine b.are_gains in
    let paint : Masks → List Bool → Option (List Gain)
    → Painted = λ m letters told. record {
      a = m.a;
      b = m.b;
      head = head_of spacing overlap c;
      pieces = map piece_line
          (zip (letters_by marks letters) c.keys);
      stitches = map (stitch_line c.zones c.sides) m.stitches;
      gains = told;
    } in
    a.is ∙ (ap (λ m. paint m a.are_masks.colours a.gains) masks ∙ (ap (λ k. paint b.masks k a.gains) colours
    ∙ (ap (λ g. paint b.masks b.are_masks.colours g) gains ∙ sym b.is)))

-- ---- cycles

nearest-same : (spacing : Spacing) (p q : Region) (m n : NearLine) → ShowsPair (IsNearestPair spacing p q) m → ShowsPair (IsNearestPair spacing p q) n → m ≡ n
nearest-same spacing p q (Pair from to) (Pair first second) a b =
    let one = nearest-unique spacing p q from to first second a b in ap (λ r. Pair r to) one.0 ∙ ap (λ r. Pair first r) one.1
nearest-same spacing p q (Pair from to) (Mark at) a b = absurd b
nearest-same spacing p q (Pair from to) Anchors a b = absurd b
nearest-same spacing p q (Mark at) n a b = absurd a
nearest-same spacing p q Anchors n a b = absurd a

near-same : (spacing : Spacing) (pieces : List (List Rect)) (cycle : List ℕ) (ms ns : List NearLine) → AreNearest spacing pieces cycle ms → AreNearest spacing pieces cycle ns → ms ≡ ns
near-same spacing pieces cycle ms ns a b =
    let many = a.each in
    let many2 = b.each in
    same_lists ms ns (many ∙ sym many2) (λ k d l.
    nearest-same spacing (part_at pieces (get_or cycle k 0)) (part_at pieces (get_or cycle ((k + 1) % length cycle) 0)) (get_or ms k d)
    (get_or ns k d) (a.pair k d (omega (arith, l, many))) (b.pair k d (omega (arith, l, many))))

square-same : (P : Region) (m n : NearLine) → ShowsSquare (IsLeast P) m → ShowsSquare (IsLeast P) n → m ≡ n
square-same P (Mark p) (Mark q) a b = ap (λ r. Mark r) (IsLeast-unique P P p q (SameSquares-refl P) a b)
square-same P (Mark p) (Pair x y) a b = absurd b
square-same P (Mark p) Anchors a b = absurd b
square-same P (Pair x y) n a b = absurd a
square-same P Anchors n a b = absurd a

link-same : (k : Marks) (spacing : Spacing) (pieces : List (List Rect)) (u v : ℕ) (m n : NearLine) → ShowsLink k spacing pieces (vertex_of u) (vertex_of v) m
    → ShowsLink k spacing pieces (vertex_of u) (vertex_of v) n → m ≡ n
link-same k spacing pieces (suc (suc i)) (suc (suc j)) m n a b = nearest-same spacing (part_at pieces i) (part_at pieces j) m n a b
link-same k spacing pieces (suc (suc i)) zero m n a b = square-same (λ p. part_at pieces i p × Covers (set_against k false) p) m n a b
link-same k spacing pieces (suc (suc i)) (suc zero) m n a b = square-same (λ p. part_at pieces i p × Covers (set_against k true) p) m n a b
link-same k spacing pieces zero (suc (suc j)) m n a b = square-same (λ p. part_at pieces j p × Covers (set_against k false) p) m n a b
link-same k spacing pieces (suc zero) (suc (suc j)) m n a b = square-same (λ p. part_at pieces j p × Covers (set_against k true) p) m n a b
link-same k spacing pieces zero zero m n a b = a ∙ sym b
link-same k spacing pieces zero (suc zero) m n a b = a ∙ sym b
link-same k spacing pieces (suc zero) zero m n a b = a ∙ sym b
link-same k spacing pieces (suc zero) (suc zero) m n a b = a ∙ sym b

links-same : (marks : Option Marks) (spacing : Spacing) (pieces : List (List Rect)) (cycle : List ℕ) (ms ns : List NearLine)
    → AreLinks marks spacing pieces cycle ms → AreLinks marks spacing pieces cycle ns → ms ≡ ns
links-same None spacing pieces cycle ms ns a b = near-same spacing pieces cycle ms ns a b
links-same (Some m) spacing pieces cycle ms ns a b =
    let many = a.each in
    let many2 = b.each in
    same_lists ms ns (many ∙ sym many2) (λ k d l.
    link-same m spacing pieces (get_or cycle k 0) (get_or cycle ((k + 1) % length cycle) 0) (get_or ms k d)
    (get_or ns k d) (a.link k d (omega (arith, l, many))) (b.link k d (omega (arith, l, many))))

same-clash : (x y : Clash) → x.head ≡ y.head → x.cycle ≡ y.cycle → x.near ≡ y.near → x ≡ y
same-clash x y a b c =
    let of_parts : Head → List PlaceLine → List NearLine → Clash = λ h p n. record { head = h; cycle = p; near = n } in
    ap (λ h. of_parts h x.cycle x.near) a ∙ (ap (λ p. of_parts y.head p x.near) b ∙ ap (λ n. of_parts y.head y.cycle n) c)

pub clash-same : (marks : Option Marks) (spacing : Spacing) (overlap : ℕ) (c : Cut) (x y : Clash) → IsClashOfCut marks spacing overlap c x → IsClashOfCut marks spacing overlap c y → x ≡ y
clash-same marks spacing overlap c x y a b =
    let cycle : a.cycle ≡ b.cycle = cycle-unique (cut_graph marks spacing c) a.cycle b.cycle a.reported b.reported in
    let near : AreLinks marks spacing c.pieces b.cycle x.near = subst (λ k. AreLinks marks spacing c.pieces k x.near) cycle a.nearest in
    same-clash x y (a.head ∙ sym b.head) (a.places ∙ (ap (λ k. map (place_by marks c.keys) k) cycle ∙ sym b.places)) (links-same marks spacing c.pieces b.cycle x.near y.near near b.nearest)

-- ---- decompositions

flat_cut-same : (fewer : Bool) (marks : Option Marks) (spacing : Spacing) (overlap : ℕ) (c : Cut) (x y : Flat)
    → IsFlatCut fewer marks spacing overlap c x → IsFlatCut fewer marks spacing overlap c y → x ≡ y
flat_cut-same fewer marks spacing overlap c (Paints x) (Paints y) a b = ap (λ p. Paints p) (painted-same fewer marks spacing overlap c x y a b)
flat_cut-same fewer marks spacing overlap c (Paints x) (Clashes y) a b = absurd (a.even b.odd)
flat_cut-same fewer marks spacing overlap c (Clashes x) (Paints y) a b = absurd (b.even a.odd)
flat_cut-same fewer marks spacing overlap c (Clashes x) (Clashes y) a b = ap (λ p. Clashes p) (clash-same marks spacing overlap c x y a b)

pub flat-same : (fewer : Bool) (marks : Option Marks) (spacing : Spacing) (overlap : ℕ) (layer : List Rect) (x y : Flat)
    → IsFlat fewer marks spacing overlap layer x → IsFlat fewer marks spacing overlap layer y → x ≡ y
flat-same fewer marks spacing overlap layer x y (c, is_c, a) (d, is_d, b) =
    let same : c ≡ d = one-cut marks spacing overlap (Covers layer) c d is_c is_d in
    flat_cut-same fewer marks spacing overlap c x y a (subst (λ e. IsFlatCut fewer marks spacing overlap e y) (sym same) b)
