-- A layer has one decomposition.
use Rattle.std.proofs.Common.{◌≡◌, ℕ, ◌<◌, inl, inr, true, false, List, [], ◌∷◌, length, get_or, sym, refl, ap, ◌∙◌, subst}
use Rattle.std.specs.Prelude.{Option}
use Rattle.std.specs.List.{AllZip, Contains}
use Rattle.std.proofs.lemmas.Bool.{cases_order}
use Rattle.dpl_spec_split.specs.declared.Spacing.{Spacing}
use Rattle.dpl_spec_split.specs.declared.Pt.{Pt}
use Rattle.dpl_spec_split.specs.declared.Rect.{Rect}
use Rattle.dpl_spec_split.specs.declared.Zone.{Zone}
use Rattle.dpl_spec_split.specs.Squares.{Region, Covers, IsLeast, Precedes}
use Rattle.dpl_spec_split.specs.Slabs.{AreSlabsOf}
use Rattle.dpl_spec_split.specs.Components.{Linked, here, ComesFirst, AreComponents}
use Rattle.dpl_spec_split.specs.Zones.{AreZones, part_at}
use Rattle.dpl_spec_split.specs.Pieces.{without, AreSides, IsOwner, ArePieces}
use Rattle.dpl_spec_split.specs.Marks.{Marks, marked_by, vertex, sides_by, letters_by}
use Rattle.dpl_spec_split.specs.Colours.{AreColours, AreStitches, on_mask}
use Rattle.dpl_spec_split.specs.Decomposition.{Cut, IsCut, cut_graph, Masks, Answer, Done, InConflict, AreMasks, IsAnswer}
use Rattle.dpl_spec_split.proofs.Ordered.{Contains-head, Contains-later}
use Rattle.dpl_spec_split.proofs.SquareLaws.{Precedes-strict, IsLeast-unique, SameSquares-refl, SameSquares-sym, SameSquares-trans}
use Rattle.dpl_spec_split.proofs.SlabLaws.{canonical-unique}
use Rattle.dpl_spec_split.proofs.ComponentLaws.{component-same, Linked-trans, Linked-sym, components-unique}
use Rattle.dpl_spec_split.proofs.Uniqueness.{zones-unique, roots-unique, stitches-unique}
use Rattle.dpl_spec_split.proofs.ColourLaws.{colours-unique}
use Rattle.dpl_spec_split.proofs.CycleLaws.{cycle-unique}

pub slabs-unique : (a : Region) (rs ss : List Rect) → AreSlabsOf a rs → AreSlabsOf a ss → rs ≡ ss
slabs-unique a rs ss r s = canonical-unique rs ss r.canonical s.canonical (SameSquares-trans _ _ _ r.covers (SameSquares-sym _ _ s.covers))

not_before_itself : (s : List Rect) → ComesFirst s s → ⊥
not_before_itself s f =
    let e : f.first ≡ f.second = IsLeast-unique _ _ _ _ (SameSquares-refl (Covers s)) f.first_is f.second_is in
    let itself : Precedes f.second f.second = subst (λ p. Precedes p f.second) e f.precedes in
    Precedes-strict f.second f.second itself itself

-- a square lies in one component
pub part-unique : (a : Region) (parts : List (List Rect)) (i j : ℕ) (p : Pt) → AreComponents a parts → i < length parts → j < length parts
    → part_at parts i p → part_at parts j p → i ≡ j
part-unique a parts i j p c i_in j_in in_i in_j =
    let mine = c.whole i [] i_in in
    let theirs = c.whole j [] j_in in
    let linked : Linked a mine.0 theirs.0 = Linked-trans a ((mine.2 p).0 in_i) (Linked-sym a ((theirs.2 p).0 in_j)) in
    let same : get_or parts i [] ≡ get_or parts j [] = canonical-unique _ _ (c.canonical i [] i_in) (c.canonical j [] j_in)
    (SameSquares-trans _ _ _ mine.2 (SameSquares-trans _ _ _ (component-same a mine.0 theirs.0 linked) (SameSquares-sym _ _ theirs.2))) in
    elim (cases_order i j) [
      | inl e ↦ e
      | inr other ↦ elim other [
        | inl l ↦ absurd (not_before_itself _ (subst (λ s. ComesFirst s (get_or parts j [])) same (c.ordered i j [] l j_in)))
        | inr l ↦ absurd (not_before_itself _ (subst (λ s. ComesFirst (get_or parts j []) s) same (c.ordered j i [] l i_in)))
      ]
    ]

zip-unique : {A B : Type 0} (R : A → B → Type 0) (xs : List A) (ys zs : List B) → ((x : A) (y z : B) → Contains xs x → R x y → R x z
    → y ≡ z) → AllZip R xs ys → AllZip R xs zs → ys ≡ zs
zip-unique R [] [] [] one a b = refl
zip-unique R [] [] (z ∷ zs) one a b = absurd b
zip-unique R [] (y ∷ ys) zs one a b = absurd a
zip-unique R (x ∷ xs) [] zs one a b = absurd a
zip-unique R (x ∷ xs) (y ∷ ys) [] one a b = absurd b
zip-unique R (x ∷ xs) (y ∷ ys) (z ∷ zs) one a b =
    let head : y ≡ z = one x y z (Contains-head x xs) a.0 b.0 in
    let tail : ys ≡ zs = zip-unique R xs ys zs (λ w u v h. one w u v (Contains-later x w xs h)) a.1 b.1 in
    cc

-- What holds of zones: their sides are determined. A law of its own shows it of all zones of a layer.
abbrev pub SidesAreUnique : List (List Rect) → List (List Rect) → List Zone → Type 0
SidesAreUnique features pieces zones = (z : Zone) (s t : ℕ × ℕ) → Contains zones z → AreSides features pieces z s → AreSides features pieces z t → s ≡ t

same_cut : (c d : Cut) → c.features ≡ d.features → c.zones ≡ d.zones → c.pieces ≡ d.pieces → c.owners ≡ d.owners → c.keys ≡ d.keys → c.sides ≡ d.sides → c ≡ d
same_cut c d a b e f g h =
    let of_parts : List (List Rect) → List Zone → List (List Rect) → List ℕ → List Pt → List (ℕ × ℕ)
    → Cut = λ x y z u v w. record { features = x; zones = y; pieces = z; owners = u; keys = v; sides = w } in
    ap (λ x. of_parts x c.zones c.pieces c.owners c.keys c.sides) a
    ∙ (ap (λ x. of_parts d.features x c.pieces c.owners c.keys c.sides) b
    ∙ (ap (λ x. of_parts d.features d.zones x c.owners c.keys c.sides) e
    ∙ (ap (λ x. of_parts d.features d.zones d.pieces x c.keys c.sides) f
    ∙ (ap (λ x. of_parts d.features d.zones d.pieces d.owners x c.sides) g
    ∙ ap (λ x. of_parts d.features d.zones d.pieces d.owners d.keys x) h))))

pub cut-unique : (marks : Option Marks) (spacing : Spacing) (overlap : ℕ) (layer : Region) (c d : Cut) → SidesAreUnique c.features c.pieces c.zones
    → IsCut marks spacing overlap layer c → IsCut marks spacing overlap layer d → c ≡ d
cut-unique marks spacing overlap layer c d one a b =
    let features : c.features ≡ d.features = components-unique layer c.features d.features a.features b.features in
    let zones : c.zones ≡ d.zones = zones-unique spacing overlap layer c.features (marked_by marks) c.zones d.zones a.zones
    (subst (λ f. AreZones spacing overlap layer f (marked_by marks) d.zones) (sym features) b.zones) in
    let p : ArePieces layer c.features c.zones d.pieces d.owners d.keys d.sides =
    subst (λ z. ArePieces layer c.features z d.pieces d.owners d.keys d.sides) (sym zones)
    (subst (λ f. ArePieces layer f d.zones d.pieces d.owners d.keys d.sides) (sym features) b.pieces) in
    let pieces : c.pieces ≡ d.pieces = components-unique (without layer c.zones) c.pieces d.pieces a.pieces.components p.components in
    let q : ArePieces layer c.features c.zones c.pieces d.owners d.keys d.sides = subst (λ x. ArePieces layer c.features c.zones x d.owners d.keys d.sides) (sym pieces) p in
    let owners : c.owners ≡ d.owners = zip-unique (IsOwner c.features) c.pieces c.owners d.owners
    (λ piece j k piece_in mine theirs.
    (let (n, n_in, n_is) = piece_in in
    let whole = a.pieces.components.whole n piece n_in in
    let square : Covers piece whole.0 = subst (λ s. Covers s whole.0) n_is ((whole.2 whole.0).1 (here whole.1)) in
    part-unique layer c.features j k whole.0 a.features mine.0 theirs.0 (mine.1 whole.0 square) (theirs.1 whole.0 square)))
    a.pieces.owned q.owned in
    let keys : c.keys ≡ d.keys = zip-unique (λ piece key. IsLeast (Covers piece) key) c.pieces c.keys d.keys
    (λ piece x y piece_in mine theirs. IsLeast-unique _ _ _ _ (SameSquares-refl (Covers piece)) mine theirs) a.pieces.keyed q.keyed in
    let sides : c.sides ≡ d.sides = zip-unique (AreSides c.features c.pieces) c.zones c.sides d.sides one a.pieces.sided q.sided in
    same_cut c d features zones pieces owners keys sides

same_masks : (m n : Masks) → m.a ≡ n.a → m.b ≡ n.b → m.stitches ≡ n.stitches → m ≡ n
same_masks m n a b s =
    let of_parts : List Rect → List Rect → List ℕ → Masks = λ x y z. record { a = x; b = y; stitches = z } in
    ap (λ x. of_parts x m.b m.stitches) a ∙ (ap (λ x. of_parts n.a x m.stitches) b ∙ ap (λ x. of_parts n.a n.b x) s)

masks-unique : (marks : Option Marks) (spacing : Spacing) (c : Cut) (m n : Masks) → AreMasks marks spacing c m → AreMasks marks spacing c n → m ≡ n
masks-unique marks spacing c m n a b =
    let sides = sides_by marks c.sides in
    let rooted = roots-unique (cut_graph marks spacing c) (vertex marks (length c.pieces)) a.roots b.roots a.odds b.odds a.rooted b.rooted in
    let mine : AreColours b.roots b.odds sides a.colours = subst (λ o. AreColours b.roots o sides a.colours) rooted.1
    (subst (λ r. AreColours r a.odds sides a.colours) rooted.0 a.coloured) in
    let colours : a.colours ≡ b.colours = colours-unique b.roots b.odds sides a.colours b.colours mine b.coloured in
    same_masks m n
    (slabs-unique _ _ _ a.a (subst (λ k. AreSlabsOf (on_mask c.pieces c.zones c.sides (letters_by marks k) false) n.a) (sym colours) b.a))
    (slabs-unique _ _ _ a.b (subst (λ k. AreSlabsOf (on_mask c.pieces c.zones c.sides (letters_by marks k) true) n.b) (sym colours) b.b))
    (stitches-unique c.sides (letters_by marks a.colours) m.stitches n.stitches a.stitches
    (subst (λ k. AreStitches c.sides (letters_by marks k) n.stitches) (sym colours) b.stitches))

pub answer-unique : (marks : Option Marks) (spacing : Spacing) (c : Cut) (x y : Answer) → IsAnswer marks spacing c x → IsAnswer marks spacing c y → x ≡ y
answer-unique marks spacing c (Done m) (Done n) a b = ap Done (masks-unique marks spacing c m n a.1 b.1)
answer-unique marks spacing c (Done m) (InConflict d) a b = absurd (a.0 b.0)
answer-unique marks spacing c (InConflict d) (Done n) a b = absurd (b.0 a.0)
answer-unique marks spacing c (InConflict d) (InConflict e) a b = ap InConflict (cycle-unique (cut_graph marks spacing c) d e a.1 b.1)
