-- The pieces of one feature are components of what the zones leave of all.
use Rattle.std.proofs.Common.{◌≡◌, ℕ, ◌<◌, ◌⊎◌, inl, inr, List, [], ◌∷◌, ◌++◌, zero, suc, length, get_or, map, refl, sym, ◌∙◌, subst, arith}
use Rattle.std.specs.Prelude.{pos}
use Rattle.std.specs.List.{All, AllPairs, Any, Contains}
use Rattle.std.proofs.lemmas.List.{get_or_default, get_or-map, length-map}
use Rattle.std.proofs.lemmas.List.Elements.{All-append, All-contains, Contains-get_or, Contains-append_left, Contains-append_right}
use Rattle.dpl_spec_split.specs.declared.Spacing.{Spacing}
use Rattle.dpl_spec_split.specs.declared.Pt.{Pt}
use Rattle.dpl_spec_split.specs.declared.Rect.{Rect}
use Rattle.dpl_spec_split.specs.declared.Zone.{Zone}
use Rattle.dpl_spec_split.specs.Squares.{Region, Covers, Has, SameSquares}
use Rattle.dpl_spec_split.specs.Loops.{farthest, AreRectsWithin}
use Rattle.dpl_spec_split.specs.Components.{Linked, here, on, component, AreComponents}
use Rattle.dpl_spec_split.specs.Zones.{AreSomeZones, part_at}
use Rattle.dpl_spec_split.specs.Pieces.{without}
use Rattle.dpl_spec_split.proofs.Ordered.{Contains-nil}
use Rattle.dpl_spec_split.proofs.SlabLaws.{Covers-member, member-Covers}
use Rattle.dpl_spec_split.proofs.SquareLaws.{Touch-sym, SameSquares-trans}
use Rattle.dpl_spec_split.proofs.ComponentLaws.{Linked-start}
use Rattle.dpl_spec_split.proofs.WholeLaws.{part-unique}
use Rattle.dpl_slabs.specs.Parts.{AreApart, AreParts, union_of}
use Rattle.dpl_slabs.proofs.StripLaws.{AllPairs-append}
use Rattle.dpl_sides.specs.declared.piece.Origin.TheVariants.{Whole, Broken}
use Rattle.dpl_sides.specs.declared.piece.Piece.{Piece}
use Rattle.dpl_sides.specs.Pieces.{whole_piece}
use Rattle.dpl_piece.specs.Pieces.{broken_piece, left_of, AddsPieces, AreHolesOf, HasZone}
use Rattle.dpl_piece.specs.Share.{ArePiecesOf, IsPieceOf}
use Rattle.dpl_piece.proofs.Beside.{in-set, some-part, closed, kept, kept-inside, part-known}
use Rattle.dpl_piece.proofs.Regions.{linked-same}
use Rattle.dpl_piece.proofs.Stands.{AreLeftOf}

pub any-in : {X : Type 0} (P : X → Type 0) (xs : List X) (x : X) → Contains xs x → P x → Any P xs
any-in P xs x (k, k_in, is) h = (k, x, k_in, is, h)

pub in-any : {X : Type 0} (P : X → Type 0) (xs : List X) → Any P xs → (x : X) × Contains xs x × P x
in-any P xs (k, x, k_in, is, h) = (x, (k, k_in, is), h)

pub pieces-none : (features : List (List Rect)) (zones : List Zone) → ArePiecesOf features zones (Contains []) []
pieces-none features zones = record {
  each = λ k d k_in. absurd (omega (arith, k_in));
  all = λ k p listed. absurd (Contains-nil k listed);
  apart = λ i j d l j_in. absurd (omega (arith, j_in));
}

-- the same share of the features said otherwise
module _ (features : List (List Rect)) (zones : List Zone) (Share Other : ℕ → Type 0) (to : (k : ℕ) → Share k → Other k) where
  further : (x : Piece) → IsPieceOf features zones Share x → IsPieceOf features zones Other x
  further x is = record {
    owner = to x.owner is.owner;
    inside = is.inside;
    canonical = is.canonical;
    within = is.within;
    whole = is.whole;
    kept = is.kept;
    cut = is.cut;
  }

  pub each-further : (pieces : List Piece) → All (IsPieceOf features zones Share) pieces → All (IsPieceOf features zones Other) pieces
  each-further pieces each k d k_in = further (get_or pieces k d) (each k d k_in)

  pub pieces-same : ((k : ℕ) → Other k → Share k) → (pieces : List Piece) → ArePiecesOf features zones Share pieces → ArePiecesOf features zones Other pieces
  pieces-same back pieces h = record { each = each-further pieces h.each; all = λ k p other. h.all k p (back k other); apart = h.apart }

-- the share of one feature, and of two shares
abbrev pub IsFeature : ℕ → ℕ → Type 0
IsFeature n k = k ≡ n

abbrev pub Either : (ℕ → Type 0) → (ℕ → Type 0) → ℕ → Type 0
Either Share Other k = Share k ⊎ Other k

module _ (spacing : Spacing) (overlap : ℕ) (features : List (List Rect)) (zones : List Zone) (c : AreComponents (union_of features) features)
    (zs : AreSomeZones spacing overlap (union_of features) features zones) where
  abbrev left : Region
  left = without (union_of features) zones

  -- a zone with a square of a feature is one of its zones
  zone-feature : (z : Zone) (k : ℕ) (p : Pt) → Contains zones z → k < length features → part_at features k p → Has z.rect p → z.feature ≡ k
  zone-feature z k p z_in k_in in_k has =
      let (f_in, kept_z) = kept spacing overlap (union_of features) features zones c zs z z_in in
      let in_f = kept-inside spacing overlap (union_of features) features zones c zs (part_at features z.feature) z.rect p kept_z has in
      part-unique (union_of features) features z.feature k p c f_in k_in in_f in_k

  module _ (n : ℕ) (n_in : n < length features) (holes : List Rect) (own : AreHolesOf zones n holes) where
    abbrev mine : Region
    mine = left_of (get_or features n []) holes

    to-mine : (p : Pt) → part_at features n p → left p → mine p
    to-mine p in_n (in_u, none) = (
      in_n,
      λ hole. (let (r, r_in, has) = member-Covers holes p hole in
          let (z, z_in, mine_is, is) = (own r).0 r_in in
          none (any-in (λ z. Has z.rect p) zones z z_in (subst (λ t. Has t p) (sym is) has))),
    )

    to-left : (p : Pt) → mine p → left p
    to-left p (in_n, none) = (
      (n, get_or features n [], n_in, get_or_default features n (get_or features n []) [] n_in, in_n),
      λ any. (let (z, z_in, has) = in-any (λ z. Has z.rect p) zones any in
          none (Covers-member holes z.rect p ((own z.rect).1 (z, z_in, zone-feature z n p z_in n_in in_n has, refl)) has)),
    )

    -- from a square of the feature, squares that are left lead to its own squares alone
    stay : {p q : Pt} → Linked left p q → part_at features n p → Linked mine p q
    stay {p = p} (here h) in_n = here (to-mine p in_n h)
    stay {p = p} (on {q = r} h touch l) in_n =
        on (to-mine p in_n h) touch (stay l (closed (union_of features) features n r p c n_in (Linked-start left l).0 in_n (Touch-sym p r touch)))

    mine-component : (p : Pt) → mine p → SameSquares (component mine p) (component left p)
    mine-component p in_m q = (λ l. linked-same mine left to-left l, λ l. stay l in_m.0)

    -- without a hole, all of the feature is left
    module _ (no_hole : length holes ≡ 0) where
      free : (p : Pt) → part_at features n p → left p
      free p in_n = to-left p (in_n, λ (i, r, i_in, is, has). omega (arith, i_in, no_hole))

      clear : {p q : Pt} → Linked (union_of features) p q → part_at features n p → Linked left p q
      clear {p = p} (here h) in_n = here (free p in_n)
      clear {p = p} (on {q = r} h touch l) in_n =
          on (free p in_n) touch (clear l (closed (union_of features) features n r p c n_in (Linked-start (union_of features) l) in_n (Touch-sym p r touch)))

      whole-is : AreRectsWithin farthest (get_or features n []) → IsPieceOf features zones (IsFeature n) (whole_piece n (get_or features n []))
      whole-is within =
          let (p, in_u, squares) = c.whole n [] n_in in
          let in_n : part_at features n p = (squares p).1 (here in_u) in
          record {
            owner = refl;
            inside = λ q in_q. in_q;
            canonical = c.canonical n [] n_in;
            within = within;
            whole = (p, free p in_n, λ q. (λ h. clear ((squares q).0 h) in_n, λ l. (squares q).1 (linked-same left (union_of features) (λ r h. h.0) l)));
            kept = λ e. refl;
            cut = λ e. (let differ : Whole ≡ Broken = e in cc);
          }

    zoned : 0 < length holes → HasZone zones n
    zoned some = (let (z, z_in, is, same) = (own (get_or holes 0 nothing)).0 (Contains-get_or holes 0 nothing some) in (z, z_in, is))
      where
        nothing : Rect
        nothing = record { x0 = pos 0; y0 = pos 0; x1 = pos 0; y1 = pos 0 }

    module _ (parts : List (List Rect)) (some : 0 < length holes) (b : AreComponents mine parts) (apart : AreParts parts) where
      broken-is : (j : ℕ) → j < length parts → IsPieceOf features zones (IsFeature n) (broken_piece n (get_or parts j []))
      broken-is j j_in =
          let (p, in_m, squares) = b.whole j [] j_in in
          record {
            owner = refl;
            inside = λ q in_q. (in-set mine parts j q b j_in in_q).0;
            canonical = b.canonical j [] j_in;
            within = apart.within j [] j_in;
            whole = (p, to-left p in_m, SameSquares-trans _ _ _ squares (mine-component p in_m));
            kept = λ e. (let differ : Broken ≡ Whole = e in cc);
            cut = λ e. zoned some;
          }

      -- what is left of the feature is in these parts
      pub broken-left : AreLeftOf (union_of features) zones (part_at features n) parts
      broken-left = record {
        canonical = b.canonical;
        inside = λ i p i_in has. to-left p (in-set mine parts i p b i_in has);
        all = λ p rest in_n. some-part mine parts p b (to-mine p in_n rest);
      }

      -- a piece of a list, by its part
      broken-at : (j : ℕ) (d : Piece) → j < length (map (broken_piece n) parts) → get_or (map (broken_piece n) parts) j d ≡ broken_piece n (get_or parts j [])
      broken-at j d j_in = get_or-map (broken_piece n) parts j [] d (subst (λ m. j < m) (length-map parts (broken_piece n)) j_in)

      broken-each : All (IsPieceOf features zones (IsFeature n)) (map (broken_piece n) parts)
      broken-each j d j_in = rw (broken-at j d j_in) (broken-is j (subst (λ m. j < m) (length-map parts (broken_piece n)) j_in))

      broken-apart : AllPairs (λ x y. AreApart x.part y.part) (map (broken_piece n) parts)
      broken-apart i j d l j_in =
          rw (broken-at i d (omega (arith, l, j_in)), broken-at j d j_in) (apart.apart i j [] l (subst (λ m. j < m) (length-map parts (broken_piece n)) j_in))

      broken-all : (p : Pt) → part_at features n p → ¬ Any (λ z. Has z.rect p) zones → Any (λ x. Covers x.part p) (map (broken_piece n) parts)
      broken-all p in_n none =
          let in_left : left p = ((n, get_or features n [], n_in, get_or_default features n (get_or features n []) [] n_in, in_n), none) in
          let (j, part, j_in, is, has) = (b.together p).1 (to-mine p in_n in_left) in
          let k_in : j < length (map (broken_piece n) parts) = subst (λ m. j < m) (sym (length-map parts (broken_piece n))) j_in in
          let covers : Covers (get_or parts j []) p = subst (λ s. Covers s p) (sym is ∙ get_or_default parts j part [] j_in) has in
          (j, broken_piece n (get_or parts j []), k_in, broken-at j (broken_piece n (get_or parts j [])) k_in, covers)

    -- the pieces that are added are those of the feature
    pub pieces-added : (pieces new : List Piece) → AreRectsWithin farthest (get_or features n []) → AddsPieces (get_or features n []) holes n pieces new
        → (more : List Piece) × ArePiecesOf features zones (IsFeature n) more × (new ≡ pieces ++ more)
    pieces-added pieces new within (inl (none, new_is)) =
        let x : Piece = whole_piece n (get_or features n []) in
        let is : IsPieceOf features zones (IsFeature n) x = whole-is none within in (
          x ∷ [],
          record {
            each = single (IsPieceOf features zones (IsFeature n)) is;
            all = λ k p e in_k free_of. (0, x, omega arith, refl, subst (λ m. part_at features m p) e in_k);
            apart = λ i j d l j_in. absurd (omega (arith, l, j_in));
          },
          new_is,
        )
      where
        single : (P : Piece → Type 0) {x : Piece} → P x → All P (x ∷ [])
        single P {x} is zero d k_in = is
        single P {x} is (suc k) d k_in = absurd (omega (arith, k_in))
    pieces-added pieces new within (inr (some, b)) =
        let components = b.broken.components in
        let apart = b.broken.apart in (
          map (broken_piece n) b.parts,
          record {
            each = broken-each b.parts some components apart;
            all = λ k p e in_k free_of. broken-all b.parts some components apart p (subst (λ m. part_at features m p) e in_k) free_of;
            apart = broken-apart b.parts some components apart;
          },
          b.added,
        )

  -- the pieces of two shares of the features that have none in common
  module _ (Share Other : ℕ → Type 0) (differ : (k : ℕ) → Share k → Other k → ⊥) (pieces more : List Piece)
      (h : ArePiecesOf features zones Share pieces) (m : ArePiecesOf features zones Other more) where
    across : (x y : Piece) → Contains pieces x → Contains more y → AreApart x.part y.part
    across x y x_in y_in p in_x in_y =
        let is : IsPieceOf features zones Share x = All-contains (IsPieceOf features zones Share) pieces x h.each x_in in
        let so : IsPieceOf features zones Other y = All-contains (IsPieceOf features zones Other) more y m.each y_in in
        let at_x : part_at features x.owner p = is.inside p in_x in
        let at_y : part_at features y.owner p = so.inside p in_y in
        let same : x.owner ≡ y.owner = part-unique (union_of features) features x.owner y.owner p c (part-known features x.owner p at_x) (part-known features y.owner p at_y) at_x at_y in
        differ y.owner (subst Share same is.owner) so.owner

    covered : (k : ℕ) (p : Pt) → Share k ⊎ Other k → part_at features k p → ¬ Any (λ z. Has z.rect p) zones → Any (λ x. Covers x.part p) (pieces ++ more)
    covered k p (inl s) in_k none = (let (x, x_in, has) = in-any (λ x. Covers x.part p) pieces (h.all k p s in_k none) in
        any-in (λ x. Covers x.part p) (pieces ++ more) x (Contains-append_left pieces more x x_in) has)
    covered k p (inr o) in_k none = (let (x, x_in, has) = in-any (λ x. Covers x.part p) more (m.all k p o in_k none) in
        any-in (λ x. Covers x.part p) (pieces ++ more) x (Contains-append_right pieces more x x_in) has)

    pub pieces-both : ArePiecesOf features zones (Either Share Other) (pieces ++ more)
    pieces-both = record {
      each = All-append (IsPieceOf features zones (Either Share Other)) pieces more
          (each-further features zones Share (Either Share Other) (λ k s. inl s) pieces h.each)
          (each-further features zones Other (Either Share Other) (λ k o. inr o) more m.each);
      all = covered;
      apart = AllPairs-append (λ x y. AreApart x.part y.part) pieces more h.apart m.apart across;
    }
