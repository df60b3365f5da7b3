-- Pieces of all features, by least square.
use Rattle.std.proofs.Common.{◌≡◌, ℕ, ◌<◌, ◌⊎◌, inl, inr, List, [], ◌∷◌, length, get_or, sym, ap, ◌∙◌, subst, arith}
use Rattle.std.specs.Prelude.{◌<ℤ◌, ◌≤ℤ◌}
use Rattle.std.specs.List.{All, AllPairs, Any}
use Rattle.std.specs.List.Sorted.{IsPermutation}
use Rattle.std.proofs.lemmas.Int.{ints, by_lt_z}
use Rattle.std.proofs.lemmas.List.{get_or_default, get_or-map, length-map}
use Rattle.std.proofs.lemmas.List.Elements.{All-contains, Contains-get_or}
use Rattle.std.proofs.lemmas.List.Sorted.{Contains-permutation, IsPermutation-sym}
use Rattle.dpl_spec_split.specs.declared.Pt.{Pt}
use Rattle.dpl_spec_split.specs.declared.Rect.{Rect}
use Rattle.dpl_spec_split.specs.declared.Zone.{Zone}
use Rattle.dpl_spec_split.specs.Squares.{Region, Covers, IsLeast, SameSquares}
use Rattle.dpl_spec_split.specs.Slabs.{IsCanonical}
use Rattle.dpl_spec_split.specs.Loops.{farthest, AreRectsWithin}
use Rattle.dpl_spec_split.specs.Components.{component, here, ComesFirst}
use Rattle.dpl_spec_split.specs.Pieces.{without}
use Rattle.dpl_spec_split.proofs.Ordered.{Contains-nil}
use Rattle.dpl_spec_split.proofs.SlabLaws.{IsLeast-first, member-Covers}
use Rattle.dpl_spec_split.proofs.ComponentLaws.{Linked-end}
use Rattle.dpl_order.proofs.Permuted.{AllPairs-permutation}
use Rattle.dpl_slabs.specs.Parts.{AreApart, union_of}
use Rattle.dpl_sides.specs.declared.piece.Piece.{Piece}
use Rattle.dpl_sides.specs.Pieces.{parts_in, least_key, whole_piece, RiseByLeast}
use Rattle.dpl_piece.specs.Pieces.{AreCut}
use Rattle.dpl_piece.specs.Share.{ArePiecesOf, IsPieceOf}
use Rattle.dpl_piece.proofs.Broken.{in-any}
use Rattle.dpl_piece.proofs.Sides.{IsBelow}
use Rattle.dpl_feature.proofs.Orders.{pairs-rise}

-- the least square of a part with some square is at its key
abbrev key_point : List Rect → Pt
key_point part = record { x = (least_key part).1; y = (least_key part).0 }

key-least : (part : List Rect) (p : Pt) → IsCanonical part → Covers part p → IsLeast (Covers part) (key_point part)
key-least [] p c h = let found = member-Covers [] p h in absurd (Contains-nil found.0 found.1)
key-least (r ∷ rs) p c h = IsLeast-first r rs c

same_point : (p q : Pt) → p.x ≡ q.x → p.y ≡ q.y → p ≡ q
same_point p q e f = ap (λ x. let r : Pt = record { x = x; y = p.y } in r) e ∙ ap (λ y. let r : Pt = record { x = q.x; y = y } in r) f

-- of two parts without a common square, the one whose key isn't greater comes first
rise-first : (s t : List Rect) → IsLeast (Covers s) (key_point s) → IsLeast (Covers t) (key_point t) → AreApart s t
    → ((least_key s).0 <ℤ (least_key t).0) ⊎ (((least_key s).0 ≡ (least_key t).0) × ((least_key s).1 ≤ℤ (least_key t).1)) → ComesFirst s t
rise-first s t a b apart (inl l) = record { first = key_point s; second = key_point t; first_is = a; second_is = b; precedes = inl l }
rise-first s t a b apart (inr (row, l)) =
    by_lt_z (least_key s).1 (least_key t).1
    (λ m. record { first = key_point s; second = key_point t; first_is = a; second_is = b; precedes = inr (row, m) })
    (λ m. (let column : (least_key s).1 ≡ (least_key t).1 = omega (arith, ints, l, m) in
    let same : key_point s ≡ key_point t = same_point (key_point s) (key_point t) column row in
    absurd (apart (key_point s) a.inside (subst (Covers t) (sym same) b.inside))))

module _ (features : List (List Rect)) (zones : List Zone) (pieces sorted : List Piece)
    (h : ArePiecesOf features zones (IsBelow (length features)) pieces) (same : IsPermutation pieces sorted) (rise : RiseByLeast sorted) where
  abbrev left : Region
  left = without (union_of features) zones

  nothing : Piece
  nothing = whole_piece 0 []

  each : All (IsPieceOf features zones (IsBelow (length features))) sorted
  each k d k_in = All-contains (IsPieceOf features zones (IsBelow (length features))) pieces (get_or sorted k d) h.each
      (Contains-permutation sorted pieces (get_or sorted k d) (IsPermutation-sym pieces sorted same) (Contains-get_or sorted k d k_in))

  apart : AllPairs (λ x y. AreApart x.part y.part) sorted
  apart = AllPairs-permutation (λ x y. AreApart x.part y.part) (λ x y a p in_y in_x. a p in_x in_y) pieces sorted same h.apart

  in-sorted : (k : ℕ) → k < length (parts_in sorted) → k < length sorted
  in-sorted k k_in = subst (λ m. k < m) (length-map sorted (λ x. x.part)) k_in

  part-is : (k : ℕ) (d : List Rect) → k < length (parts_in sorted) → get_or (parts_in sorted) k d ≡ (get_or sorted k nothing).part
  part-is k d k_in = get_or-map (λ x. x.part) sorted k nothing d (in-sorted k k_in)

  each-part : (P : List Rect → Type 0) → ((x : Piece) → IsPieceOf features zones (IsBelow (length features)) x → P x.part) → All P (parts_in sorted)
  each-part P from k d k_in = rw (part-is k d k_in) (from (get_or sorted k nothing) (each k nothing (in-sorted k k_in)))

  pairs-part : AllPairs AreApart (parts_in sorted)
  pairs-part i j d l j_in = rw (part-is i d (omega (arith, l, j_in)), part-is j d j_in) (apart i j nothing l (in-sorted j j_in))

  whole : All (λ part. (p : Pt) × left p × SameSquares (Covers part) (component left p)) (parts_in sorted)
  whole = each-part (λ part. (p : Pt) × left p × SameSquares (Covers part) (component left p)) (λ x is. is.whole)

  canonical : All IsCanonical (parts_in sorted)
  canonical = each-part IsCanonical (λ x is. is.canonical)

  least : All (λ part. IsLeast (Covers part) (key_point part)) (parts_in sorted)
  least = each-part (λ part. IsLeast (Covers part) (key_point part)) (λ x is. (let (p, in_l, squares) = is.whole in key-least x.part p is.canonical ((squares p).1 (here in_l))))

  together : SameSquares (λ p. Any (λ part. Covers part p) (parts_in sorted)) left
  together p = (
    λ (k, part, k_in, is, has). (let (q, in_l, squares) = whole k part k_in in Linked-end left ((squares p).0 (subst (λ s. Covers s p) (sym is) has))),
    λ (in_u, none). (let (k, part, k_in, is, has) = in_u in
        let in_k = subst (λ s. Covers s p) (sym is ∙ get_or_default features k part [] k_in) has in
        let (x, x_in, covers) = in-any (λ x. Covers x.part p) pieces (h.all k p k_in in_k none) in
        let (i, i_in, i_is) = Contains-permutation pieces sorted x same x_in in (
          i,
          x.part,
          subst (λ m. i < m) (sym (length-map sorted (λ y. y.part))) i_in,
          get_or-map (λ y. y.part) sorted i x x.part i_in
              ∙ ap (λ y. let z : Piece = y in z.part) i_is,
          covers,
        )),
  )

  ordered : AllPairs ComesFirst (parts_in sorted)
  ordered i j d l j_in =
      let i_in : i < length (parts_in sorted) = omega (arith, l, j_in) in
      rise-first (get_or (parts_in sorted) i d) (get_or (parts_in sorted) j d) (least i d i_in) (least j d j_in) (pairs-part i j d l j_in)
      (rw (part-is i d i_in, part-is j d j_in) (pairs-rise (λ x. least_key x.part) sorted rise i j nothing (omega (arith, l)) (in-sorted j j_in)))

  pub are-cut : AreCut features zones sorted
  are-cut = record {
    components = record { canonical = canonical; together = together; whole = whole; ordered = ordered };
    apart = record { apart = pairs-part; canonical = canonical; within = each-part (λ part. AreRectsWithin farthest part) (λ x is. is.within) };
    owned = λ k d k_in. (let is = each k d k_in in (is.owner, is.inside));
    kept = λ k d k_in. (let is = each k d k_in in is.kept);
    cut = λ k d k_in. (let is = each k d k_in in is.cut);
  }
