-- Rectangles of a mask by the features that they lie in.
use Rattle.std.proofs.Common.{◌≡◌, ℕ, ◌<◌, List, [], length, get_or, Option, Some, None, sym, ◌∙◌, subst, arith}
use Rattle.std.specs.Prelude.{◌↔◌}
use Rattle.std.specs.List.{All, Contains}
use Rattle.std.proofs.lemmas.Int.{ints}
use Rattle.std.proofs.lemmas.List.{get_or_default}
use Rattle.dpl_spec_split.specs.declared.Spacing.{Spacing}
use Rattle.dpl_spec_split.specs.declared.Pt.{Pt}
use Rattle.dpl_spec_split.specs.declared.Rect.{Rect}
use Rattle.dpl_spec_split.specs.Squares.{Covers, Has}
use Rattle.dpl_spec_split.specs.Slabs.{IsSolid}
use Rattle.dpl_spec_split.specs.Components.{Linked, AreComponents}
use Rattle.dpl_spec_split.specs.Zones.{part_at}
use Rattle.dpl_spec_split.proofs.ComponentLaws.{Linked-trans, Linked-sym}
use Rattle.dpl_spec_split.proofs.SlabLaws.{Covers-member, member-Covers}
use Rattle.dpl_spec_split.proofs.WholeLaws.{part-unique}
use Rattle.dpl_feature.proofs.Links.{linked-within}
use Rattle.dpl_piece.proofs.CornerLaws.{zip-at}
use Rattle.dpl_tree.specs.declared.items.Item.{Item}
use Rattle.dpl_tree.specs.declared.owners.Owners.TheVariants.{All as Everyone, Only}
use Rattle.dpl_tree.specs.Trees.{AreItemsOf}
use Rattle.dpl_slabs.specs.Parts.{AreParts}
use Rattle.dpl_nearest.specs.Search.{AreSolidItems, ItemCovers}
use Rattle.dpl_spec_verdict.specs.Masks.{AreTooClose}
use Rattle.dpl_check.specs.Findings.{IsLeastPairOf}
use Rattle.dpl_check.specs.Owned.{IsAt, AreForeign, AreOwners, IsOwnedOnce, corner}

-- the least pair by another word for the same pairs
pub pair-same : (related other : Pt → Pt → Type 0) (found : Option (Pt × Pt)) → ((p q : Pt) → related p q ↔ other p q) → IsLeastPairOf related found → IsLeastPairOf other found
pair-same related other None same none = λ p q h. none p q ((same p q).1 h)
pair-same related other (Some pair) same least = record { are = (same pair.0 pair.1).0 least.are; least = λ r s h. least.least r s ((same r s).1 h) }

pub has-corner : (r : Rect) → IsSolid r → Has r (corner r)
has-corner r s = record { left = omega (arith, ints); right = s.wide; low = omega (arith, ints); high = s.tall }

module _ (layer : List Rect) (features : List (List Rect)) (items : List Item) (mask : List Rect)
    (are : AreComponents (Covers layer) features) (of_features : AreItemsOf features items) (solid : All IsSolid mask) (within : (p : Pt) → Covers mask p → Covers layer p) where
  -- each corner is some feature's
  pub corners-covered : All (λ r. ItemCovers Everyone items (corner r)) mask
  corners-covered i d i_in =
      let r = get_or mask i d in
      let in_layer = within (corner r) (Covers-member mask r (corner r) (i, i_in, get_or_default mask i r d i_in) (has-corner r (solid i d i_in))) in
      let (k, part, k_in, is, c) = (are.together (corner r)).1 in_layer in
      let found = member-Covers part (corner r) c in
      (found.0, k, (of_features found.0 k).1 (k_in, subst (λ (t : List Rect). Contains t found.0) (sym is ∙ get_or_default features k part [] k_in) found.1), tt, found.2)

  module _ (owners : List ℕ) (own : AreOwners items mask owners) where
    -- a rectangle lies in the feature of its owner
    pub slab-feature : (i : ℕ) (p : Pt) → IsAt mask i p → (get_or owners i 0 < length features) × part_at features (get_or owners i 0) p
    slab-feature i p (r, i_in, is, has) =
        let (s, j, item, e, s_has) = subst (λ (u : Rect). ItemCovers (Only (get_or owners i 0)) items (corner u)) is
        (zip-at (λ r k. ItemCovers (Only k) items (corner r)) mask owners i r 0 own i_in) in
        let (j_in, c) = (of_features s j).0 item in
        let whole = are.whole j [] j_in in
        let r_solid : IsSolid r = subst (λ u. IsSolid u) is (solid i r i_in) in
        let to_corner : Linked (Covers layer) whole.0 (corner r) = (whole.2 (corner r)).0 (Covers-member (get_or features j []) s (corner r) c s_has) in
        let along : Linked (Covers layer) (corner r) p = linked-within (Covers layer) r
        (λ q h. within q (Covers-member mask r q (i, i_in, is) h)) (corner r) p (has-corner r r_solid) has in
        let there : part_at features j p = (whole.2 p).1 (Linked-trans (Covers layer) to_corner along) in
        subst (λ k. (k < length features) × part_at features k p) e (j_in, there)

    pub owned-once : IsOwnedOnce mask owners
    owned-once i j p at_i at_j =
        let a = slab-feature i p at_i in
        let b = slab-feature j p at_j in
        part-unique (Covers layer) features (get_or owners i 0) (get_or owners j 0) p are a.0 b.0 a.1 b.1

    -- squares of one feature lead to one another
    linked-one : (k : ℕ) (p q : Pt) → k < length features → part_at features k p → part_at features k q → Linked (Covers layer) p q
    linked-one k p q k_in in_p in_q =
        let whole = are.whole k [] k_in in
        Linked-trans (Covers layer) (Linked-sym (Covers layer) ((whole.2 p).0 in_p)) ((whole.2 q).0 in_q)

    one-linked : (k l : ℕ) (p q : Pt) → k < length features → l < length features → part_at features k p → part_at features l q → Linked (Covers layer) p q → k ≡ l
    one-linked k l p q k_in l_in in_p in_q linked =
        let whole = are.whole k [] k_in in
        let there : part_at features k q = (whole.2 q).1 (Linked-trans (Covers layer) ((whole.2 p).0 in_p) linked) in
        part-unique (Covers layer) features k l q are k_in l_in there in_q

    at-covered : (i : ℕ) (p : Pt) → IsAt mask i p → Covers mask p
    at-covered i p (r, i_in, is, has) = Covers-member mask r p (i, i_in, is) has

    covered-at : (p : Pt) → Covers mask p → (i : ℕ) × IsAt mask i p
    covered-at p (i, r, i_in, is, has) = (i, (r, i_in, is, has))

    pub foreign-close : (spacing : Spacing) (p q : Pt) → AreForeign spacing mask owners p q ↔ AreTooClose spacing (Covers layer) (Covers mask) p q
    foreign-close spacing p q = (
      λ (i, j, at_p, at_q, apart, close). (
          let a = slab-feature i p at_p in
          let b = slab-feature j q at_q in
          record {
            first = at-covered i p at_p;
            second = at-covered j q at_q;
            of_layer = (within p (at-covered i p at_p), within q (at-covered j q at_q));
            apart = λ linked. apart (one-linked (get_or owners i 0) (get_or owners j 0) p q a.0 b.0 a.1 b.1 linked);
            close = close;
          }),
      λ h. (
          let (i, at_p) = covered-at p h.first in
          let (j, at_q) = covered-at q h.second in
          let a = slab-feature i p at_p in
          let b = slab-feature j q at_q in
          (i, j, at_p, at_q, (λ e. h.apart (linked-one (get_or owners i 0) p q a.0 a.1 (subst (λ k. part_at features k q) (sym e) b.1))), h.close)),
    )

-- the items of a tree of features are solid
pub feature-items : (features parts : List (List Rect)) (items : List Item) → parts ≡ features → AreParts features → AreItemsOf parts items → AreSolidItems items
feature-items features parts items same are of_parts r k item =
    let (k_in, c) = (of_parts r k).0 item in
    let l_in : k < length features = subst (λ (t : List (List Rect)). k < length t) same k_in in
    let d : Contains (get_or features k []) r = subst (λ (t : List (List Rect)). Contains (get_or t k []) r) same c in
    subst (λ u. IsSolid u) d.2 ((are.canonical k [] l_in).solid d.0 r d.1)
