-- Stitches and pieces by the trees of their squares.
use Rattle.std.proofs.Common.{◌≡◌, ℕ, ◌<◌, inl, inr, Bool, true, false, List, [], ◌∷◌, length, get_or, Option, subst}
use Rattle.std.specs.Prelude.{◌↔◌, cond}
use Rattle.std.specs.List.{Contains}
use Rattle.std.proofs.lemmas.List.{get_or_default}
use Rattle.dpl_spec_split.specs.declared.Pt.{Pt}
use Rattle.dpl_spec_split.specs.declared.Rect.{Rect}
use Rattle.dpl_spec_split.specs.Squares.{Covers, Has}
use Rattle.dpl_spec_split.specs.Slabs.{AreSlabsOf, IsCanonical}
use Rattle.dpl_spec_split.proofs.Ordered.{Contains-head}
use Rattle.dpl_spec_split.proofs.SlabLaws.{Covers-member}
use Rattle.dpl_cert.specs.declared.cert.PieceLine.{PieceLine}
use Rattle.dpl_cert.specs.declared.cert.StitchLine.{StitchLine}
use Rattle.dpl_tree.specs.declared.items.Item.{Item}
use Rattle.dpl_tree.specs.declared.owners.Owners.TheVariants.{All as Everyone}
use Rattle.dpl_nearest.specs.Search.{AreSolidItems, ItemCovers}
use Rattle.dpl_nearest.proofs.ItemLaws.{AreItemsOfRects, items-solid, items-cover, covers-items}
use Rattle.dpl_spec_verdict.specs.Masks.{IsGoodStitch, IsBadStitch, IsBadPiece}
use Rattle.dpl_check.specs.Findings.{IsFirstBadOf, IsRightStitch, IsWrongStitch, IsOffMask}
use Rattle.dpl_check.proofs.Finding.{first-same}
use Rattle.dpl_check.proofs.Sets.{covered_or_not}

-- stitches without a square of the tree are those without a square that isn't in the set
module _ (overlap : ℕ) (all both off : List Rect) (pieces : List PieceLine) (ss : List StitchLine) (items : List Item)
    (inside : (s : StitchLine) (p : Pt) → Contains ss s → Has s.rect p → Covers all p)
    (rest : AreSlabsOf (λ p. Covers all p × ¬ Covers both p) off) (are : AreItemsOfRects off items) where
  right-inside : (s : StitchLine) → Contains ss s → IsRightStitch overlap (ItemCovers Everyone items) pieces s → IsRightStitch overlap (λ p. ¬ Covers both p) pieces s
  right-inside s s_in h = record {
    on = λ (p, (has, missing)). h.on (p, (has, covers-items off items are p ((rest.covers p).1 (inside s p s_in has, missing))));
    long = h.long;
    parted = h.parted;
  }

  inside-right : (s : StitchLine) → IsRightStitch overlap (λ p. ¬ Covers both p) pieces s → IsRightStitch overlap (ItemCovers Everyone items) pieces s
  inside-right s h = record {
    on = λ (p, (has, item)). h.on (p, (has, ((rest.covers p).0 (items-cover off items are p item)).1));
    long = h.long;
    parted = h.parted;
  }

  pub wrong-outside : (k : ℕ) (d : StitchLine) → k < length ss
      → IsWrongStitch overlap (ItemCovers Everyone items) pieces k (get_or ss k d) ↔ IsWrongStitch overlap (λ p. ¬ Covers both p) pieces k (get_or ss k d)
  wrong-outside k d k_in = (
    λ wrong right. wrong (inside-right (get_or ss k d) right),
    λ outside right. outside (right-inside (get_or ss k d) (k, k_in, get_or_default ss k (get_or ss k d) d k_in) right),
  )

-- a rectangle round each stitch has the squares of each
pub stitch-inside : (ss : List StitchLine) (bounds : Rect) → ((s : StitchLine) (p : Pt) → Contains ss s → Has s.rect p → Has bounds p)
    → (s : StitchLine) (p : Pt) → Contains ss s → Has s.rect p → Covers (bounds ∷ []) p
stitch-inside ss bounds all s p s_in has = Covers-member (bounds ∷ []) bounds p (Contains-head bounds []) (all s p s_in has)

-- a good stitch has no square that isn't on both masks
module _ (overlap : ℕ) (a b both : List Rect) (pieces : List PieceLine) (meet : AreSlabsOf (λ p. Covers a p × Covers b p) both) where
  right-good : (s : StitchLine) → IsRightStitch overlap (λ p. ¬ Covers both p) pieces s → IsGoodStitch overlap (Covers a) (Covers b) pieces s
  right-good s h = record {
    on_both = λ p has. (meet.covers p).0 (elim (covered_or_not both p) [ inl there ↦ there | inr missing ↦ absurd (h.on (p, (has, missing))) ]);
    long = h.long;
    listed = h.parted.0;
    letters = h.parted.1;
  }

  good-right : (s : StitchLine) → IsGoodStitch overlap (Covers a) (Covers b) pieces s → IsRightStitch overlap (λ p. ¬ Covers both p) pieces s
  good-right s h = record {
    on = λ (p, (has, missing)). missing ((meet.covers p).1 (h.on_both p has));
    long = h.long;
    parted = (h.listed, h.letters);
  }

  pub first-bad-stitch : (ss : List StitchLine) (o : Option ℕ) → IsFirstBadOf (IsWrongStitch overlap (λ p. ¬ Covers both p) pieces) ss o
      → IsFirstBadOf (IsBadStitch overlap a b pieces) ss o
  first-bad-stitch ss o first = first-same (IsWrongStitch overlap (λ p. ¬ Covers both p) pieces) (IsBadStitch overlap a b pieces) ss o
      (λ k d l. (λ wrong good. wrong (good-right (get_or ss k d) good), λ bad right. bad (right-good (get_or ss k d) right))) first

by-letter : (a b : List Rect) (items_a items_b : List Item) → AreItemsOfRects a items_a → AreItemsOfRects b items_b → (p : Pt) (l : Bool)
    → (ItemCovers Everyone (cond l items_b items_a) p → ⊥) ↔ (Covers (cond l b a) p → ⊥)
by-letter a b items_a items_b are_a are_b p true = (λ off c. off (covers-items b items_b are_b p c), λ bad l. bad (items-cover b items_b are_b p l))
by-letter a b items_a items_b are_a are_b p false = (λ off c. off (covers-items a items_a are_a p c), λ bad l. bad (items-cover a items_a are_a p l))

pub off-bad : (a b : List Rect) (items_a items_b : List Item) → AreItemsOfRects a items_a → AreItemsOfRects b items_b
    → (k : ℕ) (line : PieceLine) → IsOffMask items_a items_b k line ↔ IsBadPiece a b k line
off-bad a b items_a items_b are_a are_b k line = by-letter a b items_a items_b are_a are_b line.key line.b

-- the items of a tree of slabs are solid
pub slab-items : (s rects : List Rect) (items : List Item) → rects ≡ s → IsCanonical s → AreItemsOfRects rects items → AreSolidItems items
slab-items s rects items is canonical are = items-solid s items (subst (λ (t : List Rect). AreItemsOfRects t items) is are) canonical.solid
