-- Masks cover their layer exactly.
use Rattle.std.proofs.Common.{◌≡◌, ℕ, ◌<◌, ◌⊎◌, inl, inr, Bool, true, false, List, length, get_or, sym, refl, subst}
use Rattle.std.specs.Prelude.{Option, ◌↔◌}
use Rattle.std.proofs.lemmas.List.{get_or_default}
use Rattle.std.proofs.lemmas.Slice.Zip.{AllZip-long}
use Rattle.dpl_spec_split.specs.declared.Spacing.{Spacing}
use Rattle.dpl_spec_split.specs.declared.Pt.{Pt}
use Rattle.dpl_spec_split.specs.Squares.{Region, Covers}
use Rattle.dpl_spec_split.specs.Pieces.{without, AreSides}
use Rattle.dpl_spec_split.specs.Colours.{colour_at, on_mask}
use Rattle.dpl_spec_split.specs.Marks.{Marks, letters_by}
use Rattle.dpl_spec_split.specs.Decomposition.{Cut, IsCut, Masks}
use Rattle.dpl_law_split.specs.Letters.{AreLettered}
use Rattle.dpl_law_split.proofs.Parts.{zoned_or_not, part-inside, part-of, zone-own, piece-rest}

by_letter : (A : Bool → Type 0) (b : Bool) → A b → A false ⊎ A true
by_letter A false h = inl h
by_letter A true h = inr h

module _ (marks : Option Marks) (spacing : Spacing) (overlap : ℕ) (layer : Region) (c : Cut) (cut : IsCut marks spacing overlap layer c) (colours : List Bool) where
  pub as_many_sides : length c.sides ≡ length c.zones
  as_many_sides = AllZip-long (AreSides c.features c.pieces) c.zones c.sides cut.pieces.sided

  pub mask-inside : (letter : Bool) (p : Pt) → on_mask c.pieces c.zones c.sides colours letter p → layer p
  mask-inside letter p (inl (k, l, letter_is, has)) = (piece-rest marks spacing overlap layer c cut k p has).0
  mask-inside letter p (inr (k, z, side, l, z_is, side_is, letter_is, has)) =
      part-inside layer c.features z.feature p cut.features (zone-own marks spacing overlap layer c cut z p (k, l, z_is) has)

  pub layer-masked : (p : Pt) → layer p → on_mask c.pieces c.zones c.sides colours false p ⊎ on_mask c.pieces c.zones c.sides colours true p
  layer-masked p in_layer = elim (zoned_or_not c.zones p) [
    | inl (k, z, l, is, has) ↦ (let side = get_or c.sides k (0, 0) in
        let l_side : k < length c.sides = subst (λ n. k < n) (sym as_many_sides) l in
        by_letter (λ letter. on_mask c.pieces c.zones c.sides colours letter p) (colour_at colours side.0)
        (inr (k, z, side, l, is, get_or_default c.sides k side (0, 0) l_side, inl refl, has)))
    | inr none ↦ (let (k, l, has) = part-of (without layer c.zones) c.pieces p cut.pieces.components (in_layer, none) in
        by_letter (λ letter. on_mask c.pieces c.zones c.sides colours letter p) (colour_at colours k) (inl (k, l, refl, has)))
  ]

pub cover : (marks : Option Marks) (spacing : Spacing) (overlap : ℕ) (layer : Region) (c : Cut) (m : Masks) → IsCut marks spacing overlap layer c →
    AreLettered marks c m → (p : Pt) → (Covers m.a p ⊎ Covers m.b p) ↔ layer p
cover marks spacing overlap layer c m cut masks p = (
  λ h. elim h [
    | inl a ↦ mask-inside marks spacing overlap layer c cut (letters_by marks masks.colours) false p ((masks.a.covers p).0 a)
    | inr b ↦ mask-inside marks spacing overlap layer c cut (letters_by marks masks.colours) true p ((masks.b.covers p).0 b)
  ],
  λ h. elim (layer-masked marks spacing overlap layer c cut (letters_by marks masks.colours) p h) [
    | inl a ↦ inl ((masks.a.covers p).1 a)
    | inr b ↦ inr ((masks.b.covers p).1 b)
  ],
)
