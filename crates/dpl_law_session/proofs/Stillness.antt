-- Where a layer stays as it is no tile is dirty.
use Rattle.std.proofs.Common.{◌≡◌, ℕ, inl, inr, ◌+◌, List, [], ◌∷◌, length, refl, sym, subst, arith}
use Rattle.std.specs.Prelude.{None}
use Rattle.std.specs.List.{All}
use Rattle.dpl_spec_split.specs.declared.Rect.{Rect}
use Rattle.dpl_spec_split.specs.declared.Spacing.{Spacing}
use Rattle.dpl_spec_split.specs.declared.Zone.{Zone}
use Rattle.dpl_spec_split.specs.Squares.{Covers, Region}
use Rattle.dpl_spec_split.specs.Slabs.{AreSlabsOf}
use Rattle.dpl_spec_split.specs.Decomposition.{Cut, IsCut}
use Rattle.dpl_spec_edits.specs.declared.Edit.TheVariants.{Add}
use Rattle.dpl_spec_edits.specs.Edits.{edited}
use Rattle.dpl_session.specs.Tiles.{IsSide}
use Rattle.dpl_session.specs.Clean.{IsClean, IsDirty}
use Rattle.dpl_law_session.specs.Still.{CoveredTakesNoStep, NoChangeTakesNoStep}
use Rattle.dpl_spec_split.specs.Zones.{AreZones}
use Rattle.dpl_spec_split.specs.Marks.{marked_by}
use Rattle.dpl_spec_split.proofs.ComponentLaws.{components-unique}
use Rattle.dpl_spec_split.proofs.Uniqueness.{zones-unique}

zones_same : (spacing : Spacing) (overlap : ℕ) (layer : Region) (c d : Cut) → IsCut None spacing overlap layer c → IsCut None spacing overlap layer d → c.zones ≡ d.zones
zones_same spacing overlap layer c d a b =
    let features : c.features ≡ d.features = components-unique layer c.features d.features a.features b.features in
    zones-unique spacing overlap layer c.features (marked_by None) c.zones d.zones a.zones
    (subst (λ f. AreZones spacing overlap layer f (marked_by None) d.zones) (sym features) b.zones)

-- a window is the same as it is
clean_same : (w : Rect) (a : Region) (zones : List Zone) → IsClean w a zones a zones
clean_same w a zones = record {
  squares = λ p has. (λ x. x, λ x. x);
  zoned = λ p has x. (λ y. y, λ y. y);
  features = λ p q has also. (λ x. x, λ x. x);
  pieces = λ p q has also. (λ x. x, λ x. x);
}

none_dirty : (spacing : Spacing) (overlap : ℕ) (layer : List Rect) (side : ℕ) (tile : Rect) → IsDirty spacing overlap layer side layer side tile → ⊥
none_dirty spacing overlap layer side tile dirty =
    let zones = zones_same spacing overlap (Covers layer) dirty.first dirty.second dirty.first_of dirty.second_of in
    dirty.changed refl (subst (λ zs. IsClean _ (Covers layer) dirty.first.zones (Covers layer) zs) zones (clean_same _ (Covers layer) dirty.first.zones))

none_taken : (Kind : Rect → Type 0) (from to : ℕ) → ((t : Rect) → Kind t → ⊥) → (tiles : List Rect) → All Kind tiles → to ≡ from + length tiles → to ≡ from
none_taken Kind from to none [] kind each = omega (arith, each)
none_taken Kind from to none (t ∷ ts) kind each = absurd (none t (kind 0 t (omega arith)))

-- the side of a layer's cells is that of the same side
side_kept : (layer : Region) (tile side : ℕ) → IsSide layer tile side → IsSide layer side side
side_kept layer tile side s = record {
  slabs = s.slabs;
  slabs_of = s.slabs_of;
  doublings = 0;
  doubled = omega arith;
  coarse = s.coarse;
  least = λ k k_in. absurd (omega (arith, k_in));
}

pub same_still : NoChangeTakesNoStep
same_still s edits from to sound same took =
    let slabs : AreSlabsOf (edited (Covers s.layer) edits) s.layer = record { canonical = sound.canonical; covers = same } in
    let few = took s.layer s.side slabs (side_kept (Covers s.layer) sound.tile s.side sound.side) in
    none_taken _ from to (none_dirty s.spacing s.overlap s.layer s.side) few.tiles few.kind few.each

pub covered_still : CoveredTakesNoStep
covered_still s r from to sound covered took =
    same_still s (Add r ∷ []) from to sound (λ p. (λ x. inl x, λ y. elim y [ inl x ↦ x | inr h ↦ covered p h ])) took
