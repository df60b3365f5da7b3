-- The side of the cells over a layer.
use Rattle.std.proofs.Common.{◌≡◌, ◌∙◌, ◌<◌, ◌*◌, ◌^◌, ℕ, inl, inr, List, [], ◌∷◌, subst, sym, ap}
use Rattle.std.proofs.lemmas.Bool.{cases_order}
use Rattle.dpl_spec_split.specs.declared.Rect.{Rect}
use Rattle.dpl_spec_split.specs.Squares.{Region}
use Rattle.dpl_spec_split.proofs.WholeLaws.{slabs-unique}
use Rattle.dpl_tile.specs.Tiles.{IsCoarse}
use Rattle.dpl_session.specs.Tiles.{IsSide, grid, with_corner}

no_sooner : (layer : Region) (tile s t : ℕ) (a : IsSide layer tile s) (b : IsSide layer tile t) → a.doublings < b.doublings → ⊥
no_sooner layer tile s t a b sooner =
    let same : a.slabs ≡ b.slabs = slabs-unique (with_corner layer) a.slabs b.slabs a.slabs_of b.slabs_of in
    let coarse : IsCoarse (b.slabs ∷ []) (grid s) = subst (λ (rs : List Rect). IsCoarse (rs ∷ []) (grid s)) same a.coarse in
    b.least a.doublings sooner (subst (λ n. IsCoarse (b.slabs ∷ []) (grid n)) a.doubled coarse)

-- a layer has one side for a tile
pub one_side : (layer : Region) (tile s t : ℕ) → IsSide layer tile s → IsSide layer tile t → s ≡ t
one_side layer tile s t a b = elim (cases_order a.doublings b.doublings) [
  | inl same ↦ a.doubled ∙ (ap (λ n. tile * 2 ^ n) same ∙ sym b.doubled)
  | inr other ↦ elim other [
    | inl sooner ↦ absurd (no_sooner layer tile s t a b sooner)
    | inr sooner ↦ absurd (no_sooner layer tile t s b a sooner)
  ]
]
