-- What a boundary, a node and a box have behind their flags.
use Rattle.std.specs.Prelude.{◌≡◌, ℕ, List, [], ◌∷◌, Some, Ok}
use Rattle.dpl_spec_format.specs.Kinds as kinds
use Rattle.dpl_spec_format.specs.Fields.{u16_at}
use Rattle.dpl_spec_format.specs.Records.{Record}
use Rattle.dpl_syntax.specs.Reading.{Item, must, items_at}

-- LAYER, a record of a type, and XY
abbrev pub shape : ℕ → List Item
shape kind = must kinds.layer ∷ must kind ∷ must kinds.xy ∷ []

-- These are the layer, and the data of the other two, read from `at` up to `next`.
pub record IsShaped (bytes : List ℕ) (kind at layer : ℕ) (number xy : List ℕ) (next : ℕ) : Type 0 where
  pub of_layer : Record
  pub of_number : Record
  pub of_xy : Record
  pub fills : items_at bytes (shape kind) at ≡ Ok ((kinds.layer, Some of_layer) ∷ (kind, Some of_number) ∷ (kinds.xy, Some of_xy) ∷ [], next)
  pub layer_is : layer ≡ u16_at of_layer.body 0
  pub number_is : number ≡ of_number.body
  pub xy_is : xy ≡ of_xy.body
