-- What references are refused for.
use Rattle.std.specs.Prelude.{ℤ, ◌-ℤ◌, Option, Some, None}
use Rattle.dpl_spec_split.specs.declared.Pt.{Pt}
use Rattle.dpl_spec_format.specs.Tree.{Trans}
use Rattle.dpl_spec_layout.specs.declared.ElementFault.{ElementFault}
use Rattle.dpl_spec_layout.specs.Elements.{IsAbsolute, IsMagnified, IsTurnedAskew, IsReferenceFault, Divides}

-- the fault of a transform that is refused, whatever it belongs to
abbrev pub IsTransformFault : Trans → Option ElementFault → Type 0
IsTransformFault t None = ¬ IsAbsolute t × ¬ IsMagnified t.mag × ¬ IsTurnedAskew t.angle
IsTransformFault t (Some f) = IsReferenceFault t ⊥ f

-- one of these faults, if there is one
abbrev pub IsFaultBy : (ElementFault → Type 0) → Option ElementFault → Type 0
IsFaultBy P None = (f : ElementFault) → ¬ P f
IsFaultBy P (Some f) = P f

-- both coordinates of a difference are multiples of n
pub record DividesBoth (n : ℤ) (from to : Pt) : Type 0 where
  pub x : Divides n (to.x -ℤ from.x)
  pub y : Divides n (to.y -ℤ from.y)
