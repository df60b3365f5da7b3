-- When a shape is refused.
use Rattle.std.specs.Prelude.{List}
use Rattle.dpl_spec_split.specs.declared.Pt.{Pt}
use Rattle.dpl_spec_elements.specs.Boundaries.{IsSlanted}
use Rattle.dpl_spec_elements.specs.Paths.{PathElement, IsFirstFault}
use Rattle.dpl_shapes.specs.declared.fault.ShapeFault.{ShapeFault}
use Rattle.dpl_shapes.specs.declared.fault.ShapeFault.TheVariants.{SlantedBoundary, Path, NoMemory}

-- why a boundary is refused; out of memory may come at any
abbrev pub RefusesBoundary : List Pt → ShapeFault → Type 0
RefusesBoundary points SlantedBoundary = IsSlanted points
RefusesBoundary points (Path f) = ⊥
RefusesBoundary points NoMemory = Unit {0}

-- why a path is refused: the first fault that applies; out of memory may come at any
abbrev pub RefusesPath : PathElement → ShapeFault → Type 0
RefusesPath p SlantedBoundary = ⊥
RefusesPath p (Path f) = IsFirstFault p f
RefusesPath p NoMemory = Unit {0}
