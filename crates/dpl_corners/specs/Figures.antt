-- Loops, with bars apart.
use Rattle.std.specs.Prelude.{List}
use Rattle.dpl_spec_split.specs.declared.Pt.{Pt}
use Rattle.dpl_corners.specs.Corners.{loop_round}
use Rattle.dpl_corners.specs.declared.figure.Shape.{Shape}
use Rattle.dpl_corners.specs.declared.figure.Shape.TheVariants.{Bar, Loop}

-- the points of what a loop is kept as
abbrev pub points_of : Shape → List Pt
points_of (Bar b) = loop_round b
points_of (Loop ps) = ps
