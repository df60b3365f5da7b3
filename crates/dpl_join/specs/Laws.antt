-- What follows for those who look for what is near an item.
use Rattle.std.specs.Prelude.{◌≤◌}
use Rattle.dpl_spec_split.specs.declared.Rect.{Rect}
use Rattle.dpl_spec_split.specs.declared.Spacing.{Spacing}
use Rattle.dpl_spec_split.specs.Squares.{AreNear, Has}
use Rattle.dpl_join.specs.Pairs.{AreClose}

-- rectangles with near squares are close by the rule
abbrev pub NearAreClose : Type 0
NearAreClose = (spacing : Spacing) (a b : Rect) → spacing.corner ≤ spacing.rule → AreNear spacing (Has a) (Has b) → AreClose spacing.rule a b
