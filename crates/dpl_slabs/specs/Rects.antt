-- The rectangles of a set.
use Rattle.std.specs.Prelude.{List, [], ◌∷◌}
use Rattle.dpl_spec_split.specs.declared.Rect.{Rect}
use Rattle.dpl_slabs.specs.declared.rects.Rects.{Rects}
use Rattle.dpl_slabs.specs.declared.rects.Rects.TheVariants.{One, Many}

-- the rectangles, in order
abbrev pub rects_in : Rects → List Rect
rects_in (One rect alloc) = rect ∷ []
rects_in (Many rects) = rects.items
