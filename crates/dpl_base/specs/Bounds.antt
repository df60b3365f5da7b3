-- The least rectangle round some rectangles, one after the other.
use Rattle.std.specs.Prelude.{Option, Some, None}
use Rattle.std.specs.Int.{int_min, int_max}
use Rattle.dpl_spec_split.specs.declared.Rect.{Rect}

-- round one rectangle more
abbrev pub round_one : Option Rect → Rect → Option Rect
round_one None r = Some r
round_one (Some b) r = Some (record { x0 = int_min b.x0 r.x0; y0 = int_min b.y0 r.y0; x1 = int_max b.x1 r.x1; y1 = int_max b.y1 r.y1 })
