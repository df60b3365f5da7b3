-- The least rectangle round others.
use Rattle.std.proofs.Common.{◌≡◌, ap}
use Rattle.std.specs.Prelude.{Option, Some}
use Rattle.std.specs.Int.{int_min, int_max}
use Rattle.dpl_spec_split.specs.declared.Rect.{Rect}
use Rattle.dpl_spec_split.proofs.SlabLaws.{same_rect}
use Rattle.dpl_base.specs.Bounds.{round_one}

pub round-one-is : (before : Option Rect) (b r made : Rect) → before ≡ Some b → made.x0 ≡ int_min b.x0 r.x0 → made.y0 ≡ int_min b.y0 r.y0
    → made.x1 ≡ int_max b.x1 r.x1 → made.y1 ≡ int_max b.y1 r.y1 → Some made ≡ round_one before r
round-one-is before b r made is x0 y0 x1 y1 =
    rw is (ap (λ u. Some u) (same_rect made (record { x0 = int_min b.x0 r.x0; y0 = int_min b.y0 r.y0; x1 = int_max b.x1 r.x1; y1 = int_max b.y1 r.y1 }) x0 y0 x1 y1))
