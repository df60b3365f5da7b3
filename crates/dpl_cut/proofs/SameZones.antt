-- Layers of the same squares, and marks of the same squares, have the same zones.
use Rattle.std.proofs.Common.{ℕ, inl, inr, ℤ, List}
use Rattle.dpl_spec_split.specs.declared.Spacing.{Spacing}
use Rattle.dpl_spec_split.specs.declared.Rect.{Rect}
use Rattle.dpl_spec_split.specs.declared.Zone.{Zone}
use Rattle.dpl_spec_split.specs.Squares.{Region, SameSquares}
use Rattle.dpl_spec_split.specs.Zones.{AreZones, IsClearRun, IsHorizontalZone, IsKeptZone, IsStretch, IsUnmarked, IsVerticalZone, at, part_at, transposed, transposed_rect}
use Rattle.dpl_spec_split.proofs.SquareLaws.{SameSquares-sym}

run_same : (spacing : Spacing) (l m f : Region) (y0 y1 x : ℤ) → SameSquares l m → IsClearRun spacing l f y0 y1 x → IsClearRun spacing m f y0 y1 x
run_same spacing l m f y0 y1 x same r = record { some = r.some; inside = r.inside; clear = λ y a b q h no. r.clear y a b q ((same q).1 h) no; below = r.below; above = r.above }

stretch_same : (spacing : Spacing) (overlap : ℕ) (l m f : Region) (s : Rect) → SameSquares l m → IsStretch spacing overlap l f s → IsStretch spacing overlap m f s
stretch_same spacing overlap l m f s same h = record {
  runs = λ x a b. run_same spacing l m f s.y0 s.y1 x same (h.runs x a b);
  maximal_left = λ r. h.maximal_left (run_same spacing m l f _ _ _ (SameSquares-sym l m same) r);
  maximal_right = λ r. h.maximal_right (run_same spacing m l f _ _ _ (SameSquares-sym l m same) r);
  long = h.long;
  from = h.from;
  to = h.to;
}

level_same : (spacing : Spacing) (overlap : ℕ) (l m f : Region) (z : Rect) → SameSquares l m → IsHorizontalZone spacing overlap l f z → IsHorizontalZone spacing overlap m f z
level_same spacing overlap l m f z same h = record { stretch = h.stretch; is = stretch_same spacing overlap l m f h.stretch same h.is; middle = h.middle }

upright_same : (spacing : Spacing) (overlap : ℕ) (l m f : Region) (z : Rect) → SameSquares l m → IsVerticalZone spacing overlap l f z → IsVerticalZone spacing overlap m f z
upright_same spacing overlap l m f z same h = level_same spacing overlap (transposed l) (transposed m) (transposed f) (transposed_rect z) (λ p. same (at p.y p.x)) h

kept_same : (spacing : Spacing) (overlap : ℕ) (l m f : Region) (z : Rect) → SameSquares l m → IsKeptZone spacing overlap l f z → IsKeptZone spacing overlap m f z
kept_same spacing overlap l m f z same (inl h) = inl (level_same spacing overlap l m f z same h)
kept_same spacing overlap l m f z same (inr v) = inr (upright_same spacing overlap l m f z same v.0, λ h level. v.1 h (level_same spacing overlap m l f h (SameSquares-sym l m same) level))

free_same : (a b : Region) (z : Rect) → SameSquares a b → IsUnmarked a z → IsUnmarked b z
free_same a b z same free p has at = free p has ((same p).1 at)

pub zones_same : (spacing : Spacing) (overlap : ℕ) (l m : Region) (features : List (List Rect)) (a b : Region) (zones : List Zone) → SameSquares l m → SameSquares a b
    → AreZones spacing overlap l features a zones → AreZones spacing overlap m features b zones
zones_same spacing overlap l m features a b zones same marks zs = record {
  ordered = zs.ordered;
  exactly = λ z. (
    λ c. let e = (zs.exactly z).0 c in ((e.0.0, kept_same spacing overlap l m (part_at features z.feature) z.rect same e.0.1), free_same a b z.rect marks e.1),
    λ e. (zs.exactly z).1 ((e.0.0, kept_same spacing overlap m l (part_at features z.feature) z.rect (SameSquares-sym l m same) e.0.1), free_same b a z.rect (SameSquares-sym a b marks) e.1),
  );
}
