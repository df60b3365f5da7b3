-- The rectangles along segments, as the code computes them.
use Rattle.std.proofs.Common.{◌≡◌, ◌^◌, ◌≤◌, sym, ap, ◌∙◌, arith, to_z, of_z, w64}
use Rattle.std.specs.Prelude.{ℤ, ◌+ℤ◌, ◌-ℤ◌, unsigned_abs}
use Rattle.std.proofs.lemmas.Int.{ints}
use Rattle.dpl_spec_split.specs.declared.Pt.{Pt}
use Rattle.dpl_spec_split.specs.declared.Rect.{Rect}
use Rattle.dpl_spec_split.specs.Loops.{IsPointWithin}
use Rattle.dpl_spec_elements.specs.declared.Heading.{Heading}
use Rattle.dpl_spec_elements.specs.declared.Heading.TheVariants.{East, North, West, South}
use Rattle.dpl_spec_elements.specs.declared.Segment.{Segment}
use Rattle.dpl_spec_elements.specs.Paths.{heading, bar_to, bar, square_round}
use Rattle.dpl_shapes.specs.Strokes.{IsSegmentWithin}

-- small numbers don't wrap
abbrev pub less : ℤ → ℤ → ℤ
less a b = to_z w64 (of_z w64 (to_z w64 (of_z w64 a) -ℤ to_z w64 (of_z w64 b)))

abbrev pub more : ℤ → ℤ → ℤ
more a b = to_z w64 (of_z w64 (to_z w64 (of_z w64 a) +ℤ to_z w64 (of_z w64 b)))

less-is : (a b : ℤ) → unsigned_abs a ≤ 2 ^ 31 → unsigned_abs b ≤ 2 ^ 31 → less a b ≡ a -ℤ b
less-is a b h k = omega (arith, ints, h, k)

more-is : (a b : ℤ) → unsigned_abs a ≤ 2 ^ 31 → unsigned_abs b ≤ 2 ^ 31 → more a b ≡ a +ℤ b
more-is a b h k = omega (arith, ints, h, k)

turned-to : (way h : Heading) (half begin end : ℤ) (s : Segment) → h ≡ way → h ≡ heading s.from s.to → bar_to way half begin end s ≡ bar half begin end s
turned-to way h half begin end s is h_is = ap (λ k. bar_to k half begin end s) (sym is ∙ h_is)

-- the rectangle of each heading
pub bar-east : (h : Heading) (half begin end : ℤ) (s : Segment) → IsSegmentWithin (2 ^ 31) s → unsigned_abs half ≤ 2 ^ 31
    → unsigned_abs begin ≤ 2 ^ 31 → unsigned_abs end ≤ 2 ^ 31 → h ≡ East → h ≡ heading s.from s.to
    → record { x0 = less s.from.x begin; y0 = less s.from.y half; x1 = more s.to.x end; y1 = more s.from.y half } ≡ bar half begin end s
bar-east h half begin end s w a b e is h_is =
    let rect : Rect = record { x0 = less s.from.x begin; y0 = less s.from.y half; x1 = more s.to.x end; y1 = more s.from.y half } in
    let same : rect ≡ bar_to East half begin end s = λ i. record {
      x0 = less-is s.from.x begin w.from.column b i;
      y0 = less-is s.from.y
          half w.from.row a i;
      x1 = more-is s.to.x end w.to.column e i;
      y1 = more-is s.from.y half w.from.row a i;
    } in
    same ∙ turned-to East h half begin end s is h_is

pub bar-north : (h : Heading) (half begin end : ℤ) (s : Segment) → IsSegmentWithin (2 ^ 31) s → unsigned_abs half ≤ 2 ^ 31
    → unsigned_abs begin ≤ 2 ^ 31 → unsigned_abs end ≤ 2 ^ 31 → h ≡ North → h ≡ heading s.from s.to
    → record { x0 = less s.from.x half; y0 = less s.from.y begin; x1 = more s.from.x half; y1 = more s.to.y end } ≡ bar half begin end s
bar-north h half begin end s w a b e is h_is =
    let rect : Rect = record { x0 = less s.from.x half; y0 = less s.from.y begin; x1 = more s.from.x half; y1 = more s.to.y end } in
    let same : rect ≡ bar_to North half begin end s = λ i. record {
      x0 = less-is s.from.x half w.from.column a i;
      y0 = less-is s.from.y
          begin w.from.row b i;
      x1 = more-is s.from.x half w.from.column a i;
      y1 = more-is s.to.y end w.to.row e i;
    } in
    same ∙ turned-to North h half begin end s is h_is

pub bar-west : (h : Heading) (half begin end : ℤ) (s : Segment) → IsSegmentWithin (2 ^ 31) s → unsigned_abs half ≤ 2 ^ 31
    → unsigned_abs begin ≤ 2 ^ 31 → unsigned_abs end ≤ 2 ^ 31 → h ≡ West → h ≡ heading s.from s.to
    → record { x0 = less s.to.x end; y0 = less s.from.y half; x1 = more s.from.x begin; y1 = more s.from.y half } ≡ bar half begin end s
bar-west h half begin end s w a b e is h_is =
    let rect : Rect = record { x0 = less s.to.x end; y0 = less s.from.y half; x1 = more s.from.x begin; y1 = more s.from.y half } in
    let same : rect ≡ bar_to West half begin end s = λ i. record {
      x0 = less-is s.to.x end w.to.column e i;
      y0 = less-is s.from.y half
          w.from.row a i;
      x1 = more-is s.from.x begin w.from.column b i;
      y1 = more-is s.from.y half w.from.row a i;
    } in
    same ∙ turned-to West h half begin end s is h_is

pub bar-south : (h : Heading) (half begin end : ℤ) (s : Segment) → IsSegmentWithin (2 ^ 31) s → unsigned_abs half ≤ 2 ^ 31
    → unsigned_abs begin ≤ 2 ^ 31 → unsigned_abs end ≤ 2 ^ 31 → h ≡ South → h ≡ heading s.from s.to
    → record { x0 = less s.from.x half; y0 = less s.to.y end; x1 = more s.from.x half; y1 = more s.from.y begin } ≡ bar half begin end s
bar-south h half begin end s w a b e is h_is =
    let rect : Rect = record { x0 = less s.from.x half; y0 = less s.to.y end; x1 = more s.from.x half; y1 = more s.from.y begin } in
    let same : rect ≡ bar_to South half begin end s = λ i. record {
      x0 = less-is s.from.x half w.from.column a i;
      y0 = less-is s.to.y end
          w.to.row e i;
      x1 = more-is s.from.x half w.from.column a i;
      y1 = more-is s.from.y begin w.from.row b i;
    } in
    same ∙ turned-to South h half begin end s is h_is

pub square-drawn : (half : ℤ) (p : Pt) → IsPointWithin (2 ^ 31) p → unsigned_abs half ≤ 2 ^ 31
    → record { x0 = less p.x half; y0 = less p.y half; x1 = more p.x half; y1 = more p.y half } ≡ square_round half p
square-drawn half p w a = λ i. record { x0 = less-is p.x half w.column a i; y0 = less-is p.y half w.row a i; x1 = more-is p.x half w.column a i; y1 = more-is p.y half w.row a i }
