-- The loop through the corners of a rectangle, from the first round to it again, covers just the rectangle.
use Rattle.std.proofs.Common.{◌≡◌, refl, sym, ◌∙◌, arith}
use Rattle.std.specs.Prelude.{◌↔◌, pos, ◌+ℤ◌}
use Rattle.std.proofs.lemmas.Int.{ints, by_lt_z}
use Rattle.dpl_spec_split.specs.declared.Pt.{Pt}
use Rattle.dpl_spec_split.specs.declared.Rect.{Rect}
use Rattle.dpl_spec_split.specs.Squares.{Has}
use Rattle.dpl_spec_split.specs.Slabs.{IsSolid}
use Rattle.dpl_spec_split.specs.Zones.{at}
use Rattle.dpl_spec_split.specs.Loops.{step, winding, LoopCovers}
use Rattle.dpl_spec_elements.specs.Paths.{corners_of}
use Rattle.dpl_masks.specs.Bytes.{corners}
use Rattle.dpl_shapes.proofs.Corners.{IsProper, corners-cover}

step-level : (p q s : Pt) → p.y ≡ q.y → step p q s ≡ pos 0
step-level p q s e = by_lt_z s.y p.y (λ a. grind (arith, ints, a, e)) (λ a. grind (arith, ints, a, e))

same-winding : (r : Rect) (s : Pt) → winding (corners r) s ≡ winding (corners_of r) s
same-winding r s =
    let closing = step-level (at r.x0 r.y0) (at r.x0 r.y0) s refl in
    let whole : winding (corners r) s ≡ winding (corners_of r) s +ℤ step (at r.x0 r.y0) (at r.x0 r.y0) s = refl in
    whole ∙ omega (arith, ints, closing)

pub round-covers : (r : Rect) (s : Pt) → IsSolid r → LoopCovers (corners r) s ↔ Has r s
round-covers r s solid =
    let wide = solid.wide in
    let tall = solid.tall in
    let proper : IsProper r = record { across = omega (arith, ints, wide); up = omega (arith, ints, tall) } in
    let same = same-winding r s in
    let c = corners-cover r s proper in
    (λ covers. c.0 (λ none. covers (same ∙ none)), λ has none. c.1 has (sym same ∙ none))
