use Rattle.std.proofs.Common.{map, sym, ◌∙◌, arith}
use Rattle.std.specs.Prelude.{pos}
use Rattle.std.proofs.lemmas.List.{get_or-map, length-map, take_all}
use Rattle.dpl_sides.specs.declared.corner.Corner.{Corner}
use Rattle.dpl_sides.specs.declared.corner.Slab.{Slab}
use Rattle.dpl_sides.specs.Corners.{slab_corner, slab_of}
use Rattle.dpl_sides.proofs.Noting.{noted-next}
use Rattle.dpl_sides.proofs.noted.note_all.Goals as goal

abbrev no_slab : Slab
no_slab = slab_of 0 (record { x0 = pos 0; y0 = pos 0; x1 = pos 0; y1 = pos 0 })

pub loop-slab-preserved : goal.loop-slab-preserved
loop-slab-preserved c =
    let f : Slab → Corner = slab_corner c.args.kind in
    let at = c.loop-slab in
    noted-next (map f c.args.slabs.now) c.args.corners.now at.slab-index c.rect_corner-corner.result c.args.noted.now at.noted c.note-place.new.noted
    (omega (arith, c.loop-slab-test.true, length-map c.args.slabs.now f))
    (c.rect_corner-corner.ensures ∙ sym (get_or-map f c.args.slabs.now at.slab-index no_slab _ c.loop-slab-test.true)) at.invariant c.note-place.ensures

pub returns : goal.returns
returns c =
    let f : Slab → Corner = slab_corner c.args.kind in
    rw (take_all c.loop-slab.slab-index (map f c.args.slabs.now) (omega (arith, length-map c.args.slabs.now f))) at c.loop-slab.invariant
