use Rattle.std.proofs.Common.{◌≡◌, ◌∙◌, ap, length, drop, rules}
use Rattle.std.proofs.lemmas.List.{length-map, take_at}
use Rattle.dpl_spec_split.specs.Zones.{transposed_rect}
use Rattle.dpl_slabs.specs.Cells.{transposed_rects}
use Rattle.dpl_slabs.proofs.strips.transpose_and_sort.Goals as goal

pub returns-clause-same : goal.returns-clause-same
returns-clause-same c =
    let transposed : c.transpose_all.new.rects ≡ transposed_rects c.args.rects.now.items = rw c.deref_mut.ensures.value at c.transpose_all.ensures in
    let len : length c.transpose_all.new.rects ≡ c.args.rects.now.len = ap length transposed ∙ (length-map c.args.rects.now.items transposed_rect ∙ search rules) in
    let all = rw (take_at c.transpose_all.new.rects (drop (length c.transpose_all.new.rects) c.args.rects.now.items) c.args.rects.now.len len) at c.sort_by_corner.ensures.same in
    rw transposed at all
