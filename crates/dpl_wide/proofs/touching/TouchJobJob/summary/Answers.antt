use Rattle.std.proofs.Common.{◌<◌, length}
use Rattle.std.proofs.lemmas.List.{length-map}
use Rattle.std.proofs.lemmas.Result.{IfOk-weaker, IfOk-from_err}
use Rattle.dpl_wide.specs.Sheets.{edges_in}
use Rattle.dpl_wide.proofs.Finding.{tile-pairs, tile-sums}
use Rattle.dpl_wide.proofs.touching.TouchJobJob.summary.Goals as goal

pub stars-requires : goal.stars-requires
stars-requires c =
    let tiles = c.args.self.now in
    let below : c.args.tile < length tiles.cells = rw (length-map tiles.cells (edges_in tiles.slabs)) at c.requires in
    rw c.deref.ensures.value (tile-pairs tiles c.args.tile c.in_ok-edges.edges.items below c.in_ok-edges.ensures)

pub returns : goal.returns
returns c =
    let tiles = c.args.self.now in
    let below : c.args.tile < length tiles.cells = rw (length-map tiles.cells (edges_in tiles.slabs)) at c.requires in
    IfOk-weaker c.stars.result _ _
    (λ joined sums. tile-sums tiles c.args.tile c.in_ok-edges.edges.items joined below c.in_ok-edges.ensures (rw c.deref.ensures.value at sums)) c.stars.ensures

pub returns-in_err-edges : goal.returns-in_err-edges
returns-in_err-edges c = IfOk-from_err _ _ c.from_residual.ensures.0
