use Rattle.std.proofs.Common.{refl}
use Rattle.dpl_tile.proofs.TileLaws.{laid-by_first, laid-by_places}
use Rattle.dpl_tile.proofs.CellLaws.{parts-over, bounds-over}
use Rattle.std.proofs.lemmas.Result.{IfOk-from_err}
use Rattle.dpl_tile.proofs.laying.lay_over.Goals as goal

pub is_one_cell-requires-clause-over : goal.is_one_cell-requires-clause-over
is_one_cell-requires-clause-over c = bounds-over c.grid_of-grid.result c.args.parts.now c.args.bounds.now c.requires.parts
    c.requires.bounds c.grid_of-grid.ensures.left c.grid_of-grid.ensures.low

pub returns-then-is_one_cell : goal.returns-then-is_one_cell
returns-then-is_one_cell c = laid-by_first c.args.parts.now c.args.tile c.grid_of-grid.result c.args.bounds.now _ c.requires.parts c.requires.bounds
    c.grid_of-grid.ensures.left c.grid_of-grid.ensures.low c.grid_of-grid.ensures.sound c.grid_of-grid.ensures.grid (c.if-is_one_cell.ensures.one.0 refl) c.in_ok-places.ensures

pub places_of-requires-clause-over : goal.places_of-requires-clause-over
places_of-requires-clause-over c = parts-over c.grid_of-grid.result c.args.parts.now c.args.bounds.now c.requires.parts c.requires.bounds
    c.grid_of-grid.ensures.left c.grid_of-grid.ensures.low

pub returns : goal.returns
returns c = laid-by_places c.args.parts.now c.args.tile c.grid_of-grid.result c.args.bounds.now _ c.requires.parts c.requires.bounds
    c.grid_of-grid.ensures.left c.grid_of-grid.ensures.low c.grid_of-grid.ensures.sound c.grid_of-grid.ensures.grid
    (λ q. (let t = c.if-is_one_cell.ensures.one.1 q in cc)) c.in_ok-places-2.ensures

pub returns-in_err-places : goal.returns-in_err-places
returns-in_err-places c = IfOk-from_err _ _ c.from_residual.ensures.0

pub returns-in_err-places-2 : goal.returns-in_err-places-2
returns-in_err-places-2 c = IfOk-from_err _ _ c.from_residual-in_err-places-2.ensures.0
