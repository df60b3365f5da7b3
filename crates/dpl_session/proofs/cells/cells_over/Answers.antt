use Rattle.std.proofs.Common.{◌≡◌, ℕ, subst, sym}
use Rattle.dpl_spec_split.specs.Squares.{Covers}
use Rattle.dpl_slabs.specs.Parts.{AreParts}
use Rattle.dpl_session.specs.Tiles.{IsSide}
use Rattle.dpl_session.specs.Kept.{AreCells}
use Rattle.dpl_session.proofs.Grids.{layer_cells, one_width}
use Rattle.dpl_session.proofs.cells.cells_over.Goals as goal

pub side_of-side-requires : goal.side_of-side-requires
side_of-side-requires c =
    let (side, s) = layer_cells c.args.layer.now c.in_ok-parts.parts c.args.tile c.in_ok-plan.plan.cells (subst AreParts c.parts.view_is c.parts.invariant)
    c.requires c.ranges.tile.fits c.in_ok-parts.ensures c.in_ok-plan.ensures.tiles in
    rw (c.deref.ensures.value, c.in_ok-cells.ensures) (side, s.wide)

pub returns-clause-side : goal.returns-clause-side
returns-clause-side c =
    let (side, s) = layer_cells c.args.layer.now c.in_ok-parts.parts c.args.tile c.in_ok-plan.plan.cells (subst AreParts c.parts.view_is c.parts.invariant)
    c.requires c.ranges.tile.fits c.in_ok-parts.ensures c.in_ok-plan.ensures.tiles in
    let one : c.side_of-side.result ≡ side = one_width c.in_ok-plan.plan.cells c.side_of-side.result side
    (rw (c.deref.ensures.value, c.in_ok-cells.ensures) at c.side_of-side.ensures) s.wide in
    subst (λ (m : ℕ). IsSide (Covers c.args.layer.now) c.args.tile m) (sym one) s.side_is

pub returns-clause-cells : goal.returns-clause-cells
returns-clause-cells c =
    let (side, s) = layer_cells c.args.layer.now c.in_ok-parts.parts c.args.tile c.in_ok-plan.plan.cells (subst AreParts c.parts.view_is c.parts.invariant)
    c.requires c.ranges.tile.fits c.in_ok-parts.ensures c.in_ok-plan.ensures.tiles in
    let one : c.side_of-side.result ≡ side = one_width c.in_ok-plan.plan.cells c.side_of-side.result side
    (rw (c.deref.ensures.value, c.in_ok-cells.ensures) at c.side_of-side.ensures) s.wide in
    rw c.in_ok-cells.ensures (subst (λ (m : ℕ). AreCells (Covers c.args.layer.now) m c.in_ok-plan.plan.cells) (sym one) s.are)
