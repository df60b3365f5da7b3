use Rattle.std.proofs.lemmas.List.Filters.{dedup_is}
use Rattle.dpl_session.specs.Kept.{IsChangedAmong, IsFresh}
use Rattle.dpl_session.proofs.Gathered.{all_tiles, fresh_of, took_other}
use Rattle.dpl_session.proofs.kept.tiles_of.Goals as goal

pub returns-in_err-found-clause-steps : goal.returns-in_err-found-clause-steps
returns-in_err-found-clause-steps g c =
    let (layer, grid, inside) = c.requires.cells in
    took_other (IsChangedAmong c.args.cells.now.cells.items c.args.spacing.rule c.args.old.now c.args.index.now.parts c.args.index.now.owners)
    (IsFresh c.args.spacing.rule c.args.old.now c.args.cells.now.side c.args.index.now.parts c.args.index.now.owners) c.args.steps.now c.all_found.new.steps
    (fresh_of c.args.spacing.rule c.args.old.now layer c.args.cells.now.side c.args.index.now.parts c.args.index.now.owners c.args.cells.now.cells.items grid)
    (rw c.deref.ensures.value at c.in_err-found.ensures.steps)

pub returns-clause-tiles : goal.returns-clause-tiles
returns-clause-tiles g c =
    let (layer, grid, inside) = c.requires.cells in
    all_tiles c.args.spacing c.args.index.now.parts c.args.index.now.owners c.args.cells.now.cells.items layer c.args.cells.now.side c.in_ok-found.found.tiles.items
    c.in_ok-found.found.edges.items
    c.sort_unstable.new.self.items c.dedup.new.self.items grid inside (rw c.deref.ensures.value at c.in_ok-found.ensures.tiles)
    c.sort_unstable.ensures.permutation c.sort_unstable.ensures.sorted (dedup_is _ _ _ c.dedup.ensures.filtered)

pub returns-clause-steps : goal.returns-clause-steps
returns-clause-steps g c =
    let (layer, grid, inside) = c.requires.cells in
    took_other (IsChangedAmong c.args.cells.now.cells.items c.args.spacing.rule c.args.old.now c.args.index.now.parts c.args.index.now.owners)
    (IsFresh c.args.spacing.rule c.args.old.now c.args.cells.now.side c.args.index.now.parts c.args.index.now.owners) c.args.steps.now c.all_found.new.steps
    (fresh_of c.args.spacing.rule c.args.old.now layer c.args.cells.now.side c.args.index.now.parts c.args.index.now.owners c.args.cells.now.cells.items grid)
    (rw c.deref.ensures.value at c.in_ok-found.ensures.steps)
