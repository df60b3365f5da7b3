use Rattle.dpl_session.specs.Tiles.{window}
use Rattle.dpl_session.proofs.Conflicting.{adds_conflicts, edges_named}
use Rattle.dpl_session.proofs.kept.add_tile.Goals as goal

pub add_named-requires : goal.add_named-requires
add_named-requires g c =
    let is = rw c.around-around.ensures at c.in_ok-window.ensures.window in
    rw (c.items.ensures, c.items-2.ensures) (edges_named c.args.spacing c.args.index.now.parts c.args.index.now.owners
    (window c.args.spacing.rule c.args.cell.now) c.in_ok-window.window c.in_ok-edges.edges is c.in_ok-edges.ensures.edges)

pub returns-clause-edges : goal.returns-clause-edges
returns-clause-edges g c =
    let is = rw c.around-around.ensures at c.in_ok-window.ensures.window in
    let adds = rw (c.items.ensures, c.items-2.ensures) at c.in_ok-add_named.ensures in
    adds_conflicts c.args.spacing c.args.index.now.parts c.args.index.now.owners c.args.cell.now c.in_ok-window.window c.in_ok-edges.edges
    c.args.found.now.edges.items c.add_named.new.all.items
    c.requires.corner c.in_ok-window.ensures.parts is c.in_ok-edges.ensures.edges adds
