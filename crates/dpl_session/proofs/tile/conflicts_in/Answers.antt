use Rattle.std.proofs.Common.{◌∙◌, ap, sym}
use Rattle.std.proofs.lemmas.Result.{IfOk-weaker}
use Rattle.dpl_session.specs.declared.tile.Tile.{Tile}
use Rattle.dpl_session.proofs.Lookup.{own_edges}
use Rattle.dpl_session.proofs.tile.conflicts_in.Goals as goal

pub returns-in-Some-clause-edges : goal.returns-in-Some-clause-edges
returns-in-Some-clause-edges g c =
    IfOk-weaker c.copy.result _ _ (λ edges same. own_edges c.args.spacing c.args.tiles.now c.in-Some.n c.index-tiles-n.result c.args.window.now.slabs c.args.window.now.labels edges
    c.requires.kept.edges c.in-Some.ensures.some.0 c.index-tiles-n.is c.in-Some.ensures.some.1 (same ∙ ap (λ (u : Tile). u.edges) (sym c.index-tiles-n.is))) c.copy.ensures
