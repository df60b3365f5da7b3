use Rattle.std.proofs.Common.{◌≡◌, ◌∙◌, get_or, ap}
use Rattle.std.proofs.lemmas.Bool.{false≢true}
use Rattle.std.proofs.lemmas.List.{get_or_default}
use Rattle.dpl_session.specs.declared.tile.Tile.{Tile}
use Rattle.dpl_session.proofs.Lookup.{not_among}
use Rattle.dpl_session.proofs.tile.find.Goals as goal

pub returns-clause-none : goal.returns-clause-none
returns-clause-none c = λ none among. not_among c.args.tiles.now c.args.cell.now c.start_of-n.result c.args.window.now.slabs c.args.window.now.labels c.requires c.start_of-n.ensures
    (λ n_in d both. (
    let is : c.index-tiles-n.result ≡ get_or c.args.tiles.now c.start_of-n.result d = c.index-tiles-n.is ∙ get_or_default c.args.tiles.now c.start_of-n.result
    c.index-tiles-n.result d n_in in
    false≢true (c.if-is_as.ensures.1 (ap (λ (u : Tile). u.slabs) is ∙ both.0, ap (λ (u : Tile). u.labels) is ∙ both.1))))
    among
