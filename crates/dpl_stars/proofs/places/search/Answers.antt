use Rattle.dpl_stars.proofs.PlaceLaws.{not-missed}
use Rattle.dpl_stars.proofs.places.search.Goals as goal

pub unreachable-requires : goal.unreachable-requires
unreachable-requires c = not-missed c.args.pieces.now c.requires.rising c.args.piece _ c.requires.there c.in-Err.ensures.position
