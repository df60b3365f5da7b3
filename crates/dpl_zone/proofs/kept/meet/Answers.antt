use Rattle.dpl_zone.proofs.Joining.{solid-farther}
use Rattle.dpl_zone.proofs.kept.meet.Goals as goal

pub touches-requires-clause-solid_a : goal.touches-requires-clause-solid_a
touches-requires-clause-solid_a c = solid-farther c.args.h.now.rect c.requires.first

pub touches-requires-clause-solid_b : goal.touches-requires-clause-solid_b
touches-requires-clause-solid_b c = solid-farther c.args.z.now.rect c.requires.second
