use Rattle.dpl_stars.proofs.OddLaws.{levels-show, roots-show, odd-roots, reported-is_odd}
use Rattle.dpl_stars.proofs.levels.odd_cycle_laws.Goals as goal

pub returns : goal.returns
returns c = record { by_component = levels-show; by_root = roots-show; least = odd-roots; reported = reported-is_odd }
