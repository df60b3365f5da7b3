use Rattle.std.proofs.Common.{◌+◌, ◌*◌}
use Rattle.dpl_edges.proofs.pairs.+sorted.Given as goal

abbrev pub decreases-sorted_between_by : goal.decreases-sorted_between_by
decreases-sorted_between_by g l = 2 * l.workers

abbrev pub decreases-front : goal.decreases-front
decreases-front g l = 2 * l.half + 1

abbrev pub decreases-back : goal.decreases-back
decreases-back g l = 2 * l.others + 1
