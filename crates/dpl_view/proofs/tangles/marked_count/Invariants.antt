use Rattle.std.proofs.Common.{◌≡◌, take}
use Rattle.std.specs.List.{count_by}
use Rattle.dpl_view.specs.Marks.{is_marked}
use Rattle.dpl_view.proofs.tangles.marked_count.Given as goal

abbrev pub invariant-loop-u : goal.invariant-loop-u
invariant-loop-u l = l.count ≡ count_by (is_marked l.levels.roots.items l.marks) (take l.u-index l.edges)
