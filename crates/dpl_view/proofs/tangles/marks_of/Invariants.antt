use Rattle.std.proofs.Common.{◌≡◌, length}
use Rattle.dpl_view.specs.Marks.{AreMarks}
use Rattle.dpl_view.proofs.tangles.marks_of.Given as goal

abbrev pub invariant-loop-u : goal.invariant-loop-u
invariant-loop-u l = record {
  each : length l.marks.items ≡ length l.levels.levels.items;
  marks : AreMarks l.levels.roots.items l.levels.levels.items l.edges l.u-index l.marks.items;
}
