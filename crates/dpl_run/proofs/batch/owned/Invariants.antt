use Rattle.std.proofs.Common.{◌≡◌, ◌++◌, map}
use Rattle.dpl_run.specs.View.{write_view}
use Rattle.dpl_run.proofs.batch.owned.Given as goal

-- the files that were met, with names of their own
abbrev pub invariant-loop-write : goal.invariant-loop-write
invariant-loop-write l = (l.yielded ++ l.write-iterator.rest.items ≡ l.fn.made.writes.items) × (map write_view l.own.items ≡ map write_view l.yielded)
