use Rattle.dpl_links.specs.Marks.{Marks}
use Rattle.dpl_links.specs.Sources.{IsEntered}
use Rattle.dpl_links.proofs.sources.entered.Given as goal

abbrev pub invariant-loop-row : goal.invariant-loop-row
invariant-loop-row l = Marks (IsEntered l.graph l.row-index) l.initial.marks.items l.marks.items l.initial.noted.items l.noted.items
