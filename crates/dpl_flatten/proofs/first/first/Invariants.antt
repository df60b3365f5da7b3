use Rattle.dpl_flatten.specs.Least.{IsLeastOf, AmongMarked}
use Rattle.dpl_flatten.specs.Wants.{finding_of}
use Rattle.dpl_flatten.proofs.first.first.Given as goal

abbrev pub invariant-loop-structure : goal.invariant-loop-structure
invariant-loop-structure l = IsLeastOf (AmongMarked l.lib l.links.marks.now l.structure (finding_of l.lib l.wanted)) l.first
