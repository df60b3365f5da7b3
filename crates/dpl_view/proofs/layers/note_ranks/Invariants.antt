use Rattle.std.proofs.Common.{map, take}
use Rattle.dpl_syntax.specs.Elements.{element_seen}
use Rattle.dpl_view.specs.Ranks.{AreNoted}
use Rattle.dpl_view.proofs.layers.note_ranks.Given as goal

abbrev pub invariant-loop-element : goal.invariant-loop-element
invariant-loop-element l = AreNoted (map element_seen (take l.element-index l.elements)) l.fn.ranks.items l.ranks.items
