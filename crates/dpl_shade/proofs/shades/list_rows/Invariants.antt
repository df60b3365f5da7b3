use Rattle.dpl_shade.proofs.ShadingLaws.{AreSpansOf}
use Rattle.dpl_shade.proofs.shades.list_rows.Given as goal

abbrev pub invariant-loop-s : goal.invariant-loop-s
invariant-loop-s l = AreSpansOf l.shades l.s-index l.spans.items
