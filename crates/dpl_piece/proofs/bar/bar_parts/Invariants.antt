use Rattle.std.proofs.Common.{◌≡◌, List, map, take}
use Rattle.dpl_spec_split.specs.declared.Rect.{Rect}
use Rattle.dpl_piece.proofs.Bars.{alone, AreBarsBelow}
use Rattle.dpl_piece.proofs.bar.bar_parts.Given as goal

abbrev pub invariant-loop-hole : goal.invariant-loop-hole
invariant-loop-hole l = record {
  done : List Rect;
  parts : l.parts.items ≡ map alone done;
  bars : AreBarsBelow l.bar (take l.hole-index l.holes) done l.rest;
}
