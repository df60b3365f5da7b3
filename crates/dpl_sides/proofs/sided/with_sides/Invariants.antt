use Rattle.std.proofs.Common.{◌≡◌, take}
use Rattle.dpl_sides.specs.declared.standing.Side.TheVariants.{Before, After}
use Rattle.dpl_sides.specs.Sided.{numbers_in, sides_in}
use Rattle.dpl_sides.proofs.sided.with_sides.Given as goal

abbrev pub invariant-loop-i : goal.invariant-loop-i
invariant-loop-i l =
    record {
      own : numbers_in l.zones.items ≡ take l.i l.own;
      firsts : sides_in Before l.zones.items ≡ take l.i l.firsts;
      seconds : sides_in After l.zones.items ≡ take l.i l.seconds;
    }
