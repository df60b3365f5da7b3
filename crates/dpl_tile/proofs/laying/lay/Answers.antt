use Rattle.std.proofs.Common.{arith, refl}
use Rattle.dpl_tile.proofs.TileLaws.{laid-by_none}
use Rattle.dpl_tile.proofs.laying.lay.Goals as goal

pub returns-in_default : goal.returns-in_default
returns-in_default c = laid-by_none c.args.parts.now c.args.tile _ _ c.requires.parts
    (record { left = omega arith; low = omega arith; some = omega arith; short = omega arith })
    (c.in_default.ensures.none refl) c.new-places.ensures.items
