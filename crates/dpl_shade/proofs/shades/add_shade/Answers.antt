use Rattle.std.proofs.Common.{refl}
use Rattle.dpl_shade.proofs.ItemLaws.{owned-within}
use Rattle.dpl_shade.proofs.ShadingLaws.{handles-nothing}
use Rattle.dpl_shade.proofs.shades.add_shade.Goals as goal

pub shadow-requires-clause-slab : goal.shadow-requires-clause-slab
shadow-requires-clause-slab c = owned-within c.args.items.now c.args.n _ c.requires.within c.requires.first

pub shadow-requires-clause-other : goal.shadow-requires-clause-other
shadow-requires-clause-other c = owned-within c.args.items.now c.args.m _ c.requires.within c.requires.second

pub returns-in-None-clause-handles : goal.returns-in-None-clause-handles
returns-in-None-clause-handles c = handles-nothing c.args.items.now c.args.shades.now c.args.n c.args.m (c.in-None.ensures.none refl)
