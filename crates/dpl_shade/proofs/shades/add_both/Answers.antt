use Rattle.dpl_shade.proofs.ShadingLaws.{handles-more}
use Rattle.dpl_shade.proofs.shades.add_both.Goals as goal

pub returns-clause-handles : goal.returns-clause-handles
returns-clause-handles c = (
  handles-more c.args.items.now c.add_shade.new.shades c.add_shade-2.new.shades c.args.pair.now.0 c.args.pair.now.1 c.in_ok-add_shade-2.ensures.more c.in_ok-add_shade.ensures.handles,
  c.in_ok-add_shade-2.ensures.handles,
)
