use Rattle.std.proofs.Common.{◌∙◌}
use Rattle.dpl_shapes.proofs.Drawing.{bar-east, bar-north, bar-west, bar-south}
use Rattle.dpl_shapes.proofs.bars.bar_round.Goals as goal

pub returns-in-East : goal.returns-in-East
returns-in-East c = c.new.ensures ∙ bar-east c.heading_to.result c.args.half c.args.begin c.args.end c.args.segment.now c.requires.segment
    c.requires.half c.requires.begin c.requires.end c.in-East.is c.heading_to.ensures

pub returns-in-North : goal.returns-in-North
returns-in-North c = c.new-in-North.ensures ∙ bar-north c.heading_to.result c.args.half c.args.begin c.args.end c.args.segment.now
    c.requires.segment c.requires.half c.requires.begin c.requires.end c.in-North.is c.heading_to.ensures

pub returns-in-West : goal.returns-in-West
returns-in-West c = c.new-in-West.ensures ∙ bar-west c.heading_to.result c.args.half c.args.begin c.args.end c.args.segment.now
    c.requires.segment c.requires.half c.requires.begin c.requires.end c.in-West.is c.heading_to.ensures

pub returns-in-South : goal.returns-in-South
returns-in-South c = c.new-in-South.ensures ∙ bar-south c.heading_to.result c.args.half c.args.begin c.args.end c.args.segment.now
    c.requires.segment c.requires.half c.requires.begin c.requires.end c.in-South.is c.heading_to.ensures
