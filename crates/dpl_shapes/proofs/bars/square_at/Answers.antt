use Rattle.std.proofs.Common.{◌∙◌}
use Rattle.dpl_shapes.proofs.Drawing.{square-drawn}
use Rattle.dpl_shapes.proofs.bars.square_at.Goals as goal

pub returns : goal.returns
returns c = c.new.ensures ∙ square-drawn c.args.half c.args.point.now c.requires.point c.requires.half
