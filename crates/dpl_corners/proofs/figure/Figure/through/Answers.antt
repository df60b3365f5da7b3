use Rattle.dpl_corners.proofs.StraightLaws.{bar_straight}
use Rattle.dpl_corners.proofs.figure.Figure.through.Goals as goal

pub returns-clause-straight : goal.returns-clause-straight
returns-clause-straight c = bar_straight c.in_ok-bar.bar c.args.points.now c.in_ok-bar.ensures
