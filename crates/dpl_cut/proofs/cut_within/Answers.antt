use Rattle.dpl_spec_split.specs.Squares.{Covers}
use Rattle.dpl_cut.proofs.Cuts.{completed_cut}
use Rattle.dpl_cut.proofs.cut_within.Goals as goal

pub returns : goal.returns
returns c = λ marks fixed.
    completed_cut marks c.args.spacing c.args.overlap (Covers c.args.layer.now) c.in_ok-cut.cut c.completed.result
    (c.in_ok-cut.ensures.cut c.args.layer.now marks c.in_ok-features.ensures fixed) c.completed.ensures.features c.completed.ensures.pieces
