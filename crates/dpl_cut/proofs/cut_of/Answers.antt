use Rattle.dpl_cut.proofs.cut_of.Goals as goal

pub returns-clause-cut : goal.returns-clause-cut
returns-clause-cut c = λ marks. c.cut_features.ensures.cut c.args.layer marks c.in_ok-features.ensures
