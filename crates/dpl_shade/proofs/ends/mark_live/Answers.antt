use Rattle.std.proofs.lemmas.Bool.{false≢true}
use Rattle.dpl_shade.proofs.EndLaws.{live-marked, more-same, none-live}
use Rattle.dpl_shade.proofs.ends.mark_live.Goals as goal

pub returns-then-not-has_live-clause-more : goal.returns-then-not-has_live-clause-more
returns-then-not-has_live-clause-more c = more-same c.args.ends.now

pub returns-then-not-has_live-clause-all : goal.returns-then-not-has_live-clause-all
returns-then-not-has_live-clause-all c =
    none-live c.args.items.now c.args.dead.now c.args.start c.args.end c.args.ends.now c.requires.order c.requires.within c.requires.rise c.requires.part
    (λ live. false≢true (c.if-not-has_live.ensures.1 live))

pub returns-clause-all : goal.returns-clause-all
returns-clause-all c = live-marked c.args.items.now c.args.dead.now c.args.start c.args.end _ c.mark_part.ensures.all
