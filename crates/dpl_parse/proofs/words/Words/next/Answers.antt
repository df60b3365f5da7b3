use Rattle.std.proofs.Common.{sym, ◌∙◌, ◌+◌}
use Rattle.dpl_parse.proofs.Texts.{rest_is, words_cut, words_lacking, cut_at, nowhere_lacks}
use Rattle.dpl_parse.proofs.words.Words.next.Goals as goal

pub returns-in-None-clause-found : goal.returns-in-None-clause-found
returns-in-None-clause-found c =
    sym c.self.view_is ∙ rw c.if-not-self.false (words_lacking c.self.inside.rest.now (nowhere_lacks 32 c.self.inside.rest.now c.in-None.ensures))

pub returns-in-Some-clause-found : goal.returns-in-Some-clause-found
returns-in-Some-clause-found c =
    sym c.self.view_is ∙ rw (c.if-not-self.false, rest_is (c.in-Some.at + 1) c.self.inside.rest.now)
    (words_cut _ _ _ (cut_at 32 c.self.inside.rest.now c.in-Some.at c.in-Some.ensures.0 c.in-Some.ensures.1))
