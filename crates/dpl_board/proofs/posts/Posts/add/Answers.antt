use Rattle.std.proofs.Common.{rules, ◌≡◌, ◌∙◌, ◌++◌, ◌∷◌, []}
use Rattle.std.proofs.lemmas.Result.{err_from_is_err_and}
use Rattle.dpl_board.proofs.Posters.{posters-more}
use Rattle.dpl_board.proofs.posts.Posts.add.Goals as goal

pub returns-clause-posters : goal.returns-clause-posters
returns-clause-posters c =
    let more : c.push.new.self.items ≡ c.args.self.now.history.items ++ c.args.entry ∷ [] = search rules in
    rw more (posters-more c.args.self.now.tiles c.args.self.now.posters.items c.args.self.now.history.items c.args.entry c.requires.posters c.requires.below
    (c.requires.posters.workers.each c.args.entry.tile c.requires.below ∙ c.requires.missing))

pub returns-in_err-push-clause-history : goal.returns-in_err-push-clause-history
returns-in_err-push-clause-history c = rw (err_from_is_err_and c.from_residual.result c.from_residual.ensures.1).1 tt
