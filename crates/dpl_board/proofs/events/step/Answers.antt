use Rattle.std.proofs.lemmas.Result.{on_ok_weaker}
use Rattle.dpl_board.proofs.Goings.{goes-take, goes-post}
use Rattle.dpl_board.proofs.events.step.Goals as goal

pub returns-in-Take : goal.returns-in-Take
returns-in-Take g c = goes-take (g.J.Job.sheet c.args.job.now) c.args.event c.in-Take.worker c.in-Take.tile c.args.taken.now
    c.take.new.taken c.args.board.now c.in-Take.is c.requires.taken c.take.ensures

pub returns-in-Post : goal.returns-in-Post
returns-in-Post g c =
    on_ok_weaker c.post.result
    (λ h. goes-post (g.J.Job.sheet c.args.job.now) c.args.event c.in-Post.worker c.in-Post.tile c.args.taken.now
    c.args.board.now c.post.new.board c.in-Post.is h)
    c.post.ensures
