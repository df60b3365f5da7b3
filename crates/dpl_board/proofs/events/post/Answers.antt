use Rattle.std.proofs.Common.{◌<◌, length, sym, ◌∙◌}
use Rattle.std.proofs.lemmas.Result.{err_from_is_err_and}
use Rattle.dpl_board.specs.Sheets.{entry}
use Rattle.dpl_board.proofs.Posters.{some-from}
use Rattle.dpl_board.proofs.Goings.{posts-known, posts-new, posts-past}
use Rattle.dpl_board.proofs.events.post.Goals as goal

pub returns-then-tile-tiles : goal.returns-then-tile-tiles
returns-then-tile-tiles g c = λ entries has. posts-past (g.J.Job.sheet c.args.job.now) entries
    (entry c.args.worker c.args.tile) c.args.board.now has (rw (← c.tiles.ensures.count) c.if-tile-tiles.true)

pub returns-then-is_some : goal.returns-then-is_some
returns-then-is_some g c = λ entries has. (
    let below : c.args.tile < length (g.J.Job.sheet c.args.job.now) = rw (← c.tiles.ensures.count) c.if-tile-tiles.false in
    let some = some-from c.poster.result (sym c.if-is_some.ensures) in
    posts-known (g.J.Job.sheet c.args.job.now) entries (entry c.args.worker c.args.tile) c.args.board.now has some.0 below (sym c.poster.ensures ∙ some.1)
    )

pub returns-in-Ok : goal.returns-in-Ok
returns-in-Ok g c = λ entries has. (
    let below : c.args.tile < length (g.J.Job.sheet c.args.job.now) = rw (← c.tiles.ensures.count) c.if-tile-tiles.false in
    let (none, post) = c.in-Ok.ensures in
    posts-new (g.J.Job.sheet c.args.job.now) entries (entry c.args.worker c.args.tile) c.args.board.now has c.in_ok-sum.sum c.post.new.self below none post c.in_ok-sum.ensures
    )

pub returns-in-Err-Twice : goal.returns-in-Err-Twice
returns-in-Err-Twice g c = λ entries has. (
    let below : c.args.tile < length (g.J.Job.sheet c.args.job.now) = rw (← c.tiles.ensures.count) c.if-tile-tiles.false in
    let (by, same) = rw c.in-Err-Twice.field-0-is at c.in-Err-Twice.ensures in
    rw same (posts-known (g.J.Job.sheet c.args.job.now) entries (entry c.args.worker c.args.tile) c.args.board.now has c.in-Err-Twice.field-0-0 below by)
    )

pub returns-in_err-sum : goal.returns-in_err-sum
returns-in_err-sum g c = rw (err_from_is_err_and c.from_residual.result c.from_residual.ensures.1).1 tt
