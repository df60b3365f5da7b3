use Rattle.std.proofs.Common.{◌≡◌, ◌∙◌, sym, None}
use Rattle.dpl_board.specs.Sheets.{entry, poster_in}
use Rattle.dpl_board.proofs.Posters.{none-otherwise}
use Rattle.dpl_board.proofs.Summings.{whole-more}
use Rattle.dpl_board.proofs.board.BoardState.post.Goals as goal

pub returns : goal.returns
returns c =
    let b = c.self.inside in
    let none : poster_in c.args.tile b.posts.history.items ≡ None = sym c.poster.ensures ∙ none-otherwise c.poster.result c.in_default.not-Some in
    rw (← c.self.view_is) (
      none,
      record {
        tiles = c.add.ensures.tiles;
        history = c.in_ok-add.ensures.history;
        stands = λ sheet stands sums. rw (c.add.ensures.tiles, c.in_ok-add.ensures.history)
            (whole-more sheet b.posts.tiles b.posts.history.items (entry c.args.worker c.args.tile) b.joined c.args.sum c.in_ok-joined.joined
            c.in_ok-joined.ensures.sums stands sums);
      },
    )
