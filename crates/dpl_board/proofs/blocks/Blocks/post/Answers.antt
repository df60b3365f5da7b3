use Rattle.std.proofs.Common.{rules, ◌≡◌, ◌<◌, ◌^◌, ◌∙◌, ap, sym, None}
use Rattle.std.specs.Prelude.{vec_capacity}
use Rattle.dpl_board.specs.Sheets.{entry, poster_in}
use Rattle.dpl_board.specs.Boards.{Board, IsPost}
use Rattle.dpl_board.specs.Blocks.{AreKept, HasAdded, tiles_at}
use Rattle.dpl_board.proofs.Posters.{none-otherwise}
use Rattle.dpl_board.proofs.Changes.{kept-more, more-aligned, more-blocks, more-within, shown}
use Rattle.dpl_board.proofs.blocks.Blocks.post.Goals as goal
use Rattle.dpl_board.proofs.blocks.Blocks.post.Goals.{After-note}

pub note-requires-clause-aligned : goal.note-requires-clause-aligned
note-requires-clause-aligned c =
    let b = c.self.inside in
    let tiles : b.posts.tiles ≡ c.args.self.now.tiles = ap (λ (b : Board). b.tiles) c.self.view_is in
    let below : c.args.tile < b.posts.tiles = rw tiles c.requires in
    let small : b.posts.tiles < 2 ^ 32 = search rules in
    let none : poster_in c.args.tile b.posts.history.items ≡ None = sym c.poster.ensures ∙ none-otherwise c.poster.result c.in_default.not-Some in
    rw c.keep.ensures.starts (more-aligned b.posts b.kept c.args.tile c.self.invariant below small none)

pub note-requires-clause-blocks : goal.note-requires-clause-blocks
note-requires-clause-blocks c =
    let b = c.self.inside in
    let tiles : b.posts.tiles ≡ c.args.self.now.tiles = ap (λ (b : Board). b.tiles) c.self.view_is in
    let below : c.args.tile < b.posts.tiles = rw tiles c.requires in
    let small : b.posts.tiles < 2 ^ 32 = search rules in
    let none : poster_in c.args.tile b.posts.history.items ≡ None = sym c.poster.ensures ∙ none-otherwise c.poster.result c.in_default.not-Some in
    rw c.keep.ensures.starts (more-blocks b.posts b.kept c.args.tile c.self.invariant below small none)

pub note-requires-clause-within : goal.note-requires-clause-within
note-requires-clause-within c =
    let b = c.self.inside in
    let tiles : b.posts.tiles ≡ c.args.self.now.tiles = ap (λ (b : Board). b.tiles) c.self.view_is in
    let below : c.args.tile < b.posts.tiles = rw tiles c.requires in
    let small : b.posts.tiles < 2 ^ 32 = search rules in
    let none : poster_in c.args.tile b.posts.history.items ≡ None = sym c.poster.ensures ∙ none-otherwise c.poster.result c.in_default.not-Some in
    rw (c.keep.ensures.starts, c.keep.ensures.ready, c.self.invariant.leaves) (more-within b.posts b.kept c.args.tile c.self.invariant below small none)

all : (c : After-note) → AreKept c.add.new.self c.note.new.self
    × IsPost (shown c.self.inside.posts c.self.inside.kept) (entry c.args.worker c.args.tile) c.args.sum (shown c.add.new.self c.note.new.self)
    × HasAdded (shown c.self.inside.posts c.self.inside.kept) (tiles_at (0, c.args.tile)) c.args.sum (shown c.add.new.self c.note.new.self)
all c =
    let b = c.self.inside in
    let k = c.keep.ensures in
    let tiles : b.posts.tiles ≡ c.args.self.now.tiles = ap (λ (b : Board). b.tiles) c.self.view_is in
    let below : c.args.tile < b.posts.tiles = rw tiles c.requires in
    let small : b.posts.tiles < 2 ^ 32 = search rules in
    let none : poster_in c.args.tile b.posts.history.items ≡ None = sym c.poster.ensures ∙ none-otherwise c.poster.result c.in_default.not-Some in
    kept-more b.posts c.add.new.self b.kept c.note.new.self c.args.sum (entry c.args.worker c.args.tile) c.self.invariant c.add.ensures.posters
    c.add.ensures.tiles c.in_ok-add.ensures.history below small none
    (c.note.ensures.starts ∙ k.starts) (c.note.ensures.sums ∙ k.sums)
    (ap vec_capacity c.note.ensures.list ∙ ap vec_capacity k.list) (rw (k.starts, k.ready) at c.note.ensures.noted)

pub returns-clause-post : goal.returns-clause-post
returns-clause-post c = rw (← c.self.view_is) (sym c.poster.ensures ∙ none-otherwise c.poster.result c.in_default.not-Some, (all c).1)

pub returns-clause-adds : goal.returns-clause-adds
returns-clause-adds c = rw (← c.self.view_is) (all c).2

pub invariant_of-self-2 : goal.invariant_of-self-2
invariant_of-self-2 c = (all c).0
