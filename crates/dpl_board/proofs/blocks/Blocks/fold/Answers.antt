use Rattle.std.proofs.Common.{rules, ◌≡◌, refl, ◌∙◌, ap, arith, length}
use Rattle.std.specs.Prelude.{vec_capacity, vec_len}
use Rattle.dpl_board.specs.Blocks.{AreKept, IsFold}
use Rattle.dpl_board.specs.Starts.{blocks_of}
use Rattle.dpl_board.proofs.Changes.{folded-aligned, folded-blocks, folded-low, folded-within, kept-folded, shown}
use Rattle.dpl_board.proofs.Noting.{halved-size}
use Rattle.dpl_board.proofs.Readying.{to-halved, to-ready}
use Rattle.dpl_board.proofs.blocks.Blocks.fold.Goals as goal
use Rattle.dpl_board.proofs.blocks.Blocks.fold.Goals.{After-note}

pub returns-then-not-is_ready : goal.returns-then-not-is_ready
returns-then-not-is_ready c =
    let b = c.self.inside in (
      λ ready.
          (let halved = c.if-not-is_ready.ensures.1 (to-halved b.posts.tiles b.posts.history.items (blocks_of b.kept.starts.items) b.kept.sums.items (c.args.k, c.args.i)
          (rw c.self.view_is ready)) in
          absurd (cc)),
      refl,
    )

pub first_of-requires : goal.first_of-requires
first_of-requires c =
    let b = c.self.inside in
    let halved = c.if-not-is_ready.ensures.0 (search rules) in
    (halved-size (blocks_of b.kept.starts.items) c.self.invariant.blocks (c.args.k, c.args.i) halved).1

pub note-requires-clause-aligned : goal.note-requires-clause-aligned
note-requires-clause-aligned c =
    let b = c.self.inside in
    let halved = c.if-not-is_ready.ensures.0 (search rules) in
    rw c.fold.ensures.starts (folded-aligned b.posts b.kept (c.args.k, c.args.i) c.self.invariant halved)

pub note-requires-clause-blocks : goal.note-requires-clause-blocks
note-requires-clause-blocks c =
    let b = c.self.inside in
    let halved = c.if-not-is_ready.ensures.0 (search rules) in
    rw c.fold.ensures.starts (folded-blocks b.posts b.kept (c.args.k, c.args.i) c.self.invariant halved)

pub note-requires-clause-tile : goal.note-requires-clause-tile
note-requires-clause-tile c =
    let b = c.self.inside in
    let halved = c.if-not-is_ready.ensures.0 (search rules) in
    let l = folded-low b.posts b.kept (c.args.k, c.args.i) c.self.invariant halved in
    let e = ap length c.fold.ensures.starts in
    let f = c.first_of.ensures in
    let len : length c.fold.new.self.starts.items ≡ vec_len c.fold.new.self.starts = search rules in
    omega (arith, l, e, f, len)

pub note-requires-clause-within : goal.note-requires-clause-within
note-requires-clause-within c =
    let b = c.self.inside in
    let halved = c.if-not-is_ready.ensures.0 (search rules) in
    rw (c.fold.ensures.starts, c.fold.ensures.leaves, c.self.invariant.leaves) (folded-within b.posts b.kept (c.args.k, c.args.i) c.self.invariant halved)

all : (c : After-note) → AreKept c.self.inside.posts c.note.new.self
    × IsFold (shown c.self.inside.posts c.self.inside.kept) (c.args.k, c.args.i) c.args.sum (shown c.self.inside.posts c.note.new.self)
all c =
    let b = c.self.inside in
    let f = c.fold.ensures in
    let halved = c.if-not-is_ready.ensures.0 (search rules) in
    kept-folded b.posts b.kept c.note.new.self c.fold.new.self.ready f.sums.0 c.args.sum (c.args.k, c.args.i) c.self.invariant halved
    (c.note.ensures.starts ∙ f.starts) (c.note.ensures.sums ∙ f.sums.1) (ap vec_capacity c.note.ensures.list ∙ ap vec_capacity f.list)
    f.tree f.leaves f.leaf f.others (rw (f.starts, c.first_of.ensures) at c.note.ensures.noted)

pub invariant_of-self : goal.invariant_of-self
invariant_of-self c = (all c).0

pub returns : goal.returns
returns c =
    let b = c.self.inside in
    let halved = c.if-not-is_ready.ensures.0 (search rules) in
    rw (← c.self.view_is)
    (to-ready b.posts.tiles b.posts.history.items (blocks_of b.kept.starts.items) b.kept.sums.items (c.args.k, c.args.i) halved, (all c).1)
