use Rattle.std.proofs.Common.{arith}
use Rattle.dpl_board.specs.Starts.{blocks_of}
use Rattle.dpl_board.proofs.Noting.{halved-first, halved-size, middle-within}
use Rattle.dpl_board.proofs.kept.Kept.fold.Goals as goal

pub first_of-first-requires : goal.first_of-first-requires
first_of-first-requires c = (halved-size (blocks_of c.args.self.now.starts.items) c.requires.blocks c.args.block c.requires.halved).1

pub middle_of-middle-requires : goal.middle_of-middle-requires
middle_of-middle-requires c = halved-size (blocks_of c.args.self.now.starts.items) c.requires.blocks c.args.block c.requires.halved

pub index_mut-requires-2 : goal.index_mut-requires-2
index_mut-requires-2 c =
    let f = halved-first (blocks_of c.args.self.now.starts.items) c.requires.blocks c.args.block c.requires.halved in
    let m = middle-within (blocks_of c.args.self.now.starts.items) c.args.self.now.ready.leaves c.args.block c.requires.within c.requires.halved in
    let e = c.first_of-first.ensures in
    let s = c.requires.starts in
    omega (arith, f, m, e, s)

pub index_mut-requires-4 : goal.index_mut-requires-4
index_mut-requires-4 c =
    let f = halved-first (blocks_of c.args.self.now.starts.items) c.requires.blocks c.args.block c.requires.halved in
    let m = middle-within (blocks_of c.args.self.now.starts.items) c.args.self.now.ready.leaves c.args.block c.requires.within c.requires.halved in
    let e = c.first_of-first.ensures in
    let s = c.requires.sums in
    omega (arith, f, m, e, s)
