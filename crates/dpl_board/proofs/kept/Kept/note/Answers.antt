use Rattle.std.proofs.Common.{Some}
use Rattle.dpl_board.specs.Blocks.{IsWholeAt}
use Rattle.dpl_board.specs.Starts.{blocks_of}
use Rattle.dpl_board.proofs.Noting.{halved-size}
use Rattle.dpl_board.proofs.kept.Kept.note.Goals as goal

pub middle_of-requires : goal.middle_of-requires
middle_of-requires c =
    let found : IsWholeAt (blocks_of c.args.self.now.starts.items) c.args.tile (Some c.in-Some.block) = rw c.deref.ensures.value at c.in-Some.ensures in
    halved-size (blocks_of c.args.self.now.starts.items) c.requires.blocks c.in-Some.block found.0

pub returns-in-Some-clause-noted : goal.returns-in-Some-clause-noted
returns-in-Some-clause-noted c = (
  Some c.in-Some.block,
  rw c.deref.ensures.value at c.in-Some.ensures,
  record {
    tree = c.set.ensures.tree;
    leaves = c.set.ensures.leaves;
    leaf = rw c.middle_of.ensures at c.set.ensures.leaf;
    others = rw c.middle_of.ensures at c.set.ensures.others;
  },
)
