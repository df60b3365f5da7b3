use Rattle.std.proofs.Common.{◌≤◌, length, drop, arith}
use Rattle.std.proofs.lemmas.List.{length-drop}
use Rattle.dpl_spec_split.specs.Squares.{Covers}
use Rattle.dpl_spec_split.specs.Zones.{transposed}
use Rattle.dpl_slabs.proofs.BlockLaws.{blocks-none, blocks-here, blocks-same, blocks-all}
use Rattle.std.proofs.lemmas.Result.{IfOk-from_err}
use Rattle.dpl_slabs.proofs.blocks.slabs_of_blocks.Goals as goal

pub loop-start-init : goal.loop-start-init
loop-start-init g c =
    record {
      blocks = rw c.in_ok-slabs.ensures.items (blocks-none c.args.rects.now c.requires.rise c.requires.within);
      made = λ i d l later. c.in_ok-made.ensures i d l;
    }

pub add_block_at-requires-clause-blocks : goal.add_block_at-requires-clause-blocks
add_block_at-requires-clause-blocks g c = blocks-here (transposed (Covers c.args.rects.now)) _ _ c.loop-start.invariant.blocks

pub loop-start-preserved : goal.loop-start-preserved
loop-start-preserved g c =
    record {
      blocks = blocks-same (transposed (Covers c.args.rects.now)) _ _ _ _ c.loop-start.invariant.blocks c.in_ok-start.ensures.blocks;
      made = c.in_ok-start.ensures.made;
    }

pub returns : goal.returns
returns g c =
    let len = length-drop c.loop-start.start c.loop-start.rects in
    let none : length (drop c.loop-start.start c.loop-start.rects) ≤ 0 = grind arith in
    blocks-all (transposed (Covers c.args.rects.now)) _ _ none c.loop-start.invariant.blocks

pub returns-in_err-made : goal.returns-in_err-made
returns-in_err-made g c = IfOk-from_err _ _ c.from_residual.ensures.0

pub returns-in_err-slabs : goal.returns-in_err-slabs
returns-in_err-slabs g c = IfOk-from_err _ _ c.from_residual-in_err-slabs.ensures.0

pub returns-in_err-start : goal.returns-in_err-start
returns-in_err-start g c = IfOk-from_err _ _ c.from_residual-in_err-start.ensures.0
