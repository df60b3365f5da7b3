use Rattle.dpl_slabs.proofs.BlockLaws.{block-done, blocks-left}
use Rattle.std.proofs.lemmas.Result.{IfOk-from_err}
use Rattle.dpl_slabs.proofs.blocks.add_block_at.Goals as goal

pub returns-clause-blocks : goal.returns-clause-blocks
returns-clause-blocks g c =
    let first = c.split_at_mut-rest.ensures in
    let second = c.split_at_mut-block.ensures in
    block-done _ _ _ _ _ _ _ _ _ _ _ first.front_len second.front_len c.in_ok-add_block.ensures.len first.back second.front second.back
    c.strip_length-count.ensures.below c.in_ok-add_block.ensures.adds c.requires.blocks

pub returns-clause-made : goal.returns-clause-made
returns-clause-made g c =
    let first = c.split_at_mut-rest.ensures in
    let second = c.split_at_mut-block.ensures in
    blocks-left _ _ _ _ _ _ _ _ _ _ first.front_len second.front_len c.in_ok-add_block.ensures.len first.back second.back c.taken_block-found.ensures.others c.requires.made

pub returns-in_err-add_block-clause-more : goal.returns-in_err-add_block-clause-more
returns-in_err-add_block-clause-more g c = IfOk-from_err _ _ c.from_residual.ensures.0

pub returns-in_err-add_block-clause-within : goal.returns-in_err-add_block-clause-within
returns-in_err-add_block-clause-within g c = IfOk-from_err _ _ c.from_residual.ensures.0

pub returns-in_err-add_block-clause-made : goal.returns-in_err-add_block-clause-made
returns-in_err-add_block-clause-made g c = IfOk-from_err _ _ c.from_residual.ensures.0

pub returns-in_err-add_block-clause-blocks : goal.returns-in_err-add_block-clause-blocks
returns-in_err-add_block-clause-blocks g c = IfOk-from_err _ _ c.from_residual.ensures.0
