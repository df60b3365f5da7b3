use Rattle.dpl_slabs.proofs.BlockLaws.{adds-block}
use Rattle.std.proofs.lemmas.Result.{IfOk-from_err}
use Rattle.dpl_slabs.proofs.blocks.add_block.Goals as goal

pub returns-in-Some-clause-adds : goal.returns-in-Some-clause-adds
returns-in-Some-clause-adds g c =
    rw (c.in_ok-extend_from_slice.ensures.items, c.deref.ensures.value)
    (adds-block c.args.slabs.now.items c.in-Some.made.slabs.items c.args.block.now c.requires.scattered c.requires.left (rw c.in-Some.is at c.requires.made))

pub returns-clause-adds : goal.returns-clause-adds
returns-clause-adds g c =
    rw (c.in_ok-extend_from_slice-2.ensures.items, c.deref-2.ensures.value)
    (adds-block c.args.slabs.now.items c.in_ok-more.more.items c.args.block.now c.requires.scattered c.requires.left c.in_ok-more.ensures.slabs)

pub returns-in_err-extend_from_slice-clause-adds : goal.returns-in_err-extend_from_slice-clause-adds
returns-in_err-extend_from_slice-clause-adds g c = IfOk-from_err _ _ c.from_residual.ensures.0

pub returns-in_err-more-clause-adds : goal.returns-in_err-more-clause-adds
returns-in_err-more-clause-adds g c = IfOk-from_err _ _ c.from_residual-in_err-more.ensures.0

pub returns-in_err-extend_from_slice-2-clause-adds : goal.returns-in_err-extend_from_slice-2-clause-adds
returns-in_err-extend_from_slice-2-clause-adds g c = IfOk-from_err _ _ c.from_residual-in_err-extend_from_slice-2.ensures.0
