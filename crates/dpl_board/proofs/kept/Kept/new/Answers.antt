use Rattle.std.proofs.lemmas.Result.{IfOk-from_err}
use Rattle.dpl_board.proofs.Starts.{aligned-none, blocks-none}
use Rattle.dpl_board.proofs.kept.Kept.new.Goals as goal

pub returns-clause-blocks : goal.returns-clause-blocks
returns-clause-blocks c = blocks-none 0 c.in_ok-bare_starts.field-0.items c.in_ok-bare_starts.ensures.bare

pub returns-clause-starts : goal.returns-clause-starts
returns-clause-starts c = c.in_ok-bare_starts.ensures.len

pub returns-clause-aligned : goal.returns-clause-aligned
returns-clause-aligned c = aligned-none c.in_ok-bare_starts.field-0.items c.in_ok-bare_starts.ensures.bare

pub returns-clause-sums : goal.returns-clause-sums
returns-clause-sums c = c.in_ok-bare_sums.ensures

pub returns-clause-leaves : goal.returns-clause-leaves
returns-clause-leaves c = c.in_ok-new.ensures.leaves

pub returns-clause-tree : goal.returns-clause-tree
returns-clause-tree c = c.in_ok-new.ensures.tree

pub returns-clause-none : goal.returns-clause-none
returns-clause-none c = c.in_ok-new.ensures.none

pub returns-clause-room : goal.returns-clause-room
returns-clause-room c = c.in_ok-with_capacity.ensures.capacity

pub returns-in_err-bare_starts-clause-starts : goal.returns-in_err-bare_starts-clause-starts
returns-in_err-bare_starts-clause-starts c = IfOk-from_err _ _ c.from_residual.ensures.0

pub returns-in_err-bare_starts-clause-aligned : goal.returns-in_err-bare_starts-clause-aligned
returns-in_err-bare_starts-clause-aligned c = IfOk-from_err _ _ c.from_residual.ensures.0

pub returns-in_err-bare_starts-clause-blocks : goal.returns-in_err-bare_starts-clause-blocks
returns-in_err-bare_starts-clause-blocks c = IfOk-from_err _ _ c.from_residual.ensures.0

pub returns-in_err-bare_starts-clause-sums : goal.returns-in_err-bare_starts-clause-sums
returns-in_err-bare_starts-clause-sums c = IfOk-from_err _ _ c.from_residual.ensures.0

pub returns-in_err-bare_starts-clause-leaves : goal.returns-in_err-bare_starts-clause-leaves
returns-in_err-bare_starts-clause-leaves c = IfOk-from_err _ _ c.from_residual.ensures.0

pub returns-in_err-bare_starts-clause-tree : goal.returns-in_err-bare_starts-clause-tree
returns-in_err-bare_starts-clause-tree c = IfOk-from_err _ _ c.from_residual.ensures.0

pub returns-in_err-bare_starts-clause-none : goal.returns-in_err-bare_starts-clause-none
returns-in_err-bare_starts-clause-none c = IfOk-from_err _ _ c.from_residual.ensures.0

pub returns-in_err-bare_starts-clause-room : goal.returns-in_err-bare_starts-clause-room
returns-in_err-bare_starts-clause-room c = IfOk-from_err _ _ c.from_residual.ensures.0

pub returns-in_err-bare_sums-clause-starts : goal.returns-in_err-bare_sums-clause-starts
returns-in_err-bare_sums-clause-starts c = IfOk-from_err _ _ c.from_residual-in_err-bare_sums.ensures.0

pub returns-in_err-bare_sums-clause-aligned : goal.returns-in_err-bare_sums-clause-aligned
returns-in_err-bare_sums-clause-aligned c = IfOk-from_err _ _ c.from_residual-in_err-bare_sums.ensures.0

pub returns-in_err-bare_sums-clause-blocks : goal.returns-in_err-bare_sums-clause-blocks
returns-in_err-bare_sums-clause-blocks c = IfOk-from_err _ _ c.from_residual-in_err-bare_sums.ensures.0

pub returns-in_err-bare_sums-clause-sums : goal.returns-in_err-bare_sums-clause-sums
returns-in_err-bare_sums-clause-sums c = IfOk-from_err _ _ c.from_residual-in_err-bare_sums.ensures.0

pub returns-in_err-bare_sums-clause-leaves : goal.returns-in_err-bare_sums-clause-leaves
returns-in_err-bare_sums-clause-leaves c = IfOk-from_err _ _ c.from_residual-in_err-bare_sums.ensures.0

pub returns-in_err-bare_sums-clause-tree : goal.returns-in_err-bare_sums-clause-tree
returns-in_err-bare_sums-clause-tree c = IfOk-from_err _ _ c.from_residual-in_err-bare_sums.ensures.0

pub returns-in_err-bare_sums-clause-none : goal.returns-in_err-bare_sums-clause-none
returns-in_err-bare_sums-clause-none c = IfOk-from_err _ _ c.from_residual-in_err-bare_sums.ensures.0

pub returns-in_err-bare_sums-clause-room : goal.returns-in_err-bare_sums-clause-room
returns-in_err-bare_sums-clause-room c = IfOk-from_err _ _ c.from_residual-in_err-bare_sums.ensures.0

pub returns-in_err-new-clause-starts : goal.returns-in_err-new-clause-starts
returns-in_err-new-clause-starts c = IfOk-from_err _ _ c.from_residual-in_err-new.ensures.0

pub returns-in_err-new-clause-aligned : goal.returns-in_err-new-clause-aligned
returns-in_err-new-clause-aligned c = IfOk-from_err _ _ c.from_residual-in_err-new.ensures.0

pub returns-in_err-new-clause-blocks : goal.returns-in_err-new-clause-blocks
returns-in_err-new-clause-blocks c = IfOk-from_err _ _ c.from_residual-in_err-new.ensures.0

pub returns-in_err-new-clause-sums : goal.returns-in_err-new-clause-sums
returns-in_err-new-clause-sums c = IfOk-from_err _ _ c.from_residual-in_err-new.ensures.0

pub returns-in_err-new-clause-leaves : goal.returns-in_err-new-clause-leaves
returns-in_err-new-clause-leaves c = IfOk-from_err _ _ c.from_residual-in_err-new.ensures.0

pub returns-in_err-new-clause-tree : goal.returns-in_err-new-clause-tree
returns-in_err-new-clause-tree c = IfOk-from_err _ _ c.from_residual-in_err-new.ensures.0

pub returns-in_err-new-clause-none : goal.returns-in_err-new-clause-none
returns-in_err-new-clause-none c = IfOk-from_err _ _ c.from_residual-in_err-new.ensures.0

pub returns-in_err-new-clause-room : goal.returns-in_err-new-clause-room
returns-in_err-new-clause-room c = IfOk-from_err _ _ c.from_residual-in_err-new.ensures.0

pub returns-in_err-with_capacity-clause-starts : goal.returns-in_err-with_capacity-clause-starts
returns-in_err-with_capacity-clause-starts c = IfOk-from_err _ _ c.from_residual-in_err-with_capacity.ensures.0

pub returns-in_err-with_capacity-clause-aligned : goal.returns-in_err-with_capacity-clause-aligned
returns-in_err-with_capacity-clause-aligned c = IfOk-from_err _ _ c.from_residual-in_err-with_capacity.ensures.0

pub returns-in_err-with_capacity-clause-blocks : goal.returns-in_err-with_capacity-clause-blocks
returns-in_err-with_capacity-clause-blocks c = IfOk-from_err _ _ c.from_residual-in_err-with_capacity.ensures.0

pub returns-in_err-with_capacity-clause-sums : goal.returns-in_err-with_capacity-clause-sums
returns-in_err-with_capacity-clause-sums c = IfOk-from_err _ _ c.from_residual-in_err-with_capacity.ensures.0

pub returns-in_err-with_capacity-clause-leaves : goal.returns-in_err-with_capacity-clause-leaves
returns-in_err-with_capacity-clause-leaves c = IfOk-from_err _ _ c.from_residual-in_err-with_capacity.ensures.0

pub returns-in_err-with_capacity-clause-tree : goal.returns-in_err-with_capacity-clause-tree
returns-in_err-with_capacity-clause-tree c = IfOk-from_err _ _ c.from_residual-in_err-with_capacity.ensures.0

pub returns-in_err-with_capacity-clause-none : goal.returns-in_err-with_capacity-clause-none
returns-in_err-with_capacity-clause-none c = IfOk-from_err _ _ c.from_residual-in_err-with_capacity.ensures.0

pub returns-in_err-with_capacity-clause-room : goal.returns-in_err-with_capacity-clause-room
returns-in_err-with_capacity-clause-room c = IfOk-from_err _ _ c.from_residual-in_err-with_capacity.ensures.0
