-- A pass and the deque that it is of.
use Rattle.std.specs.declared.alloc.Global.{Global}
use Rattle.atomic_blocks.specs.Lent.{RowsId}
use Rattle.crossbeam_deque.specs.Handles.{IsPassOf, Pass}
use Rattle.dpl_deal.specs.declared.view.PassView.{PassView}
use Rattle.dpl_deal.specs.declared.view.DequeItem.{DequeItem}

-- the deque of a pass
abbrev pub pass_deque : Pass DequeItem PassView Global → RowsId × Global
pass_deque p = (p.rows, p.heap)

-- the pass carries no item
abbrev pub IsAtRest : Pass DequeItem PassView Global → Type 0
IsAtRest p = IsPassOf (pass_deque p) p
