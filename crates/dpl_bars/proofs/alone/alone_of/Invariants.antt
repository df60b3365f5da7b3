use Rattle.std.proofs.Common.{◌≡◌, ℕ, ◌≤◌, ◌<◌, length, get_or, take}
use Rattle.dpl_spec_split.specs.declared.Rect.{Rect}
use Rattle.dpl_bars.specs.Alone.{ReachTo, AreAlone}
use Rattle.dpl_bars.proofs.alone.alone_of.Given as goal

abbrev pub invariant-loop-i : goal.invariant-loop-i
invariant-loop-i l =
    AreAlone (take l.i l.fn.bars.items) l.beside l.fn.others.items l.others.items (take l.kept l.alone.items)
    × ReachTo l.near.items l.prefix.passed l.prefix.reach
    × (l.kept ≤ l.i)
    × (length l.alone.items ≡ length l.fn.bars.items)
    × ((k : ℕ) (d : Rect) → l.i ≤ k → k < length l.fn.bars.items → get_or l.alone.items k d ≡ get_or l.fn.bars.items k d)
