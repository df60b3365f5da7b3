use Rattle.std.proofs.Common.{inl, inr, refl}
use Rattle.dpl_tile.proofs.TileLaws.{bounds-in_first, first-has_bounds}
use Rattle.dpl_tile.proofs.count.is_coarse.Goals as goal

pub returns-then-is_one_cell-clause-coarse : goal.returns-then-is_one_cell-clause-coarse
returns-then-is_one_cell-clause-coarse c = (
  λ h. inr (bounds-in_first c.args.grid.now c.args.parts.now c.args.bounds.now c.requires.bounds
      (c.if-is_one_cell.ensures.one.0 refl)),
  λ h. refl,
)

pub returns-clause-coarse : goal.returns-clause-coarse
returns-clause-coarse c = (
  λ h. inl (c.has_few_pairs.ensures.0 h),
  λ h. elim h [
    | inl l ↦ c.has_few_pairs.ensures.1 l
    | inr all ↦ absurd (let t = c.if-is_one_cell.ensures.one.1
        (first-has_bounds c.args.grid.now c.args.parts.now c.args.bounds.now c.requires.bounds all) in cc)
  ],
)
