use Rattle.dpl_spec_split.specs.Squares.{Covers}
use Rattle.dpl_sweep.specs.declared.edge.Rule.TheVariants.{Minus}
use Rattle.dpl_slabs.specs.Cells.{Chosen}
use Rattle.dpl_slabs.proofs.SetLaws.{told-minus, slabs-of-same}
use Rattle.std.proofs.lemmas.Result.{IfOk-from_err}
use Rattle.dpl_slabs.proofs.slabs.Slabs.minus.Goals as goal

pub returns : goal.returns
returns c =
    let s = rw (c.rects.ensures.value, c.rects-2.ensures.value) at c.in_ok-rects.ensures.slabs in
    rw c.of_canonical.ensures (slabs-of-same (Chosen Minus c.args.self.now c.args.other.now) (λ p. Covers c.args.self.now p
    × ¬ Covers c.args.other.now p) _ (told-minus c.args.self.now c.args.other.now) s)

pub returns-in_err-rects : goal.returns-in_err-rects
returns-in_err-rects c = IfOk-from_err _ _ c.from_residual.ensures.0
