use Rattle.std.proofs.Common.{arith}
use Rattle.std.specs.Prelude.{[], List}
use Rattle.std.proofs.lemmas.Result.{IfOk-weaker, IfOk-from_err}
use Rattle.dpl_spec_split.specs.declared.Rect.{Rect}
use Rattle.dpl_spec_split.specs.Squares.{Covers}
use Rattle.dpl_spec_split.specs.Slabs.{AreSlabsOf}
use Rattle.dpl_spec_split.specs.Loops.{farthest}
use Rattle.dpl_slabs.specs.Slices.{Without}
use Rattle.dpl_slabs.proofs.SetLaws.{without-none, slabs-of-same}
use Rattle.dpl_slabs.proofs.RowLaws.{within-slabs}
use Rattle.dpl_slabs.proofs.strips.slabs_of_strip.Goals as goal

slabs-without-none : (strip slabs : List Rect) → AreSlabsOf (Without strip []) slabs → AreSlabsOf (Covers strip) slabs
slabs-without-none strip slabs is =
    slabs-of-same (Without strip []) (Covers strip) slabs (λ p. (let same = without-none strip [] p (omega arith) in (same.1, same.0))) is

pub returns-then-is_row-clause-within : goal.returns-then-is_row-clause-within
returns-then-is_row-clause-within g c =
    IfOk-weaker c.slabs_of_row.result _ _ (λ v is. within-slabs farthest c.args.strip.now v.items c.requires.within is) c.slabs_of_row.ensures.slabs

pub returns-in-Some-clause-slabs : goal.returns-in-Some-clause-slabs
returns-in-Some-clause-slabs g c =
    let strip = c.args.strip.now in
    let pieces = rw c.in-Some.is at c.in_ok-pieces.ensures in
    slabs-without-none strip _ (slabs-of-same (Covers c.in-Some.pieces.items) (Without strip []) _ pieces.covers c.slabs_of.ensures)

pub returns-in-Some-clause-within : goal.returns-in-Some-clause-within
returns-in-Some-clause-within g c = within-slabs farthest c.args.strip.now _ c.requires.within (returns-in-Some-clause-slabs g c)

pub returns-in-Some-2-clause-within : goal.returns-in-Some-2-clause-within
returns-in-Some-2-clause-within g c = within-slabs farthest c.args.strip.now _ c.requires.within (rw c.in-Some-2.is at c.in_ok-slabs.ensures)

pub returns-clause-slabs : goal.returns-clause-slabs
returns-clause-slabs g c =
    IfOk-weaker c.combine_without.result _ _ (λ v is. slabs-without-none c.args.strip.now v.items is) c.combine_without.ensures.slabs

pub returns-in_err-slabs-clause-slabs : goal.returns-in_err-slabs-clause-slabs
returns-in_err-slabs-clause-slabs g c = IfOk-from_err _ _ c.from_residual-in_err-slabs.ensures.0

pub returns-in_err-slabs-clause-within : goal.returns-in_err-slabs-clause-within
returns-in_err-slabs-clause-within g c = IfOk-from_err _ _ c.from_residual-in_err-slabs.ensures.0

pub returns-in_err-pieces-clause-slabs : goal.returns-in_err-pieces-clause-slabs
returns-in_err-pieces-clause-slabs g c = IfOk-from_err _ _ c.from_residual.ensures.0

pub returns-in_err-pieces-clause-within : goal.returns-in_err-pieces-clause-within
returns-in_err-pieces-clause-within g c = IfOk-from_err _ _ c.from_residual.ensures.0
