use Rattle.std.proofs.Common.{◌≡◌, length, arith}
use Rattle.std.proofs.lemmas.Result.{IfOk-weaker, IfOk-from_err}
use Rattle.dpl_spec_split.specs.Squares.{Covers}
use Rattle.dpl_spec_split.specs.Zones.{transposed}
use Rattle.dpl_slabs.specs.Cells.{transposed_rects}
use Rattle.dpl_slabs.proofs.SetLaws.{covers-transposed, transposed-one, transposed-within, slabs-of-same}
use Rattle.dpl_slabs.proofs.StripLaws.{sorted-within, sorted-slabs}
use Rattle.dpl_slabs.proofs.slabs.Slabs.columns_in.Goals as goal

pub returns-clause-slabs : goal.returns-clause-slabs
returns-clause-slabs g c =
    let same = rw (c.in_ok-transposed.ensures, c.rects.ensures.value) at c.sort_by_corner.ensures.same in
    IfOk-weaker c.slabs_by_rows.result _ _
    (λ v is. slabs-of-same (Covers (transposed_rects c.args.self.now)) (transposed (Covers c.args.self.now)) v.items (covers-transposed c.args.self.now)
    (sorted-slabs (transposed_rects c.args.self.now) _ v.items same is)) (rw c.deref.ensures.value at c.slabs_by_rows.ensures.slabs)

pub slabs_by_rows-requires-clause-within : goal.slabs_by_rows-requires-clause-within
slabs_by_rows-requires-clause-within g c =
    let same = rw (c.in_ok-transposed.ensures, c.rects.ensures.value) at c.sort_by_corner.ensures.same in
    rw c.deref.ensures.value (sorted-within (transposed_rects c.args.self.now) _ same (transposed-within 1000000000 c.args.self.now c.rects.ensures.within))

pub returns-then-len-eq1-clause-slabs : goal.returns-then-len-eq1-clause-slabs
returns-then-len-eq1-clause-slabs g c =
    let is = rw c.rects.ensures.value at c.in_ok-transposed.ensures in
    let one : length c.in_ok-transposed.transposed.items ≡ 1 = omega arith in
    rw is (transposed-one c.args.self.now c.rects.ensures.canonical (rw is at one))

pub returns-then-len-eq1-clause-within : goal.returns-then-len-eq1-clause-within
returns-then-len-eq1-clause-within g c =
    let is = rw c.rects.ensures.value at c.in_ok-transposed.ensures in
    rw is (transposed-within 1000000000 c.args.self.now c.rects.ensures.within)

pub returns-in_err-transposed-clause-slabs : goal.returns-in_err-transposed-clause-slabs
returns-in_err-transposed-clause-slabs g c = IfOk-from_err _ _ c.from_residual.ensures.0

pub returns-in_err-transposed-clause-within : goal.returns-in_err-transposed-clause-within
returns-in_err-transposed-clause-within g c = IfOk-from_err _ _ c.from_residual.ensures.0
