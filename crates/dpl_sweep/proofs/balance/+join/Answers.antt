use Rattle.std.proofs.Common.{◌^◌, rules, w32, arith, FitsSigned, sym}
use Rattle.std.proofs.lemmas.Int.{to_z-of_z}
use Rattle.std.proofs.lemmas.Result.{IfOk-weaker, IfOk-from_err}
use Rattle.dpl_sweep.proofs.BandLaws.{size-some, mended-below, mended-above}
use Rattle.dpl_sweep.proofs.balance.+join.Goals as goal

pub returns-in_ok-upper-in-Split : goal.returns-in_ok-upper-in-Split
returns-in_ok-upper-in-Split t c =
    let r : FitsSigned w32 c.in-Split.first = search rules in
    let upper = rw (to_z-of_z w32 c.args.row c.ranges.row) at c.in_ok-upper-in-Split.ensures in
    IfOk-weaker c.balanced.result _ _ (λ t is. mended-below c.args.rule _ _ c.args.below c.args.above _ t _ c.args.row c.in-Split.ensures upper is)
    (rw (to_z-of_z w32 c.in-Split.first r) at c.balanced.ensures)

pub returns-in_ok-lower-in-Split-take_apart : goal.returns-in_ok-lower-in-Split-take_apart
returns-in_ok-lower-in-Split-take_apart t c =
    let r : FitsSigned w32 c.in-Split-take_apart.last = search rules in
    let lower = rw (to_z-of_z w32 c.args.row c.ranges.row) at c.in_ok-lower-in-Split-take_apart.ensures in
    IfOk-weaker c.balanced-in-Split-take_apart.result _ _
    (λ t is. mended-above c.args.rule _ _ c.args.below c.args.above _ t _ c.args.row c.in-Split-take_apart.ensures lower is)
    (rw (to_z-of_z w32 c.in-Split-take_apart.last r) at c.balanced-in-Split-take_apart.ensures)

pub join-requires : goal.join-requires
join-requires t c =
    let split = c.in-Split.ensures in
    let size = split.size in
    let some = size-some c.in-Split.low in
    let (low, middle) = split.small (2 ^ 62) c.requires.below in
    (omega (arith, size, some, c.decreases), (middle, c.requires.above))

pub join-requires-in-Split-take_apart : goal.join-requires-in-Split-take_apart
join-requires-in-Split-take_apart t c =
    let split = c.in-Split-take_apart.ensures in
    let size = split.size in
    let some = size-some c.in-Split-take_apart.high in
    let (middle, high) = split.small (2 ^ 62) c.requires.above in
    (omega (arith, size, some, c.decreases), (c.requires.below, middle))

pub returns-in_err-upper-in-Split : goal.returns-in_err-upper-in-Split
returns-in_err-upper-in-Split t c = IfOk-from_err _ _ c.from_residual.ensures.0

pub returns-in_err-lower-in-Split-take_apart : goal.returns-in_err-lower-in-Split-take_apart
returns-in_err-lower-in-Split-take_apart t c = IfOk-from_err _ _ c.from_residual-in_err-lower-in-Split-take_apart.ensures.0

pub two-requires-clause-below : goal.two-requires-clause-below
two-requires-clause-below t c = rw c.in-Whole.ensures at c.requires.below

pub balanced-requires-clause-below : goal.balanced-requires-clause-below
balanced-requires-clause-below t c = (c.in-Split.ensures.small (2 ^ 62) c.requires.below).0

pub balanced-requires-clause-above : goal.balanced-requires-clause-above
balanced-requires-clause-above t c =
    c.in_ok-upper-in-Split.ensures.small (2 ^ 62) (c.in-Split.ensures.small (2 ^ 62) c.requires.below).1 c.requires.above

pub returns-in-Whole : goal.returns-in-Whole
returns-in-Whole t c = rw (sym c.in-Whole.ensures, to_z-of_z w32 c.args.row c.ranges.row) at c.two.ensures

pub two-requires-in-Whole-take_apart-clause-above : goal.two-requires-in-Whole-take_apart-clause-above
two-requires-in-Whole-take_apart-clause-above t c = rw c.in-Whole-take_apart.ensures at c.requires.above

pub balanced-requires-in-Split-take_apart-clause-below : goal.balanced-requires-in-Split-take_apart-clause-below
balanced-requires-in-Split-take_apart-clause-below t c =
    c.in_ok-lower-in-Split-take_apart.ensures.small (2 ^ 62) c.requires.below (c.in-Split-take_apart.ensures.small (2 ^ 62) c.requires.above).0

pub balanced-requires-in-Split-take_apart-clause-above : goal.balanced-requires-in-Split-take_apart-clause-above
balanced-requires-in-Split-take_apart-clause-above t c = (c.in-Split-take_apart.ensures.small (2 ^ 62) c.requires.above).1

pub returns-in-Whole-take_apart : goal.returns-in-Whole-take_apart
returns-in-Whole-take_apart t c =
    rw (sym c.in-Whole-take_apart.ensures, to_z-of_z w32 c.args.row c.ranges.row) at c.two-in-Whole-take_apart.ensures

pub returns : goal.returns
returns t c = rw (to_z-of_z w32 c.args.row c.ranges.row) at c.two-2.ensures
