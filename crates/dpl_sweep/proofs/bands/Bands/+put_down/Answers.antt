use Rattle.std.proofs.Common.{◌^◌, rules, w32, arith, FitsSigned}
use Rattle.std.proofs.lemmas.Int.{to_z-of_z}
use Rattle.dpl_sweep.proofs.BandLaws.{size-some}
use Rattle.dpl_sweep.proofs.CloseLaws.{put-down-run, put-down-two}
use Rattle.std.proofs.lemmas.Result.{IfOk-from_err}
use Rattle.dpl_sweep.proofs.bands.Bands.+put_down.Goals as goal

pub put_down-requires : goal.put_down-requires
put_down-requires t c =
    let r : FitsSigned w32 c.in-Split.row = search rules in
    let parts = c.in-Split.ensures in
    let (x, known) = c.requires.rows in
    let (l, m, rb, ra) = parts.rows c.args.low c.args.high x known in
    let (sb, sa) = parts.small (2 ^ 62) c.requires.small in
    let size = parts.size in
    let some = size-some c.in-Split.above in
    let a = to_z-of_z w32 c.args.low c.ranges.low in
    let b = to_z-of_z w32 c.in-Split.row r in
    (omega (arith, size, some, c.decreases), (rw (a, b) l, (sb, (x, rw (a, b) rb))))

pub put_down-requires-in-Split : goal.put_down-requires-in-Split
put_down-requires-in-Split t c =
    let r : FitsSigned w32 c.in-Split.row = search rules in
    let parts = c.in-Split.ensures in
    let (x, known) = c.requires.rows in
    let (l, m, rb, ra) = parts.rows c.args.low c.args.high x known in
    let (sb, sa) = parts.small (2 ^ 62) c.requires.small in
    let size = parts.size in
    let some = size-some c.in-Split.below in
    let b = to_z-of_z w32 c.in-Split.row r in
    let d = to_z-of_z w32 c.args.high c.ranges.high in
    (omega (arith, size, some, c.decreases), (rw (b, d) m, (sa, (x, rw (b, d) ra))))

pub returns-in_ok-put_run-in-Whole : goal.returns-in_ok-put_run-in-Whole
returns-in_ok-put_run-in-Whole t c =
    put-down-run _ _ c.args.self _ _ _ c.requires.order c.in-Whole.ensures
    (rw (to_z-of_z w32 c.args.low c.ranges.low, to_z-of_z w32 c.args.high c.ranges.high) at c.in_ok-put_run-in-Whole.ensures)

pub returns-in_ok-put_down-in-Split-2 : goal.returns-in_ok-put_down-in-Split-2
returns-in_ok-put_down-in-Split-2 t c =
    let r : FitsSigned w32 c.in-Split.row = search rules in
    let parts = c.in-Split.ensures in
    let (x, known) = c.requires.rows in
    let (l, m, rb, ra) = parts.rows c.args.low c.args.high x known in
    let below = rw (to_z-of_z w32 c.args.low c.ranges.low, to_z-of_z w32 c.in-Split.row r) at c.in_ok-put_down-in-Split.ensures in
    let above = rw (to_z-of_z w32 c.args.high c.ranges.high, to_z-of_z w32 c.in-Split.row r) at c.in_ok-put_down-in-Split-2.ensures in
    put-down-two c.args.low c.in-Split.row c.args.high c.args.self _ _ _ _ _ l m parts below above

pub returns-in_err-put_run-in-Whole : goal.returns-in_err-put_run-in-Whole
returns-in_err-put_run-in-Whole t c = IfOk-from_err _ _ c.from_residual.ensures.0

pub returns-in_err-put_down-in-Split : goal.returns-in_err-put_down-in-Split
returns-in_err-put_down-in-Split t c = IfOk-from_err _ _ c.from_residual-in_err-put_down-in-Split.ensures.0

pub returns-in_err-put_down-in-Split-2 : goal.returns-in_err-put_down-in-Split-2
returns-in_err-put_down-in-Split-2 t c = IfOk-from_err _ _ c.from_residual-in_err-put_down-in-Split-2.ensures.0
