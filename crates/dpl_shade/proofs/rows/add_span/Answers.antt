use Rattle.std.proofs.Common.{arith, refl, w64}
use Rattle.std.specs.Prelude.{◌<ℤ◌}
use Rattle.std.proofs.lemmas.Int.{ints, to_z-of_z}
use Rattle.dpl_shade.proofs.GapLaws.{span-added, span-none}
use Rattle.std.proofs.lemmas.Result.{IfOk-from_err}
use Rattle.dpl_shade.proofs.rows.add_span.Goals as goal

pub returns-then-to-from : goal.returns-then-to-from
returns-then-to-from c = span-none c.args.spans.now.items c.args.from c.args.to (omega (arith, ints))

pub returns : goal.returns
returns c =
    let low : c.args.from <ℤ c.args.to = omega (arith, ints) in
    rw (c.in_ok-push.ensures.items, to_z-of_z w64 c.args.from c.ranges.from, to_z-of_z w64 c.args.to c.ranges.to)
    (span-added c.args.spans.now.items c.args.from c.args.to (record { from = c.args.from; to = c.args.to }) low refl refl)

pub returns-in_err-push : goal.returns-in_err-push
returns-in_err-push c = IfOk-from_err _ _ c.from_residual.ensures.0
