use Rattle.std.proofs.Common.{◌<◌, ◌-◌, length, rules, w32, arith, FitsSigned}
use Rattle.std.specs.Prelude.{◌≤ℤ◌}
use Rattle.std.proofs.lemmas.Int.{ints, to_z-of_z}
use Rattle.dpl_sweep.specs.Spans.{span_at}
use Rattle.dpl_sweep.proofs.SpanLaws.{below-all}
use Rattle.dpl_sweep.proofs.spans.first_above.Goals as goal

pub returns : goal.returns
returns c j j_k j_in =
    let there : c.partition_point-k.result - 1 < length c.args.spans.now = grind arith in
    let h : FitsSigned w32 (span_at c.args.spans.now (c.partition_point-k.result - 1)).high = search rules in
    let ends : (span_at c.args.spans.now (c.partition_point-k.result - 1)).high ≤ℤ c.args.row = (let g = rw
    (to_z-of_z w32 _ h, to_z-of_z w32 c.args.row c.ranges.row) at c.if-spans-k.false in grind (arith, ints, g)) in
    below-all c.args.spans.now (c.partition_point-k.result - 1) c.args.row c.requires there ends j (omega (arith, j_k))
