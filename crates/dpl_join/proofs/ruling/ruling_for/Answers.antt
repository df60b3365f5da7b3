use Rattle.std.proofs.Common.{◌≡◌, length, arith, rules, w32, FitsSigned}
use Rattle.std.proofs.lemmas.Int.{to_z-of_z}
use Rattle.dpl_join.proofs.StripLaws.{lows-of, tops-of}
use Rattle.dpl_join.proofs.ruling.ruling_for.Goals as goal

pub returns-in-Some-clause-low : goal.returns-in-Some-clause-low
returns-in-Some-clause-low c =
    let first : FitsSigned w32 c.rows_of-rows.result.first = search rules in
    rw (to_z-of_z w32 _ first) (lows-of _ _ c.args.items.now c.rows_of-rows.ensures)

pub returns-in-Some-clause-within : goal.returns-in-Some-clause-within
returns-in-Some-clause-within c =
    let first : FitsSigned w32 c.rows_of-rows.result.first = search rules in
    let last : FitsSigned w32 c.rows_of-rows.result.last = search rules in
    let below = simp (to_z-of_z w32 _ first, to_z-of_z w32 _ last) at c.count_up_to-count.ensures in
    rw (to_z-of_z w32 _ first)
    (tops-of _ _ c.loop-shift.shift c.args.rule _ _ c.args.items.now c.rows_of-rows.ensures below (rw c.in-Some.is at c.in_ok-rooms.ensures))

pub returns-clause-low : goal.returns-clause-low
returns-clause-low c =
    let first : FitsSigned w32 c.rows_of-rows.result.first = search rules in
    rw (to_z-of_z w32 _ first) (lows-of _ _ c.args.items.now c.rows_of-rows.ensures)

pub returns-clause-within : goal.returns-clause-within
returns-clause-within c =
    let first : FitsSigned w32 c.rows_of-rows.result.first = search rules in
    let last : FitsSigned w32 c.rows_of-rows.result.last = search rules in
    let below = simp (to_z-of_z w32 _ first, to_z-of_z w32 _ last) at c.count_up_to-count-2.ensures in
    let size : length c.in_ok-rooms-2.rooms.items ≡ c.count_up_to-count-2.result = omega (arith, c.in_ok-rooms-2.rooms.ok.0, c.in_ok-rooms-2.ensures.len) in
    rw (to_z-of_z w32 _ first) (tops-of _ _ 34 c.args.rule _ _ c.args.items.now c.rows_of-rows.ensures below size)
