use Rattle.std.proofs.Common.{◌<◌, length, get_or, arith, rules, w64}
use Rattle.std.specs.Prelude.{pos}
use Rattle.std.specs.Int.RustNames.{FitsSigned}
use Rattle.std.proofs.lemmas.Int.{to_z-of_z}
use Rattle.std.proofs.lemmas.List.{get_or_default}
use Rattle.dpl_shade.specs.declared.rows.Span.{Span}
use Rattle.dpl_shade.proofs.GapLaws.{walked-more, walked-all}
use Rattle.dpl_shade.proofs.rows.gaps.Goals as goal

abbrev zero_span : Span
zero_span = record { from = pos 0; to = pos 0 }

pub loop-s-preserved : goal.loop-s-preserved
loop-s-preserved c =
    let s : Span = get_or c.args.spans.now c.loop-s.s-index zero_span in
    let s_in : c.loop-s.s-index < length c.args.spans.now = omega arith in
    let from_fits : FitsSigned w64 (get_or c.args.spans.now c.loop-s.s-index zero_span).from = search rules in
    let to_fits : FitsSigned w64 (get_or c.args.spans.now c.loop-s.s-index zero_span).to = search rules in
    let end_fits : FitsSigned w64 c.lower-end.result = search rules in
    let next_fits : FitsSigned w64 c.higher-at.result = search rules in
    let low = to_z-of_z w64 c.args.low c.ranges.low in
    let high = to_z-of_z w64 c.args.high c.ranges.high in
    let from_is = to_z-of_z w64 _ from_fits in
    let to_is = to_z-of_z w64 _ to_fits in
    let end_is = to_z-of_z w64 _ end_fits in
    let next_is = to_z-of_z w64 _ next_fits in
    let at_is = c.loop-s.at-is in
    rw (low, high, next_is)
    (walked-more c.args.low c.args.high c.args.spans.now c.requires.tall c.requires.rise c.loop-s.s-index c.loop-s.at c.loop-s.free.items
    (simp (low, high, at_is) at c.loop-s.invariant) s s_in (get_or_default _ _ _ _ s_in) c.lower-end.result c.higher-at.result c.add_span.new.spans.items
    (simp (from_is, high) at c.lower-end.ensures) (simp (at_is, to_is) at c.higher-at.ensures) (simp (at_is, end_is) at c.in_ok-add_span.ensures))

pub returns : goal.returns
returns c =
    let low = to_z-of_z w64 c.args.low c.ranges.low in
    let high = to_z-of_z w64 c.args.high c.ranges.high in
    let at_is = c.loop-s.at-is in
    walked-all c.args.low c.args.high c.args.spans.now c.requires.tall c.requires.rise c.loop-s.s-index c.loop-s.at c.loop-s.free.items
    (simp (low, high, at_is) at c.loop-s.invariant) c.add_span-2.new.spans.items (omega arith) (simp (at_is, high) at c.in_ok-add_span-2.ensures)
