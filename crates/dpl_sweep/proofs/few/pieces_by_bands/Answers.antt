use Rattle.std.proofs.Common.{get_or, rules, w32, arith, FitsSigned}
use Rattle.std.specs.Prelude.{pos}
use Rattle.std.proofs.lemmas.Int.{ints, to_z-of_z}
use Rattle.dpl_sweep.specs.declared.edge.Edge.{Edge}
use Rattle.dpl_sweep.proofs.PassLaws.{first-least}
use Rattle.dpl_sweep.proofs.FewLaws.{done-all, done-none}
use Rattle.std.proofs.lemmas.Result.{IfOk-from_err}
use Rattle.dpl_sweep.proofs.few.pieces_by_bands.Goals as goal

abbrev zero : Edge
zero = record { x = pos 0; y0 = pos 0; y1 = pos 0; a = pos 0; b = pos 0 }

pub sweep_band-requires-clause-first : goal.sweep_band-requires-clause-first
sweep_band-requires-clause-first c e e_in =
    let first : FitsSigned w32 (get_or c.args.edges.now 0 zero).x = search rules in
    rw (to_z-of_z w32 _ first) (first-least c.args.edges.now zero e c.requires.rise e_in)

pub loop-low-init : goal.loop-low-init
loop-low-init c =
    let r : FitsSigned w32 c.rows_of-low.result.0 = search rules in
    rw (to_z-of_z w32 c.rows_of-low.result.0 r, c.new-pieces.ensures.items)
    (done-none c.args.rule c.args.edges.now c.rows_of-low.result.0 c.rows_of-low.result.1 c.rows_of-low.ensures)

pub sweep_band-requires-clause-none : goal.sweep_band-requires-clause-none
sweep_band-requires-clause-none c =
    let r : FitsSigned w32 c.next_row-high.result = search rules in
    rw (to_z-of_z w32 c.next_row-high.result r) c.next_row-high.ensures.none

pub loop-low-smaller : goal.loop-low-smaller
loop-low-smaller c =
    let r : FitsSigned w32 c.next_row-high.result = search rules in
    let s : FitsSigned w32 c.rows_of-low.result.1 = search rules in
    rw (to_z-of_z w32 c.next_row-high.result r, to_z-of_z w32 c.rows_of-low.result.1 s) (let above = c.next_row-high.ensures.above in
    let below = rw (to_z-of_z w32 c.rows_of-low.result.1 s) at c.next_row-high.ensures.below in omega (arith, ints, above, below))

pub returns-clause-covers : goal.returns-clause-covers
returns-clause-covers c =
    let s : FitsSigned w32 c.rows_of-low.result.1 = search rules in
    done-all c.args.rule c.args.edges.now c.rows_of-low.result.0 c.rows_of-low.result.1 _ c.loop-low.pieces.items
    (let h = rw (to_z-of_z w32 c.rows_of-low.result.1 s) at c.loop-low-test.false in
    grind (arith, ints, h)) c.rows_of-low.ensures c.loop-low.invariant

pub returns-in_err-sweep_band-clause-apart : goal.returns-in_err-sweep_band-clause-apart
returns-in_err-sweep_band-clause-apart c = IfOk-from_err _ _ c.from_residual.ensures.0

pub returns-in_err-sweep_band-clause-covers : goal.returns-in_err-sweep_band-clause-covers
returns-in_err-sweep_band-clause-covers c = IfOk-from_err _ _ c.from_residual.ensures.0

pub sweep_band-requires-clause-rise : goal.sweep_band-requires-clause-rise
sweep_band-requires-clause-rise c = c.requires.rise
