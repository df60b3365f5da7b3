use Rattle.std.proofs.Common.{inl, inr, refl, rules, w32, arith, FitsSigned}
use Rattle.std.specs.Prelude.{◌<ℤ◌}
use Rattle.std.proofs.lemmas.Int.{ints, to_z-of_z}
use Rattle.std.proofs.lemmas.Result.{on_ok_weaker}
use Rattle.dpl_order.specs.Pieces.{Puts}
use Rattle.dpl_sweep.specs.Runs.{piece_of}
use Rattle.dpl_sweep.proofs.run.put_run.Goals as goal

pub returns-then-run : goal.returns-then-run
returns-then-run c =
    let f : FitsSigned w32 c.args.run.now.from = search rules in
    let t : FitsSigned w32 c.args.run.now.at = search rules in
    inl (grind (arith, ints), refl)

pub returns : goal.returns
returns c =
    let f : FitsSigned w32 c.args.run.now.from = search rules in
    let t : FitsSigned w32 c.args.run.now.at = search rules in
    let some : c.args.run.now.from <ℤ c.args.run.now.at = (let none = rw (to_z-of_z w32 _ f, to_z-of_z w32 _ t) at c.if-run.false in grind (arith, ints, none)) in
    let puts = rw (to_z-of_z w32 _ f, to_z-of_z w32 _ t, to_z-of_z w32 c.args.y0 c.ranges.y0, to_z-of_z w32 c.args.y1 c.ranges.y1) at c.put.ensures in
    on_ok_weaker c.put.result (λ (p : Puts c.args.pieces.now.items c.put.new.pieces.items (piece_of c.args.run.now c.args.y0 c.args.y1)). inr (some, p)) puts
