use Rattle.std.proofs.Common.{refl, arith}
use Rattle.std.proofs.lemmas.List.Elements.{All-drop, All-take}
use Rattle.std.proofs.lemmas.Result.{IfOk-from_err}
use Rattle.dpl_zone.proofs.Joining.{IsWithin, behind-more, behind-none, farther, run-all, run-more, run-none}
use Rattle.dpl_zone.proofs.kept.kept_upright.Goals as goal

pub loop-start-init : goal.loop-start-init
loop-start-init c = (
  omega arith,
  behind-none c.args.flat.now c.args.upright.now,
  run-none c.args.flat.now c.args.upright.now _ c.new-kept.ensures.items,
)

pub join_run-requires-clause-flat : goal.join_run-requires-clause-flat
join_run-requires-clause-flat c = All-take IsWithin _ _ (All-drop IsWithin _ _ c.requires.flat)

pub join_run-requires-clause-upright : goal.join_run-requires-clause-upright
join_run-requires-clause-upright c = All-take IsWithin _ _ (All-drop IsWithin _ _ c.requires.upright)

pub loop-start-preserved : goal.loop-start-preserved
loop-start-preserved c =
    let flat = c.args.flat.now in
    let upright = c.args.upright.now in
    let (within, behind, kept) = c.loop-start.invariant in (
      c.run_end-high.ensures.within,
      behind-more flat upright c.requires.flat_rise c.requires.upright_rise c.loop-start.from c.loop-start.start _ _ _ _ _ refl c.loop-start-test.true behind
          c.run_end-end.ensures c.run_start-low.ensures c.run_end-high.ensures,
      run-more flat upright c.requires.flat_rise c.requires.upright_rise c.loop-start.from c.loop-start.start _ _ _ _ _ refl c.loop-start-test.true behind
          c.run_end-end.ensures c.run_start-low.ensures c.run_end-high.ensures c.loop-start.kept.items _ kept c.in_ok-join_run.ensures,
    )

pub loop-start-smaller : goal.loop-start-smaller
loop-start-smaller c =
    let (within, behind, kept) = c.loop-start.invariant in
    let on = farther c.args.flat.now c.args.upright.now c.requires.flat_rise c.requires.upright_rise c.loop-start.from c.loop-start.start _ _ _ _ _ refl c.loop-start-test.true behind
    c.run_end-end.ensures c.run_start-low.ensures c.run_end-high.ensures in
    omega (arith, on)

pub returns : goal.returns
returns c = let (within, behind, kept) = c.loop-start.invariant in run-all c.args.flat.now c.args.upright.now c.loop-start.kept.items c.loop-start.start (omega arith) kept

pub returns-in_err-join_run : goal.returns-in_err-join_run
returns-in_err-join_run c = IfOk-from_err _ _ c.from_residual.ensures.0
