use Rattle.std.proofs.Common.{arith}
use Rattle.std.proofs.lemmas.Result.{IfOk-from_err}
use Rattle.dpl_gains.proofs.Listing.{listed-pass, listed-more}
use Rattle.dpl_gains.proofs.gains.listed.Goals.{in-Some+in_ok-push, in_default}
use Rattle.dpl_gains.proofs.gains.listed.Goals as goal

pub loop-piece-preserved : goal.loop-piece-preserved
loop-piece-preserved c = elim c.match-gain_at.branch [
  | in-Some+in_ok-push w ↦ rw w.gains-is (rw w.in_ok-push.ensures.items (listed-more c.args.roots.now c.args.held.now c.args.tallies.now c.loop-piece.piece
      c.loop-piece.gains.items c.loop-piece.invariant w.in-Some.gain w.in-Some.ensures.at w.in-Some.ensures.some))
  | in_default w ↦ rw w.gains-is (listed-pass c.args.roots.now c.args.held.now c.args.tallies.now c.loop-piece.piece c.loop-piece.gains.items
      c.loop-piece.invariant w.in_default.ensures.none)
]

pub returns-clause-exactly : goal.returns-clause-exactly
returns-clause-exactly c = λ g. (
  λ h. ((c.loop-piece.invariant.exactly g).0 h).1,
  λ is. (c.loop-piece.invariant.exactly g).1
      ((let w = is.within in let end = c.loop-piece-test.false in omega (arith, w, end)), is),
)

pub returns-in_err-push-clause-ordered : goal.returns-in_err-push-clause-ordered
returns-in_err-push-clause-ordered c = IfOk-from_err _ _ c.from_residual.ensures.0

pub returns-in_err-push-clause-exactly : goal.returns-in_err-push-clause-exactly
returns-in_err-push-clause-exactly c = IfOk-from_err _ _ c.from_residual.ensures.0
