use Rattle.std.proofs.lemmas.Result.{IfOk-from_err}
use Rattle.dpl_piece.proofs.Cuts.{matched}
use Rattle.dpl_piece.proofs.WholeLaws.{all-own}
use Rattle.dpl_piece.proofs.bare.BarePieces.completed.Goals as goal

pub of-requires-clause-matched : goal.of-requires-clause-matched
of-requires-clause-matched c = rw (c.in_ok-sides.ensures, c.deref.ensures.value) (matched _ _ c.self.invariant.0)

pub of-requires-clause-own : goal.of-requires-clause-own
of-requires-clause-own c =
    let bare = c.self.invariant.0 in
    let some = c.self.invariant.1 in
    rw (c.in_ok-sides.ensures, c.deref.ensures.value) (all-own some.features _ _ _ _ some.lie bare.parts.canonical _ bare.zones bare.sides)

pub returns-in_err-sides : goal.returns-in_err-sides
returns-in_err-sides c = IfOk-from_err _ _ c.from_residual.ensures.0
