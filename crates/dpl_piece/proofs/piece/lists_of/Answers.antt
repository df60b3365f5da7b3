use Rattle.std.proofs.Common.{refl, arith}
use Rattle.std.proofs.lemmas.List.{reverse-reverse}
use Rattle.std.proofs.lemmas.Result.{IfOk-from_err}
use Rattle.dpl_piece.proofs.Taken.{taken-next, taken-all}
use Rattle.dpl_piece.proofs.piece.lists_of.Goals as goal

pub loop-piece-init : goal.loop-piece-init
loop-piece-init c =
    rw (c.in_ok-parts.ensures.items, c.in_ok-owners.ensures.items, c.reverse.ensures.items, reverse-reverse c.args.pieces.items)
    (record { parts = refl; owners = refl })

pub loop-piece-preserved : goal.loop-piece-preserved
loop-piece-preserved c =
    rw (c.give_back.ensures, c.in_ok-push.ensures.items, c.in_ok-push-2.ensures.items) (record {
      parts = taken-next (λ x. x.part) _ _ _ _ c.in-Some.piece c.loop-piece.invariant.parts c.in-Some.ensures.items;
      owners = taken-next (λ x. x.owner) _ _ _ _ c.in-Some.piece c.loop-piece.invariant.owners c.in-Some.ensures.items;
    })

pub returns-clause-parts : goal.returns-clause-parts
returns-clause-parts c = taken-all (λ x. x.part) _ _ c.loop-piece.pieces.items c.loop-piece.invariant.parts (omega (arith, c.loop-piece.pieces.ok.0, c.in_default.ensures.cases.0))

pub returns-clause-owners : goal.returns-clause-owners
returns-clause-owners c = taken-all (λ x. x.owner) _ _ c.loop-piece.pieces.items c.loop-piece.invariant.owners
    (omega (arith, c.loop-piece.pieces.ok.0, c.in_default.ensures.cases.0))

pub returns-in_err-parts-clause-parts : goal.returns-in_err-parts-clause-parts
returns-in_err-parts-clause-parts c = IfOk-from_err _ _ c.from_residual.ensures.0

pub returns-in_err-parts-clause-owners : goal.returns-in_err-parts-clause-owners
returns-in_err-parts-clause-owners c = IfOk-from_err _ _ c.from_residual.ensures.0

pub returns-in_err-owners-clause-parts : goal.returns-in_err-owners-clause-parts
returns-in_err-owners-clause-parts c = IfOk-from_err _ _ c.from_residual-in_err-owners.ensures.0

pub returns-in_err-owners-clause-owners : goal.returns-in_err-owners-clause-owners
returns-in_err-owners-clause-owners c = IfOk-from_err _ _ c.from_residual-in_err-owners.ensures.0

pub returns-in_err-push-clause-parts : goal.returns-in_err-push-clause-parts
returns-in_err-push-clause-parts c = IfOk-from_err _ _ c.from_residual-in_err-push.ensures.0

pub returns-in_err-push-clause-owners : goal.returns-in_err-push-clause-owners
returns-in_err-push-clause-owners c = IfOk-from_err _ _ c.from_residual-in_err-push.ensures.0

pub returns-in_err-push-2-clause-parts : goal.returns-in_err-push-2-clause-parts
returns-in_err-push-2-clause-parts c = IfOk-from_err _ _ c.from_residual-in_err-push-2.ensures.0

pub returns-in_err-push-2-clause-owners : goal.returns-in_err-push-2-clause-owners
returns-in_err-push-2-clause-owners c = IfOk-from_err _ _ c.from_residual-in_err-push-2.ensures.0
