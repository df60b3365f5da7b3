use Rattle.std.proofs.Common.{refl, arith}
use Rattle.std.proofs.lemmas.List.{reverse-reverse}
use Rattle.std.proofs.lemmas.Result.{IfOk-from_err}
use Rattle.dpl_piece.specs.Pieces.{broken_piece}
use Rattle.dpl_piece.proofs.Taken.{taken-next, taken-all}
use Rattle.dpl_piece.proofs.made.add_parts.Goals as goal

pub loop-part-init : goal.loop-part-init
loop-part-init c = rw (c.reverse.ensures.items, reverse-reverse c.args.parts.items) refl

pub loop-part-preserved : goal.loop-part-preserved
loop-part-preserved c =
    rw (c.give_back.ensures, c.in_ok-push.ensures.items) (taken-next (broken_piece c.args.number) _ _ _ _ c.in-Some.part c.loop-part.invariant c.in-Some.ensures.items)

pub returns : goal.returns
returns c = taken-all (broken_piece c.args.number) _ _ c.loop-part.parts.items c.loop-part.invariant (omega (arith, c.loop-part.parts.ok.0, c.in_default.ensures.cases.0))

pub returns-in_err-push : goal.returns-in_err-push
returns-in_err-push c = IfOk-from_err _ _ c.from_residual.ensures.0
