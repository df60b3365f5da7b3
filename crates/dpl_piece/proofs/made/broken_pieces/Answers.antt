use Rattle.std.proofs.Common.{◌∙◌, ◌++◌, map, ap}
use Rattle.std.proofs.lemmas.Result.{IfOk-from_err}
use Rattle.dpl_piece.specs.Pieces.{broken_piece}
use Rattle.dpl_piece.proofs.made.broken_pieces.Goals as goal

pub returns : goal.returns
returns c =
    record {
      parts = c.in_ok-parts.parts.items;
      broken = c.in_ok-parts.ensures;
      added = c.in_ok-add_parts.ensures ∙ ap (λ l. l ++ map (broken_piece c.args.number) c.in_ok-parts.parts.items) c.in_ok-pieces.ensures.items;
    }

pub returns-in_err-parts : goal.returns-in_err-parts
returns-in_err-parts c = IfOk-from_err _ _ c.from_residual.ensures.0

pub returns-in_err-pieces : goal.returns-in_err-pieces
returns-in_err-pieces c = IfOk-from_err _ _ c.from_residual-in_err-pieces.ensures.0

pub returns-in_err-add_parts : goal.returns-in_err-add_parts
returns-in_err-add_parts c = IfOk-from_err _ _ c.from_residual-in_err-add_parts.ensures.0
