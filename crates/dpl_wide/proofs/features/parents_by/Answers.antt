use Rattle.std.proofs.Common.{List, length, subst, sym}
use Rattle.std.proofs.lemmas.List.FromFn.{length-range_with_len}
use Rattle.std.proofs.lemmas.Result.{IfOk-from_err}
use Rattle.dpl_spec_split.specs.declared.Rect.{Rect}
use Rattle.dpl_tile.specs.Tiles.{AreTiles}
use Rattle.dpl_tile.proofs.TileLaws.{doubled-some}
use Rattle.dpl_wide.proofs.Finding.{tiles-sum}
use Rattle.dpl_wide.proofs.Tiles.{many-alone}
use Rattle.dpl_wide.proofs.features.parents_by.Goals as goal

pub plan-requires-clause-owners : goal.plan-requires-clause-owners
plan-requires-clause-owners g c = rw (c.requires.owners, c.requires.parts, length-range_with_len 0 (length c.args.layer.now)) (sym (many-alone c.args.layer.now))

pub parents_of-requires-clause-sums : goal.parents_of-requires-clause-sums
parents_of-requires-clause-sums g c =
    tiles-sum c.in_ok-job.job c.args.layer.now c.in_ok-plan.plan.cells c.side_for-side.result c.in_ok-board.board c.joined.result.now c.in_ok-job.ensures.job.0 c.in_ok-job.ensures.job.1
    c.requires.canonical (doubled-some c.args.tile c.side_for-side.result c.requires.tile c.side_for-side.ensures)
    (subst (λ (ps : List (List Rect)). AreTiles ps c.side_for-side.result c.in_ok-plan.plan.cells) c.requires.parts c.in_ok-plan.ensures.tiles)
    c.in_ok-board.ensures.stands c.in_ok-board.ensures.once.0 c.joined.ensures

pub returns-in_err-plan : goal.returns-in_err-plan
returns-in_err-plan g c = IfOk-from_err _ _ c.from_residual.ensures.0

pub returns-in_err-job : goal.returns-in_err-job
returns-in_err-job g c = IfOk-from_err _ _ c.from_residual-in_err-job.ensures.0

pub returns-in_err-board : goal.returns-in_err-board
returns-in_err-board g c = IfOk-from_err _ _ c.from_residual-in_err-board.ensures.0
