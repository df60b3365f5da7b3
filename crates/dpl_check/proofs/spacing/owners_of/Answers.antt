use Rattle.std.specs.Prelude.{pos}
use Rattle.std.proofs.Common.{◌≡◌, get_or, take, arith}
use Rattle.std.proofs.lemmas.Result.{IfOk-from_err}
use Rattle.std.proofs.lemmas.List.{get_or_default, take_all}
use Rattle.dpl_spec_split.specs.declared.Rect.{Rect}
use Rattle.dpl_tree.specs.declared.owners.Owners.TheVariants.{Only}
use Rattle.dpl_nearest.specs.Search.{ItemCovers}
use Rattle.dpl_piece.proofs.CornerLaws.{zip-next}
use Rattle.dpl_check.specs.Owned.{corner}
use Rattle.dpl_check.proofs.spacing.owners_of.Goals as goal

abbrev nothing : Rect
nothing = record { x0 = pos 0; y0 = pos 0; x1 = pos 0; y1 = pos 0 }

pub loop-r-preserved : goal.loop-r-preserved
loop-r-preserved c =
    rw c.in_ok-push.ensures.items
    (zip-next (λ r k. ItemCovers (Only k) c.args.tree.now (corner r)) c.args.rects.now c.loop-r.owners.items c.loop-r.r-index
    (get_or c.args.rects.now c.loop-r.r-index nothing) _ c.loop-r-test.true
    (get_or_default _ _ _ _ c.loop-r-test.true) c.loop-r.invariant c.owner_of.ensures)

pub returns : goal.returns
returns c =
    let all : take c.loop-r.r-index c.args.rects.now ≡ c.args.rects.now = take_all c.loop-r.r-index c.args.rects.now (omega arith) in
    rw all at c.loop-r.invariant

pub returns-in_err-push : goal.returns-in_err-push
returns-in_err-push c = IfOk-from_err _ _ c.from_residual.ensures.0
