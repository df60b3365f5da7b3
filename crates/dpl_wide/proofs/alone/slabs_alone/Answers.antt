use Rattle.std.proofs.Common.{◌≡◌, take, subst, sym, ◌∙◌, ap}
use Rattle.std.proofs.lemmas.List.{take_all}
use Rattle.std.proofs.lemmas.Result.{IfOk-from_err}
use Rattle.dpl_slabs.specs.Parts.{AreParts}
use Rattle.dpl_wide.specs.Touching.{alone}
use Rattle.dpl_wide.proofs.Slabs.{alone-parts}
use Rattle.dpl_wide.proofs.alone.slabs_alone.Goals as goal

pub of-requires : goal.of-requires
of-requires c =
    let all : take c.loop-r.r-index c.rects-rects.result.now ≡ c.rects-rects.result.now = take_all c.loop-r.r-index c.rects-rects.result.now c.loop-r-test.false in
    let same : c.loop-r.sets.items ≡ alone c.args.layer.now = c.loop-r.invariant ∙ ap alone (all ∙ c.rects-rects.ensures.value) in
    subst AreParts (sym same) (alone-parts c.args.layer.now c.rects-rects.ensures.canonical c.rects-rects.ensures.within)

pub returns-in_err-sets : goal.returns-in_err-sets
returns-in_err-sets c = IfOk-from_err _ _ c.from_residual.ensures.0

pub returns-in_err-set : goal.returns-in_err-set
returns-in_err-set c = IfOk-from_err _ _ c.from_residual-in_err-set.ensures.0

pub returns-in_err-push : goal.returns-in_err-push
returns-in_err-push c = IfOk-from_err _ _ c.from_residual-in_err-push.ensures.0
