use Rattle.std.proofs.Common.{◌<◌, length, arith, ◌∙◌}
use Rattle.std.proofs.lemmas.List.{get_or_default}
use Rattle.std.proofs.lemmas.Result.{IfOk-from_err}
use Rattle.dpl_flatten.proofs.FoundLaws.{top_marked}
use Rattle.dpl_flatten.proofs.placed.points_of.Goals as goal

pub returns : goal.returns
returns c =
    let items = c.in_ok-counted.counted.items in
    let i : c.args.top < length items = omega (arith, c.requires.top, c.in_ok-counted.ensures.each) in
    c.index.ensures ∙ (get_or_default items c.args.top c.index.result.now 0 i ∙ c.in_ok-counted.ensures.right c.args.top
    (top_marked c.args.lib.now c.args.links.now.graph.now c.args.top c.args.links.now.marks.now c.requires.links.graph_of
    c.requires.reached))

pub returns-in_err-counted : goal.returns-in_err-counted
returns-in_err-counted c = IfOk-from_err _ _ c.from_residual.ensures.0
