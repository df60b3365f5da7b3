use Rattle.std.proofs.Common.{◌≡◌, false, get_or, sym, ◌∙◌}
use Rattle.std.proofs.lemmas.List.{get_or_default}
use Rattle.std.proofs.lemmas.Result.{IfOk-from_err}
use Rattle.dpl_links.proofs.MarkLaws.{Marks-one}
use Rattle.dpl_links.proofs.reached.mark.Goals as goal

pub returns : goal.returns
returns c =
    let e : get_or c.args.marks.now.items c.args.vertex false ≡ false =
    get_or_default c.args.marks.now.items c.args.vertex false c.index.result.now c.requires ∙ (sym c.index.ensures ∙ c.if-index.false) in
    rw c.in_ok-push.ensures.items (Marks-one c.args.marks.now.items c.args.noted.now.items c.args.vertex c.requires e)

pub returns-in_err-push : goal.returns-in_err-push
returns-in_err-push c = IfOk-from_err _ _ c.from_residual.ensures.0
