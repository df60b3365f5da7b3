use Rattle.std.proofs.Common.{◌≡◌, ◌⊎◌, rules, w32, FitsSigned}
use Rattle.std.proofs.lemmas.Int.{to_z-of_z}
use Rattle.dpl_slabs.proofs.StripLaws.{max-known}
use Rattle.std.proofs.lemmas.Result.{IfOk-from_err}
use Rattle.dpl_slabs.proofs.row.add_bar.Goals as goal

pub returns : goal.returns
returns c =
    let fits : FitsSigned w32 c.args.bar.now.x1 = search rules in
    let old : FitsSigned w32 c.args.last.x1 = search rules in
    let known : (c.max.result ≡ c.args.last.x1) ⊎ (c.max.result ≡ c.args.bar.now.x1) = max-known _ _ _ _
    (to_z-of_z w32 c.args.bar.now.x1 fits) (rw (to_z-of_z w32 c.args.last.x1 old) at c.max.ensures.value) in
    search (rules, known)

pub returns-in_err-push : goal.returns-in_err-push
returns-in_err-push c = IfOk-from_err _ _ c.from_residual.ensures.0
