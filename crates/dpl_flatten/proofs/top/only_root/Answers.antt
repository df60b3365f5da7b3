use Rattle.std.proofs.Common.{refl}
use Rattle.std.proofs.lemmas.Result.{IfOk-from_err}
use Rattle.dpl_flatten.proofs.LinkLaws.{roots_none, roots_one, root_known}
use Rattle.dpl_flatten.proofs.top.only_root.Goals as goal

pub returns-in-empty-clause-fault : goal.returns-in-empty-clause-fault
returns-in-empty-clause-fault c = roots_none c.args.lib.now c.as_slice.result.now (rw c.as_slice.ensures.value c.in_ok-roots.ensures) c.in-empty.len_below

pub returns-in-len1-clause-top : goal.returns-in-len1-clause-top
returns-in-len1-clause-top c = roots_one c.args.lib.now c.as_slice.result.now (rw c.as_slice.ensures.value c.in_ok-roots.ensures) c.in-len1.len_at_least c.in-len1.len_below

pub returns-in-len1-clause-known : goal.returns-in-len1-clause-known
returns-in-len1-clause-known c = root_known c.args.lib.now _
    (roots_one c.args.lib.now c.as_slice.result.now (rw c.as_slice.ensures.value c.in_ok-roots.ensures) c.in-len1.len_at_least
    c.in-len1.len_below)

pub returns-clause-fault : goal.returns-clause-fault
returns-clause-fault c = (c.in_default.len_at_least, (c.as_slice.result.now, rw c.as_slice.ensures.value c.in_ok-roots.ensures, refl))

pub returns-in_err-roots-clause-top : goal.returns-in_err-roots-clause-top
returns-in_err-roots-clause-top c = IfOk-from_err _ _ c.from_residual.ensures.0

pub returns-in_err-roots-clause-known : goal.returns-in_err-roots-clause-known
returns-in_err-roots-clause-known c = IfOk-from_err _ _ c.from_residual.ensures.0
