use Rattle.std.proofs.lemmas.Result.{IfOk-weaker, IfOk-from_err}
use Rattle.dpl_answer.proofs.ManyCuts.{all_of_cuts, all_told}
use Rattle.dpl_answer.proofs.many.conflicts_of_all.Goals as goal

pub all_found-requires : goal.all_found-requires
all_found-requires g c =
    rw c.deref-3.ensures.value
    (all_told c.args.sharing.workers c.in_ok-starts.starts.items c.in_ok-boards.boards.items (rw c.deref-2.ensures.value at c.in_ok-boards.ensures))

pub returns : goal.returns
returns g c =
    IfOk-weaker c.all_found.result _ _
    (λ all found. all_of_cuts c.args.spacing c.args.cuts.now c.in_ok-starts.starts.items all.items c.in_ok-starts.ensures found)
    c.all_found.ensures

pub returns-in_err-starts : goal.returns-in_err-starts
returns-in_err-starts g c = IfOk-from_err _ _ c.from_residual.ensures.0

pub returns-in_err-boards : goal.returns-in_err-boards
returns-in_err-boards g c = IfOk-from_err _ _ c.from_residual-in_err-boards.ensures.0
