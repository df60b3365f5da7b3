use Rattle.std.proofs.lemmas.Result.{IfOk-weaker, IfOk-from_err}
use Rattle.dpl_spec_split.specs.Squares.{Covers}
use Rattle.dpl_spec_split.specs.Slabs.{AreSlabsOf}
use Rattle.dpl_edits.specs.Changes.{with_change}
use Rattle.dpl_edits.proofs.ChangeLaws.{changed-slabs}
use Rattle.dpl_edits.proofs.applying.Change.made_to.Goals as goal

pub returns : goal.returns
returns c =
    let kept = rw c.deref.ensures.value at c.in_ok-kept.ensures in
    IfOk-weaker c.united.result _ (λ s. AreSlabsOf (with_change (Covers c.args.layer) c.args.self) s)
    (λ s h. changed-slabs c.args.layer c.in_ok-kept.kept s c.args.self kept h) c.united.ensures

pub returns-in_err-kept : goal.returns-in_err-kept
returns-in_err-kept c = IfOk-from_err _ _ c.from_residual.ensures.0

pub without-requires : goal.without-requires
without-requires c = rw c.deref.ensures.value c.requires
