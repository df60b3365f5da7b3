use Rattle.dpl_spec_split.specs.Loops.{farthest}
use Rattle.dpl_slabs.proofs.LoopLaws.{rects-appended}
use Rattle.dpl_edits.specs.declared.applying.Change.{Change}
use Rattle.dpl_edits.proofs.ChangeLaws.{both-change, kept-sets}
use Rattle.std.proofs.lemmas.Result.{IfOk-from_err}
use Rattle.dpl_edits.proofs.applying.Change.and_then.Goals as goal

pub without-requires : goal.without-requires
without-requires c = rw c.deref.ensures.value c.requires.later

pub returns-clause-both : goal.returns-clause-both
returns-clause-both c =
    let both : Change = record { added = c.in_ok-added.added; removed = c.extend_from_slice.new.self } in
    let kept = rw c.deref.ensures.value at c.in_ok-kept.ensures in
    let all = rw c.deref-2.ensures.value at c.in_ok-extend_from_slice.ensures.items in
    both-change c.args.self c.args.later both (kept-sets c.args.self c.args.later both c.in_ok-kept.kept kept c.in_ok-added.ensures all)

pub returns-clause-within : goal.returns-clause-within
returns-clause-within c =
    let all = rw c.deref-2.ensures.value at c.in_ok-extend_from_slice.ensures.items in
    rw all (rects-appended farthest c.args.self.removed.items c.args.later.removed.items c.requires.first c.requires.later)

pub returns-in_err-kept-clause-both : goal.returns-in_err-kept-clause-both
returns-in_err-kept-clause-both c = IfOk-from_err _ _ c.from_residual.ensures.0

pub returns-in_err-kept-clause-within : goal.returns-in_err-kept-clause-within
returns-in_err-kept-clause-within c = IfOk-from_err _ _ c.from_residual.ensures.0

pub returns-in_err-extend_from_slice-clause-both : goal.returns-in_err-extend_from_slice-clause-both
returns-in_err-extend_from_slice-clause-both c = IfOk-from_err _ _ c.from_residual-in_err-extend_from_slice.ensures.0

pub returns-in_err-extend_from_slice-clause-within : goal.returns-in_err-extend_from_slice-clause-within
returns-in_err-extend_from_slice-clause-within c = IfOk-from_err _ _ c.from_residual-in_err-extend_from_slice.ensures.0

pub returns-in_err-added-clause-both : goal.returns-in_err-added-clause-both
returns-in_err-added-clause-both c = IfOk-from_err _ _ c.from_residual-in_err-added.ensures.0

pub returns-in_err-added-clause-within : goal.returns-in_err-added-clause-within
returns-in_err-added-clause-within c = IfOk-from_err _ _ c.from_residual-in_err-added.ensures.0
