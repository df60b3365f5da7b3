use Rattle.std.proofs.Common.{◌++◌, ◌∙◌, List, ap, arith}
use Rattle.std.proofs.lemmas.Result.{IfOk-from_err}
use Rattle.dpl_spec_split.specs.declared.Rect.{Rect}
use Rattle.dpl_orient.specs.Masks.{is_second}
use Rattle.dpl_masks.proofs.SheetLaws.{its-more}
use Rattle.dpl_masks.proofs.united.add_own.Goals as goal

pub own_slabs-requires-clause-start : goal.own_slabs-requires-clause-start
own_slabs-requires-clause-start c = let more = c.own_end-end.ensures.more in omega (arith, more)

pub own_slabs-requires-clause-end : goal.own_slabs-requires-clause-end
own_slabs-requires-clause-end c = c.own_end-end.ensures.within

pub own_slabs-requires-clause-within : goal.own_slabs-requires-clause-within
own_slabs-requires-clause-within c = c.requires.rest.within

pub returns-clause-united : goal.returns-clause-united
returns-clause-united c =
    let inked = c.args.inked.now in
    its-more inked.cut c.args.colours.now inked.inks.items (is_second c.args.letter) c.args.patches.now c.requires.rest c.requires.rise
    c.args.start c.own_end-end.result c.args.rects.now.items _ _ c.requires.some c.own_end-end.ensures
    (c.in_ok-extend_from_slice.ensures.items ∙ ap (λ (l : List Rect). c.args.rects.now.items ++ l) c.rects.ensures.value) c.in_ok-slabs.ensures
    c.rects.ensures.within c.requires.united

pub returns-in_err-slabs-clause-more : goal.returns-in_err-slabs-clause-more
returns-in_err-slabs-clause-more c = IfOk-from_err _ _ c.from_residual.ensures.0

pub returns-in_err-slabs-clause-within : goal.returns-in_err-slabs-clause-within
returns-in_err-slabs-clause-within c = IfOk-from_err _ _ c.from_residual.ensures.0

pub returns-in_err-slabs-clause-united : goal.returns-in_err-slabs-clause-united
returns-in_err-slabs-clause-united c = IfOk-from_err _ _ c.from_residual.ensures.0

pub returns-in_err-extend_from_slice-clause-more : goal.returns-in_err-extend_from_slice-clause-more
returns-in_err-extend_from_slice-clause-more c = IfOk-from_err _ _ c.from_residual-in_err-extend_from_slice.ensures.0

pub returns-in_err-extend_from_slice-clause-within : goal.returns-in_err-extend_from_slice-clause-within
returns-in_err-extend_from_slice-clause-within c = IfOk-from_err _ _ c.from_residual-in_err-extend_from_slice.ensures.0

pub returns-in_err-extend_from_slice-clause-united : goal.returns-in_err-extend_from_slice-clause-united
returns-in_err-extend_from_slice-clause-united c = IfOk-from_err _ _ c.from_residual-in_err-extend_from_slice.ensures.0
