use Rattle.std.proofs.Common.{◌≡◌, ◌++◌, ◌∷◌, [], length, get_or, vec_len, rules, ap, ◌∙◌}
use Rattle.std.specs.Prelude.{pos}
use Rattle.std.proofs.lemmas.List.{get_or_default}
use Rattle.std.proofs.lemmas.Result.{IfOk-from_err}
use Rattle.dpl_spec_split.specs.declared.Rect.{Rect}
use Rattle.dpl_feature.proofs.Dealing.{dealt-begun, dealt-read, canonical-read}
use Rattle.dpl_wide.proofs.dealt.deal.Goals as goal

abbrev zero_rect : Rect
zero_rect = record { x0 = pos 0; y0 = pos 0; x1 = pos 0; y1 = pos 0 }

pub returns-then-parent-i : goal.returns-then-parent-i
returns-then-parent-i c =
    let counted : vec_len c.args.parts.now ≡ length c.args.parts.now.items = search rules in
    rw (c.len.ensures, counted)
    (dealt-begun c.args.rects.now c.args.i c.args.numbers.now c.args.parts.now.items c.requires.canonical c.requires.dealt c.requires.inside
    (get_or c.args.rects.now c.args.i zero_rect) (get_or_default _ _ _ _ c.requires.inside) c.if-parent-i.true
    _ (c.in_ok-push.ensures.items ∙ ap (λ s. c.args.parts.now.items ++ s ∷ []) c.in_ok-part.ensures))

pub one-requires-clause-within : goal.one-requires-clause-within
one-requires-clause-within c = c.requires.within (get_or c.args.rects.now c.args.i zero_rect) (c.args.i, c.requires.inside, get_or_default _ _ _ _ c.requires.inside)

pub add-requires-clause-within : goal.add-requires-clause-within
add-requires-clause-within c = c.requires.within (get_or c.args.rects.now c.args.i zero_rect) (c.args.i, c.requires.inside, get_or_default _ _ _ _ c.requires.inside)

pub add-requires-clause-canonical : goal.add-requires-clause-canonical
add-requires-clause-canonical c =
    canonical-read c.args.rects.now c.args.i c.args.numbers.now c.args.parts.now.items c.requires.canonical c.requires.dealt c.requires.inside
    (get_or c.args.rects.now c.args.i zero_rect) (get_or_default _ _ _ _ c.requires.inside) c.if-parent-i.false
    _ c.index_mut.ensures.value

pub returns : goal.returns
returns c =
    dealt-read c.args.rects.now c.args.i c.args.numbers.now c.args.parts.now.items c.requires.canonical c.requires.dealt c.requires.inside
    (get_or c.args.rects.now c.args.i zero_rect) (get_or_default _ _ _ _ c.requires.inside) c.if-parent-i.false
    _ c.index_mut.ensures.value _ c.in_ok-add.ensures.added

pub returns-in_err-part : goal.returns-in_err-part
returns-in_err-part c = IfOk-from_err _ _ c.from_residual.ensures.0

pub returns-in_err-push : goal.returns-in_err-push
returns-in_err-push c = IfOk-from_err _ _ c.from_residual-in_err-push.ensures.0

pub returns-in_err-add : goal.returns-in_err-add
returns-in_err-add c = IfOk-from_err _ _ c.from_residual-in_err-add.ensures.0
