use Rattle.std.proofs.Common.{◌≡◌, ap, subst, sym, refl, ◌∙◌}
use Rattle.std.proofs.lemmas.Result.{IfOk-weaker}
use Rattle.dpl_board.specs.Sheets.{Sheet}
use Rattle.dpl_board.specs.Boards.{Stands}
use Rattle.dpl_board.proofs.Readying.{merged-sums}
use Rattle.dpl_turn.specs.Rule.{after_give}
use Rattle.dpl_turn.proofs.Turns.{back_as_found}
use Rattle.dpl_turn.proofs.Posting.{goes_again, idle_given, out_folded, out_has}
use Rattle.dpl_turn.proofs.board.Board.fold_ready.Goals as goal

pub give-requires-clause-slot : goal.give-requires-clause-slot
give-requires-clause-slot g c =
    back_as_found c.args.seat.now.me.0 c.args.state c.args.state c.args.seat.now.me c.put_back.new.seat.me (out_has _ _ c.requires.out) c.requires.out.idle refl
    c.put_back.ensures.seat

pub take_state-state-requires-clause-idle : goal.take_state-state-requires-clause-idle
take_state-state-requires-clause-idle g c =
    idle_given c.put_back.new.seat.me.0 c.give.new.seat.me (ap (λ m. m.0.spent) c.put_back.ensures.seat ∙ c.requires.out.fresh) c.give.ensures.seat

pub returns-clause-out : goal.returns-clause-out
returns-clause-out g c =
    let me = c.take_state-state.new.seat.me in
    let same : me.0.sheet ≡ c.args.seat.now.me.0.sheet = ap (λ u. u.sheet) c.take_state-state.ensures.view
    ∙ (ap (λ m. m.0.sheet) c.give.ensures.seat ∙ ap (λ m. m.0.sheet) c.put_back.ensures.seat) in
    let stands : Stands me.0.sheet c.args.state = subst (λ (z : Sheet). Stands z c.args.state) (sym same) c.requires.out.stands in
    out_folded c.take_state-state.result c.folded.result me c.take_state-state.ensures.out c.folded.ensures.history
    (c.folded.ensures.stands me.0.sheet c.take_state-state.ensures.out.stands
    (IfOk-weaker c.merged-sum.result _ _ (λ j both. merged-sums me.0.sheet c.args.state c.in-Some.ready.block c.in-Some.ready.halves j stands c.in-Some.ensures both)
    c.merged-sum.ensures))

pub returns-clause-goes : goal.returns-clause-goes
returns-clause-goes g c =
    goes_again c.args.seat.now.me.0 c.give.new.seat.me.0 c.take_state-state.result c.take_state-state.new.seat.me c.requires.out.idle
    (ap (λ m. m.0) c.give.ensures.seat ∙ ap (λ m. after_give m.0) c.put_back.ensures.seat) c.take_state-state.ensures.out c.take_state-state.ensures.view
