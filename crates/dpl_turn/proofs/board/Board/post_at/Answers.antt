use Rattle.std.proofs.Common.{◌≡◌, ap, subst, sym, refl, ◌∙◌, length, Option, Some, None}
use Rattle.dpl_stars.specs.Sums.{Sums}
use Rattle.dpl_board.specs.Sheets.{Sheet, edges_at, entry}
use Rattle.dpl_board.specs.declared.entry.Entry.{Entry}
use Rattle.dpl_board.specs.Boards.{PostLeaves}
use Rattle.dpl_turn.specs.declared.view.SeatView.{SeatView}
use Rattle.dpl_turn.specs.Rule.{MayFollow, StartsWith, after_give}
use Rattle.dpl_turn.proofs.Turns.{back_as_found, back_with_named, more_on_ok, same_on_err}
use Rattle.dpl_turn.proofs.Posting.{answers_err, idle_given, out_has, posted_after}
use Rattle.dpl_turn.proofs.board.Board.post_at.Goals as goal

pub give-requires-clause-slot : goal.give-requires-clause-slot
give-requires-clause-slot g c =
    let f = c.fold_ready-state in
    back_as_found f.new.seat.me.0 f.result c.post.new.self f.new.seat.me c.put_back.new.seat.me (out_has _ _ f.ensures.out) f.ensures.out.idle
    (same_on_err _ _ _ _ _ c.in-Err.fault c.in-Err.is c.post.ensures.post) c.put_back.ensures.seat

pub give-requires-2-clause-slot : goal.give-requires-2-clause-slot
give-requires-2-clause-slot g c =
    let f = c.fold_ready-state in
    let more = more_on_ok _ _ _ _ _ c.in_default.field-0 c.in_default.is c.post.ensures.post in
    let sheet : f.new.seat.me.0.sheet ≡ c.args.seat.now.me.0.sheet = f.ensures.goes.sheet ∙ ap (λ u. u.sheet) c.take_state-state.ensures.view in
    let workers : f.new.seat.me.0.workers ≡ c.args.seat.now.me.0.workers = f.ensures.goes.workers ∙ ap (λ u. u.workers) c.take_state-state.ensures.view in
    back_with_named f.new.seat.me.0 f.result c.post.new.self (entry c.args.worker c.args.tile) c.args.sum f.new.seat.me c.name.new.seat.me c.put_back-2.new.seat.me
    (out_has _ _ f.ensures.out) c.name.ensures.seat
    (record { fresh = more.0; below = rw sheet c.requires.entry.1; signed = rw workers c.requires.entry.0 }) more.1
    (subst (λ (z : Sheet). Sums (edges_at z c.args.tile) c.args.sum) (sym sheet) c.requires.sum) c.put_back-2.ensures.seat

pub take_state-state-requires-clause-idle : goal.take_state-state-requires-clause-idle
take_state-state-requires-clause-idle g c = c.requires.idle

pub fold_ready-state-requires-clause-out : goal.fold_ready-state-requires-clause-out
fold_ready-state-requires-clause-out g c = c.take_state-state.ensures.out

pub name-requires-clause-turn : goal.name-requires-clause-turn
name-requires-clause-turn g c = (c.fold_ready-state.ensures.out.holds, c.fold_ready-state.ensures.out.fresh)

pub name-requires-clause-may : goal.name-requires-clause-may
name-requires-clause-may g c =
    let f = c.fold_ready-state in
    let more = more_on_ok f.result c.post.new.self (entry c.args.worker c.args.tile) c.args.sum c.post.result c.in_default.field-0 c.in_default.is c.post.ensures.post in
    let sheet : f.new.seat.me.0.sheet ≡ c.args.seat.now.me.0.sheet = f.ensures.goes.sheet ∙ ap (λ u. u.sheet) c.take_state-state.ensures.view in
    let workers : f.new.seat.me.0.workers ≡ c.args.seat.now.me.0.workers = f.ensures.goes.workers ∙ ap (λ u. u.workers) c.take_state-state.ensures.view in
    record { fresh = rw f.ensures.out.found more.0; below = rw sheet c.requires.entry.1; signed = rw workers c.requires.entry.0 }

pub returns-in-Err-clause-idle : goal.returns-in-Err-clause-idle
returns-in-Err-clause-idle g c =
    idle_given c.put_back.new.seat.me.0 c.give.new.seat.me (ap (λ m. m.0.spent) c.put_back.ensures.seat ∙ c.fold_ready-state.ensures.out.fresh) c.give.ensures.seat

pub returns-in-Err-clause-answer : goal.returns-in-Err-clause-answer
returns-in-Err-clause-answer g c =
    let v = c.args.seat.now.me.0 in
    let t = c.take_state-state in
    let f = c.fold_ready-state in
    let last = f.new.seat.me.0 in
    let began : StartsWith t.result.history v.known = subst (λ (u : SeatView). StartsWith t.result.history u.known) t.ensures.view t.ensures.out.known in
    let given : c.give.new.seat.me.0 ≡ after_give (record last { named = None }) = ap (λ m. m.0) c.give.ensures.seat ∙ (ap (λ m. after_give m.0) c.put_back.ensures.seat
    ∙ ap (λ (o : Option Entry). after_give (record last { named = o })) f.ensures.out.idle) in
    answers_err v c.give.new.seat.me.0 f.result c.post.new.self c.args.worker c.args.tile c.args.sum c.in-Err.fault
    (subst (λ r. PostLeaves f.result (entry c.args.worker c.args.tile) c.args.sum r c.post.new.self) c.in-Err.is c.post.ensures.post)
    (posted_after v t.new.seat.me.0 last c.give.new.seat.me.0 f.result.history t.result.history None t.ensures.view began f.ensures.goes f.ensures.out.found given)

pub returns-clause-idle : goal.returns-clause-idle
returns-clause-idle g c =
    idle_given c.put_back-2.new.seat.me.0 c.give-2.new.seat.me
    (ap (λ m. m.0.spent) c.put_back-2.ensures.seat ∙ (ap (λ m. m.0.spent) c.name.ensures.seat ∙ c.fold_ready-state.ensures.out.fresh)) c.give-2.ensures.seat

pub returns-clause-answer : goal.returns-clause-answer
returns-clause-answer g c =
    let v = c.args.seat.now.me.0 in
    let t = c.take_state-state in
    let f = c.fold_ready-state in
    let last = f.new.seat.me.0 in
    let e = entry c.args.worker c.args.tile in
    let more = more_on_ok f.result c.post.new.self (entry c.args.worker c.args.tile) c.args.sum c.post.result c.in_default.field-0 c.in_default.is c.post.ensures.post in
    let began : StartsWith t.result.history v.known = subst (λ (u : SeatView). StartsWith t.result.history u.known) t.ensures.view t.ensures.out.known in
    let given : c.give-2.new.seat.me.0 ≡ after_give (record last { named = Some e }) = ap (λ m. m.0) c.give-2.ensures.seat
    ∙ (ap (λ m. after_give m.0) c.put_back-2.ensures.seat ∙ ap (λ m. after_give m.0) c.name.ensures.seat) in (
      f.result.history,
      more.0,
      posted_after v t.new.seat.me.0 last c.give-2.new.seat.me.0 f.result.history t.result.history (Some e) t.ensures.view began f.ensures.goes f.ensures.out.found given,
    )
