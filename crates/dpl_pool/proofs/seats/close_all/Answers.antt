use Rattle.std.proofs.Common.{◌≡◌, ◌∙◌, ◌++◌, ◌∷◌, [], List, sym, ap, subst, rules, length, map, append_assoc}
use Rattle.std.proofs.lemmas.Result.{IfOk-from_err}
use Rattle.std.specs.List.{AllZip}
use Rattle.dpl_board.specs.Boards.{Board}
use Rattle.dpl_turn.specs.declared.seat.Seat.{Seat}
use Rattle.dpl_turn.specs.Seats.{knows}
use Rattle.dpl_pool.specs.Seating.{IsClosed, board_table, table_of}
use Rattle.dpl_pool.proofs.Seating.{append_none, both_end, closed_next, rest_gives}
use Rattle.dpl_pool.proofs.seats.close_all.Goals as goal

pub loop-board-preserved : goal.loop-board-preserved
loop-board-preserved g c =
    let inv = c.loop-board.invariant in
    let seat = c.in-Some-next.seat in
    let rest = c.next-in-loop-board.new.self.rest.items in
    let ws : c.loop-board.waiting.rest.items ≡ c.in-Some-next.seat ∷ c.next-in-loop-board.new.self.rest.items = search rules in
    let bs : c.loop-board.board-iterator.rest.items ≡ c.in-Some.board ∷ c.next.new.self.rest.items = search rules in
    let pushed : c.push.new.self.items ≡ c.loop-board.states.items ++ c.in_ok-state.state ∷ [] = search rules in
    let tables = sym (ap (map table_of) ws) ∙ inv.2 ∙ ap (map board_table) bs in (
      inv.0 ++ seat ∷ [],
      append_assoc inv.0 (seat ∷ []) rest ∙ ap (λ (l : List Seat). inv.0 ++ l) (sym ws) ∙ inv.1,
      rest_gives table_of board_table seat rest c.in-Some.board c.next.new.self.rest.items tables,
      subst (λ (l : List Board). AllZip IsClosed (map knows (inv.0 ++ seat ∷ [])) l) (sym pushed)
          (closed_next inv.0 seat c.loop-board.states.items c.in_ok-state.state inv.3
          (record { seen = c.in_ok-state.ensures.seen; stands = c.in_ok-state.ensures.stands; proper = c.in_ok-state.ensures.proper })),
    )

pub returns : goal.returns
returns g c =
    let inv = c.loop-board.invariant in
    let none : length c.loop-board.board-iterator.rest.items ≡ 0 = search rules in
    let end = both_end table_of board_table c.loop-board.waiting.rest.items c.loop-board.board-iterator.rest.items inv.2 none in
    subst (λ (l : List Seat). AllZip IsClosed (map knows l) c.loop-board.states.items)
    (append_none inv.0 c.loop-board.waiting.rest.items c.args.seats.items inv.1 end) inv.3

pub returns-in_err-state : goal.returns-in_err-state
returns-in_err-state g c = IfOk-from_err _ _ c.from_residual.ensures.0

pub returns-in_err-push : goal.returns-in_err-push
returns-in_err-push g c = IfOk-from_err _ _ c.from_residual-in_err-push.ensures.0
