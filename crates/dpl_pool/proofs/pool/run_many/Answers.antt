use Rattle.std.proofs.Common.{◌≡◌, ◌∙◌, ◌<◌, ℕ, sym, ap, subst, rules, length, vec_len, arith, map, get_or, List, []}
use Rattle.std.proofs.lemmas.Result.{IfOk-from_err}
use Rattle.std.specs.Prelude.{IfOk, Result, Ok, Err}
use Rattle.std.specs.List.{AllZip}
use Rattle.dpl_board.specs.Sheets.{Sheet}
use Rattle.dpl_deal.specs.Hands.{EachAt, all_taken}
use Rattle.dpl_turn.specs.declared.view.SeatView.{SeatView}
use Rattle.dpl_turn.specs.Seats.{knows}
use Rattle.dpl_pool.specs.Numbering.{tile_count}
use Rattle.dpl_pool.specs.Seating.{IsWorkedOut, board_table, histories_of, sheet_of, workers_of}
use Rattle.dpl_pool.specs.Members.{IsMember, Leaves}
use Rattle.dpl_pool.proofs.Members.{all_posted, some_done}
use Rattle.dpl_pool.proofs.Seating.{all_through, through, worked_out}
use Rattle.dpl_pool.proofs.pool.run_many.Goals as goal

pub seated-requires-clause-workers : goal.seated-requires-clause-workers
seated-requires-clause-workers g c = λ i d lt.
    let e = c.in_ok-boards.ensures.workers i d lt in
    let n : vec_len c.in_ok-deal.hands ≡ c.args.workers = search rules in
    omega (arith, e, n)

pub all_work-requires-clause-members : goal.all_work-requires-clause-members
all_work-requires-clause-members g c κs lives =
    let deal = c.in_ok-deal.deal in
    let ms = c.in_ok-members.ensures.members deal c.in_ok-deal.ensures.hands in
    subst (λ (z : List Sheet). EachAt (IsMember (map board_table c.in_ok-boards.boards.items) z deal) c.in_ok-members.members.items)
    c.in_ok-boards.ensures.sheets ms

pub gathered-requires-clause-members : goal.gathered-requires-clause-members
gathered-requires-clause-members g c =
    let deal = c.in_ok-deal.deal in
    let s0 = c.in_ok-boards.seats.items in
    let s1 = c.seated.new.seats.items in
    let e = through (λ (v : SeatView). v.sheet) knows knows s1 s0 c.seated.ensures.same ∙ c.in_ok-boards.ensures.sheets in
    subst (λ (z : List Sheet). EachAt (Leaves (map board_table c.in_ok-boards.boards.items) z deal) c.in_ok-done.done.items) (sym e) c.in_ok-done.ensures.done

pub gathered-requires-clause-tables : goal.gathered-requires-clause-tables
gathered-requires-clause-tables g c = c.seated.ensures.tables ∙ c.in_ok-boards.ensures.tables

pub close-requires-clause-done : goal.close-requires-clause-done
close-requires-clause-done g c =
    let n : vec_len c.in_ok-hands.hands ≡ c.args.workers = search rules in
    let l : vec_len c.in_ok-hands.hands ≡ length c.in_ok-hands.hands.items = search rules in
    some_done c.in_ok-hands.hands.items (omega (arith, c.requires.workers.0, n, l)) c.in_ok-hands.ensures.hands.1

pub close_all-requires : goal.close_all-requires
close_all-requires g c = record { tables = c.gathered.ensures.tables ∙ (c.seated.ensures.tables ∙ c.in_ok-boards.ensures.tables) }

if-ok-then : {T E : Type 0} (r : Result T E) {P Q : T → Type 0} → ((x : T) → P x → Q x) → IfOk r P → IfOk r Q
if-ok-then (Ok x) f p = f x p
if-ok-then (Err e) f p = tt

pub returns : goal.returns
returns g c =
    let sheets = map g.J.Job.sheet c.args.jobs.now in
    let s0 = c.in_ok-boards.seats.items in
    let s1 = c.seated.new.seats.items in
    let s2 = c.gathered.new.seats.items in
    let e1 = through (λ (v : SeatView). v.sheet) knows knows s1 s0 c.seated.ensures.same ∙ c.in_ok-boards.ensures.sheets in
    let e2 = c.gathered.ensures.sheets ∙ e1 in
    let w2 = c.gathered.ensures.workers ∙ through (λ (v : SeatView). v.workers) knows knows s1 s0 c.seated.ensures.same in
    let signed = all_through (λ (n : ℕ). n ≡ c.args.workers) workers_of workers_of s0 s2 (sym w2) c.in_ok-boards.ensures.workers in
    let count : c.in_ok-deal.deal.tiles ≡ tile_count (map sheet_of s1) =
    c.in_ok-deal.ensures.deal.0 ∙ (c.in_ok-numbers.ensures.tiles ∙ ap tile_count (sym e1)) in
    if-ok-then c.close_all.result
    (λ ss closed. subst (λ (z : List Sheet). AllZip (IsWorkedOut c.args.workers) z ss.items) e2
    (worked_out c.args.workers s2 ss.items closed signed
    (λ j k lt. all_posted (map sheet_of s1) c.in_ok-deal.deal.tiles (all_taken c.in_ok-hands.hands.items) (histories_of s2) count c.close.ensures
    c.in_ok-hands.ensures.covers j k (subst (λ (z : List Sheet). k < length (get_or z j [])) c.gathered.ensures.sheets lt))))
    c.close_all.ensures

pub returns-in_err-numbers : goal.returns-in_err-numbers
returns-in_err-numbers g c = IfOk-from_err _ _ c.from_residual.ensures.0

pub returns-in_err-deal : goal.returns-in_err-deal
returns-in_err-deal g c = IfOk-from_err _ _ c.from_residual-in_err-deal.ensures.0

pub returns-in_err-boards : goal.returns-in_err-boards
returns-in_err-boards g c = IfOk-from_err _ _ c.from_residual-in_err-boards.ensures.0

pub returns-in_err-members : goal.returns-in_err-members
returns-in_err-members g c = IfOk-from_err _ _ c.from_residual-in_err-members.ensures.0

pub returns-in_err-done : goal.returns-in_err-done
returns-in_err-done g c = IfOk-from_err _ _ c.from_residual-in_err-done.ensures.0

pub returns-in_err-hands : goal.returns-in_err-hands
returns-in_err-hands g c = IfOk-from_err _ _ c.from_residual-in_err-hands.ensures.0
