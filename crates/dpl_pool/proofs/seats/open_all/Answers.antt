use Rattle.std.proofs.Common.{◌≡◌, ◌∙◌, ◌<◌, ◌≤◌, ◌++◌, ◌∷◌, [], refl, sym, ap, subst, rules, length, map, All, arith}
use Rattle.std.proofs.lemmas.Result.{IfOk-from_err}
use Rattle.std.proofs.lemmas.List.{length-map, map-append, take_all}
use Rattle.dpl_deal.proofs.Dealings.{map_take_next}
use Rattle.dpl_turn.specs.declared.seat.Seat.{Seat}
use Rattle.dpl_turn.specs.declared.view.SeatView.{SeatView}
use Rattle.dpl_pool.specs.Seating.{board_table, sheet_of, table_of, workers_of}
use Rattle.dpl_pool.proofs.Members.{all_snoc}
use Rattle.dpl_pool.proofs.Seating.{here}
use Rattle.dpl_pool.proofs.seats.open_all.Goals as goal

pub loop-job-preserved : goal.loop-job-preserved
loop-job-preserved g c =
    let jobs = c.args.jobs.now in
    let sheets = map g.J.Job.sheet jobs in
    let i = c.loop-job.job-index in
    let inv = c.loop-job.invariant in
    let lt : c.loop-job.job-index < length c.args.jobs.now = c.loop-job-test.true in
    let b = c.in_ok-board.board in
    let s = c.in_ok-board.seat in
    let bs : c.push.new.self.items ≡ c.loop-job.boards.items ++ c.in_ok-board.board ∷ [] = search rules in
    let ss : c.push-in-loop-job.new.self.items ≡ c.loop-job.seats.items ++ c.in_ok-board.seat ∷ [] = search rules in
    let seat = c.in_ok-board.ensures.seat in
    let P : Seat → Type 0 = λ (x : Seat). workers_of x ≡ c.args.workers in (
      ap (map table_of) ss ∙ map-append table_of c.loop-job.seats.items (s ∷ []) ∙ ap (λ l. l ++ table_of s ∷ []) inv.0
          ∙ ap (λ t. map board_table c.loop-job.boards.items ++ t ∷ []) seat.0
          ∙ sym (map-append board_table c.loop-job.boards.items (b ∷ [])) ∙ sym (ap (map board_table) bs),
      ap (map sheet_of) ss ∙ map_take_next sheet_of c.loop-job.seats.items s sheets i [] (omega (arith, lt, length-map jobs g.J.Job.sheet)) inv.1
          (ap (λ (v : SeatView). v.sheet) seat.1 ∙ here g.J.Job.sheet jobs sheets i c.job-item.result [] refl lt c.job-item.is),
      subst (All P) (sym ss) (all_snoc P c.loop-job.seats.items s inv.2 (ap (λ (v : SeatView). v.workers) seat.1)),
    )

pub returns-clause-sheets : goal.returns-clause-sheets
returns-clause-sheets g c = c.loop-job.invariant.1 ∙ take_all c.loop-job.job-index (map g.J.Job.sheet c.args.jobs.now)
    (let e : length c.args.jobs.now ≤ c.loop-job.job-index = c.loop-job-test.false in omega (arith, e, length-map c.args.jobs.now g.J.Job.sheet))

pub returns-in_err-board-clause-tables : goal.returns-in_err-board-clause-tables
returns-in_err-board-clause-tables g c = IfOk-from_err _ _ c.from_residual.ensures.0

pub returns-in_err-board-clause-sheets : goal.returns-in_err-board-clause-sheets
returns-in_err-board-clause-sheets g c = IfOk-from_err _ _ c.from_residual.ensures.0

pub returns-in_err-board-clause-workers : goal.returns-in_err-board-clause-workers
returns-in_err-board-clause-workers g c = IfOk-from_err _ _ c.from_residual.ensures.0

pub returns-in_err-push-clause-tables : goal.returns-in_err-push-clause-tables
returns-in_err-push-clause-tables g c = IfOk-from_err _ _ c.from_residual-in_err-push.ensures.0

pub returns-in_err-push-clause-sheets : goal.returns-in_err-push-clause-sheets
returns-in_err-push-clause-sheets g c = IfOk-from_err _ _ c.from_residual-in_err-push.ensures.0

pub returns-in_err-push-clause-workers : goal.returns-in_err-push-clause-workers
returns-in_err-push-clause-workers g c = IfOk-from_err _ _ c.from_residual-in_err-push.ensures.0

pub returns-in_err-push-2-clause-tables : goal.returns-in_err-push-2-clause-tables
returns-in_err-push-2-clause-tables g c = IfOk-from_err _ _ c.from_residual-in_err-push-2.ensures.0

pub returns-in_err-push-2-clause-sheets : goal.returns-in_err-push-2-clause-sheets
returns-in_err-push-2-clause-sheets g c = IfOk-from_err _ _ c.from_residual-in_err-push-2.ensures.0

pub returns-in_err-push-2-clause-workers : goal.returns-in_err-push-2-clause-workers
returns-in_err-push-2-clause-workers g c = IfOk-from_err _ _ c.from_residual-in_err-push-2.ensures.0
