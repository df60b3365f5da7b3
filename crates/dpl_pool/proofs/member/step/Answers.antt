use Rattle.std.proofs.Common.{◌≡◌, ◌∙◌, ◌<◌, [], refl, sym, subst, rules, true, true≢false, length, vec_len, get_or, map, arith, set}
use Rattle.std.proofs.lemmas.List.{length-map}
use Rattle.dpl_stars.specs.Sums.{Sums}
use Rattle.dpl_board.specs.Sheets.{IsPosted, Sheet, edges_at}
use Rattle.dpl_turn.specs.declared.seat.Seat.{Seat}
use Rattle.dpl_turn.specs.Seats.{knows}
use Rattle.dpl_pool.specs.Seating.{board_table, sheet_of, table_of, workers_of}
use Rattle.dpl_pool.proofs.Members.{at_place, goes_on, keeps_on}
use Rattle.dpl_pool.proofs.Seating.{here, put_at, same_at}
use Rattle.dpl_pool.proofs.member.step.Goals as goal

pub place-at-requires-clause-numbered : goal.place-at-requires-clause-numbered
place-at-requires-clause-numbered g c = (map g.J.Job.sheet c.args.jobs.now, c.requires.numbered)

pub summary-requires : goal.summary-requires
summary-requires g c =
    let sheets = map g.J.Job.sheet c.args.jobs.now in
    let tables = map board_table c.args.floor.now.boards.items in
    let i = c.place-at.result.0 in
    let place = c.place-at.ensures sheets c.requires.numbered in
    let there = at_place tables sheets c.args.member.now.seats.items c.in-Some.number i c.place-at.result.1 c.requires.member.seats place in
    let lt : i < length c.args.jobs.now = (let a = there.sheet in omega (arith, a, length-map c.args.jobs.now g.J.Job.sheet)) in
    let e = here g.J.Job.sheet c.args.jobs.now sheets i c.index-jobs-at.result [] refl lt c.index-jobs-at.is in
    subst (λ (s : Sheet). c.place-at.result.1 < length s) (sym e) place.below

pub returns-in_default-clause-done : goal.returns-in_default-clause-done
returns-in_default-clause-done g c = λ _ _.
    let none = c.in_default.ensures.none in (
      keeps_on (map board_table c.args.floor.now.boards.items) (map g.J.Job.sheet c.args.jobs.now) c.args.floor.now.deal c.args.member.now.number c.args.member.now
          c.take.new.hand c.requires.member (c.take.ensures.hand c.args.member.now.number c.requires.member.hand) none.0,
      none.1,
    )

pub post_tile-requires-clause-table : goal.post_tile-requires-clause-table
post_tile-requires-clause-table g c =
    let sheets = map g.J.Job.sheet c.args.jobs.now in
    let tables = map board_table c.args.floor.now.boards.items in
    let i = c.place-at.result.0 in
    let place = c.place-at.ensures sheets c.requires.numbered in
    let there = at_place tables sheets c.args.member.now.seats.items c.in-Some.number i c.place-at.result.1 c.requires.member.seats place in
    let is : c.index_mut.result.now ≡ get_or c.args.member.now.seats.items c.place-at.result.0 c.index_mut.result.now = search rules in
    let at : c.index-board.result.now ≡ get_or c.args.floor.now.boards.items c.place-at.result.0 c.index-board.result.now = search rules in
    same_at table_of board_table c.args.member.now.seats.items c.args.floor.now.boards.items i c.index_mut.result.now c.index-board.result.now
    c.requires.member.seats.at there.seat is at

pub posted-requires : goal.posted-requires
posted-requires g c =
    let sheets = map g.J.Job.sheet c.args.jobs.now in
    let tables = map board_table c.args.floor.now.boards.items in
    let i = c.place-at.result.0 in
    let place = c.place-at.ensures sheets c.requires.numbered in
    let there = at_place tables sheets c.args.member.now.seats.items c.in-Some.number i c.place-at.result.1 c.requires.member.seats place in
    let seats = c.args.member.now.seats.items in
    let now : c.index.result.now ≡ get_or (set c.args.member.now.seats.items c.place-at.result.0 c.post_tile.new.seat) c.place-at.result.0 c.index.result.now = search rules in
    let yes : c.post_tile.result ≡ true = search rules in
    subst (λ (s : Seat). IsPosted c.place-at.result.1 (knows s).known) (sym (now ∙ put_at seats i c.post_tile.new.seat c.index.result.now there.seat))
    (c.post_tile.ensures.posted yes)

pub returns-clause-goes : goal.returns-clause-goes
returns-clause-goes g c = λ _.
    let sheets = map g.J.Job.sheet c.args.jobs.now in
    let tables = map board_table c.args.floor.now.boards.items in
    let i = c.place-at.result.0 in
    let place = c.place-at.ensures sheets c.requires.numbered in
    let there = at_place tables sheets c.args.member.now.seats.items c.in-Some.number i c.place-at.result.1 c.requires.member.seats place in
    let is : c.index_mut.result.now ≡ get_or c.args.member.now.seats.items c.place-at.result.0 c.index_mut.result.now = search rules in
    let at : c.index-board.result.now ≡ get_or c.args.floor.now.boards.items c.place-at.result.0 c.index-board.result.now = search rules in
    let mine = same_at table_of board_table c.args.member.now.seats.items c.args.floor.now.boards.items i c.index_mut.result.now c.index-board.result.now
    c.requires.member.seats.at there.seat is at in
    goes_on tables sheets c.args.floor.now.deal c.args.member.now.number c.args.member.now _ c.in-Some.number i c.place-at.result.1
    c.index_mut.result.now c.post_tile.new.seat c.requires.member refl refl there.seat is refl (c.post_tile.ensures.table ∙ sym mine) c.post_tile.ensures.keeps
    (c.take.ensures.hand c.args.member.now.number) c.in-Some.ensures.some.1 place (search rules)

pub returns-clause-took : goal.returns-clause-took
returns-clause-took g c = λ _. (c.in-Some.number, c.in-Some.ensures.some.1)

pub returns-in_default-clause-number : goal.returns-in_default-clause-number
returns-in_default-clause-number g c = refl

pub returns-in_default-clause-goes : goal.returns-in_default-clause-goes
returns-in_default-clause-goes g c = λ e. absurd (true≢false (sym e))

pub returns-in_default-clause-took : goal.returns-in_default-clause-took
returns-in_default-clause-took g c = λ e. absurd (true≢false (sym e))

pub returns-in_default-summary-clause-number : goal.returns-in_default-summary-clause-number
returns-in_default-summary-clause-number g c = refl

pub returns-in_default-summary-clause-goes : goal.returns-in_default-summary-clause-goes
returns-in_default-summary-clause-goes g c = λ e. absurd (true≢false (sym e))

pub returns-in_default-summary-clause-took : goal.returns-in_default-summary-clause-took
returns-in_default-summary-clause-took g c = λ e. absurd (true≢false (sym e))

pub returns-in_default-summary-clause-done : goal.returns-in_default-summary-clause-done
returns-in_default-summary-clause-done g c = λ _ e. absurd (true≢false e)

pub returns-then-not-post_tile-clause-number : goal.returns-then-not-post_tile-clause-number
returns-then-not-post_tile-clause-number g c = refl

pub returns-then-not-post_tile-clause-goes : goal.returns-then-not-post_tile-clause-goes
returns-then-not-post_tile-clause-goes g c = λ e. absurd (true≢false (sym e))

pub returns-then-not-post_tile-clause-took : goal.returns-then-not-post_tile-clause-took
returns-then-not-post_tile-clause-took g c = λ e. absurd (true≢false (sym e))

pub returns-then-not-post_tile-clause-done : goal.returns-then-not-post_tile-clause-done
returns-then-not-post_tile-clause-done g c = λ _ e. absurd (true≢false e)

pub returns-clause-number : goal.returns-clause-number
returns-clause-number g c = refl

pub returns-clause-done : goal.returns-clause-done
returns-clause-done g c = λ e. absurd (true≢false e)

pub place-at-requires-clause-below : goal.place-at-requires-clause-below
place-at-requires-clause-below g c = omega (arith, c.in-Some.ensures.some.0, c.requires.tiles)

pub bounds-jobs-at : goal.bounds-jobs-at
bounds-jobs-at g c =
    let sheets = map g.J.Job.sheet c.args.jobs.now in
    let tables = map board_table c.args.floor.now.boards.items in
    let i = c.place-at.result.0 in
    let place = c.place-at.ensures sheets c.requires.numbered in
    let there = at_place tables sheets c.args.member.now.seats.items c.in-Some.number i c.place-at.result.1 c.requires.member.seats place in
    let a = there.sheet in omega (arith, a, length-map c.args.jobs.now g.J.Job.sheet)

pub index-board-requires : goal.index-board-requires
index-board-requires g c =
    let sheets = map g.J.Job.sheet c.args.jobs.now in
    let tables = map board_table c.args.floor.now.boards.items in
    let i = c.place-at.result.0 in
    let place = c.place-at.ensures sheets c.requires.numbered in
    let there = at_place tables sheets c.args.member.now.seats.items c.in-Some.number i c.place-at.result.1 c.requires.member.seats place in
    let a = there.table in omega (arith, a, length-map c.args.floor.now.boards.items board_table)

pub index_mut-requires : goal.index_mut-requires
index_mut-requires g c =
    let sheets = map g.J.Job.sheet c.args.jobs.now in
    let tables = map board_table c.args.floor.now.boards.items in
    let i = c.place-at.result.0 in
    let place = c.place-at.ensures sheets c.requires.numbered in
    let there = at_place tables sheets c.args.member.now.seats.items c.in-Some.number i c.place-at.result.1 c.requires.member.seats place in
    let len : vec_len c.args.member.now.seats ≡ length c.args.member.now.seats.items = search rules in
    let a = there.seat in omega (arith, a, len)

pub post_tile-requires-clause-entry : goal.post_tile-requires-clause-entry
post_tile-requires-clause-entry g c =
    let sheets = map g.J.Job.sheet c.args.jobs.now in
    let tables = map board_table c.args.floor.now.boards.items in
    let i = c.place-at.result.0 in
    let place = c.place-at.ensures sheets c.requires.numbered in
    let there = at_place tables sheets c.args.member.now.seats.items c.in-Some.number i c.place-at.result.1 c.requires.member.seats place in
    let is : c.index_mut.result.now ≡ get_or c.args.member.now.seats.items c.place-at.result.0 c.index_mut.result.now = search rules in
    let mine = here sheet_of c.args.member.now.seats.items sheets i c.index_mut.result.now [] c.requires.member.seats.of there.seat is in (
      subst (λ (s : Seat). c.args.member.now.number < workers_of s) (sym is) (c.requires.member.below i c.index_mut.result.now there.seat),
      subst (λ (s : Sheet). c.place-at.result.1 < length s) (sym mine) place.below,
    )

pub post_tile-requires-clause-sum : goal.post_tile-requires-clause-sum
post_tile-requires-clause-sum g c =
    let sheets = map g.J.Job.sheet c.args.jobs.now in
    let tables = map board_table c.args.floor.now.boards.items in
    let i = c.place-at.result.0 in
    let place = c.place-at.ensures sheets c.requires.numbered in
    let there = at_place tables sheets c.args.member.now.seats.items c.in-Some.number i c.place-at.result.1 c.requires.member.seats place in
    let is : c.index_mut.result.now ≡ get_or c.args.member.now.seats.items c.place-at.result.0 c.index_mut.result.now = search rules in
    let mine = here sheet_of c.args.member.now.seats.items sheets i c.index_mut.result.now [] c.requires.member.seats.of there.seat is in
    let lt : i < length c.args.jobs.now = (let a = there.sheet in omega (arith, a, length-map c.args.jobs.now g.J.Job.sheet)) in
    let e = here g.J.Job.sheet c.args.jobs.now sheets i c.index-jobs-at.result [] refl lt c.index-jobs-at.is in
    subst (λ (s : Sheet). Sums (edges_at s c.place-at.result.1) c.in-Ok.sum) (e ∙ sym mine) c.in-Ok.ensures

pub index-requires : goal.index-requires
index-requires g c =
    let sheets = map g.J.Job.sheet c.args.jobs.now in
    let tables = map board_table c.args.floor.now.boards.items in
    let i = c.place-at.result.0 in
    let place = c.place-at.ensures sheets c.requires.numbered in
    let there = at_place tables sheets c.args.member.now.seats.items c.in-Some.number i c.place-at.result.1 c.requires.member.seats place in
    let len : vec_len c.args.member.now.seats ≡ length c.args.member.now.seats.items = search rules in
    let a = there.seat in omega (arith, a, len)
