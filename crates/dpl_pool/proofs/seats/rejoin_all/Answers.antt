use Rattle.std.proofs.Common.{◌≡◌, ◌∙◌, ◌<◌, ◌++◌, ◌∷◌, [], sym, ap, rules, length, vec_len, get_or, arith, append_assoc, length-append}
use Rattle.std.proofs.lemmas.List.{length-map}
use Rattle.dpl_deal.proofs.Takings.{map_put}
use Rattle.dpl_turn.specs.Seats.{knows}
use Rattle.dpl_turn.specs.declared.seat.Seat.{Seat}
use Rattle.dpl_pool.specs.Seating.{board_table, histories_of, sheet_of, table_of, workers_of}
use Rattle.dpl_pool.proofs.Seating.{grow_all, next_here, next_place, rejoined, same_at, same_len}
use Rattle.dpl_pool.proofs.seats.rejoin_all.Goals as goal

pub index-requires : goal.index-requires
index-requires g c =
    let all : c.loop-other.yielded ++ c.in-Some.other ∷ c.next.new.self.rest.items ≡ c.args.others.items = search rules in
    let lt = next_place c.args.others.items c.loop-other.yielded c.in-Some.other c.next.new.self.rest.items c.loop-other.at all c.loop-other.invariant.1 in
    let n = same_len table_of board_table c.args.others.items c.args.boards.now.items c.requires.others in
    let a : vec_len c.args.boards.now ≡ length c.args.boards.now.items = search rules in
    omega (arith, n, a, lt)

pub index_mut-requires : goal.index_mut-requires
index_mut-requires g c =
    let all : c.loop-other.yielded ++ c.in-Some.other ∷ c.next.new.self.rest.items ≡ c.args.others.items = search rules in
    let lt = next_place c.args.others.items c.loop-other.yielded c.in-Some.other c.next.new.self.rest.items c.loop-other.at all c.loop-other.invariant.1 in
    let n = same_len table_of board_table c.args.others.items c.args.boards.now.items c.requires.others in
    let m = same_len table_of board_table c.loop-other.seats.items c.args.boards.now.items (c.loop-other.invariant.2 ∙ c.requires.tables) in
    let a : vec_len c.loop-other.seats ≡ length c.loop-other.seats.items = search rules in
    omega (arith, n, m, a, lt)

pub rejoin-requires : goal.rejoin-requires
rejoin-requires g c =
    let all : c.loop-other.yielded ++ c.in-Some.other ∷ c.next.new.self.rest.items ≡ c.args.others.items = search rules in
    let place = next_place c.args.others.items c.loop-other.yielded c.in-Some.other c.next.new.self.rest.items c.loop-other.at all c.loop-other.invariant.1 in
    let there = next_here c.args.others.items c.loop-other.yielded c.in-Some.other c.next.new.self.rest.items c.loop-other.at all c.loop-other.invariant.1 in
    let n = same_len table_of board_table c.args.others.items c.args.boards.now.items c.requires.others in
    let m = same_len table_of board_table c.loop-other.seats.items c.args.boards.now.items (c.loop-other.invariant.2 ∙ c.requires.tables) in
    let lt : c.loop-other.at < length c.loop-other.seats.items = omega (arith, n, m, place) in
    let is : c.index_mut.result.now ≡ get_or c.loop-other.seats.items c.loop-other.at c.index_mut.result.now = search rules in
    let at : c.index.result.now ≡ get_or c.args.boards.now.items c.loop-other.at c.index.result.now = search rules in
    record {
      table = (
        same_at table_of board_table c.loop-other.seats.items c.args.boards.now.items c.loop-other.at c.index_mut.result.now c.index.result.now
            (c.loop-other.invariant.2 ∙ c.requires.tables) lt is at,
        same_at table_of board_table c.args.others.items c.args.boards.now.items c.loop-other.at c.in-Some.other c.index.result.now
            c.requires.others place there at,
      );
    }

pub loop-other-preserved : goal.loop-other-preserved
loop-other-preserved g c =
    let all : c.loop-other.yielded ++ c.in-Some.other ∷ c.next.new.self.rest.items ≡ c.args.others.items = search rules in
    let seats = c.loop-other.seats.items in
    let i = c.loop-other.at in
    let old = c.index_mut.result.now in
    let new = c.rejoin.new.seat in
    let inv = c.loop-other.invariant in
    let place = next_place c.args.others.items c.loop-other.yielded c.in-Some.other c.next.new.self.rest.items c.loop-other.at all c.loop-other.invariant.1 in
    let n = same_len table_of board_table c.args.others.items c.args.boards.now.items c.requires.others in
    let m = same_len table_of board_table c.loop-other.seats.items c.args.boards.now.items (c.loop-other.invariant.2 ∙ c.requires.tables) in
    let lt : c.loop-other.at < length c.loop-other.seats.items = omega (arith, n, m, place) in
    let is : c.index_mut.result.now ≡ get_or c.loop-other.seats.items c.loop-other.at c.index_mut.result.now = search rules in
    let at : c.index.result.now ≡ get_or c.args.boards.now.items c.loop-other.at c.index.result.now = search rules in
    let mine = same_at table_of board_table seats c.args.boards.now.items i old c.index.result.now (inv.2 ∙ c.requires.tables) lt is at in
    let grown = rejoined (histories_of c.args.seats.now.items) seats c.args.others.items c.loop-other.yielded c.next.new.self.rest.items i old c.in-Some.other new
    lt is all inv.1 c.rejoin.ensures.prefixes.0 c.rejoin.ensures.prefixes.1 inv.5 inv.6 in (
      append_assoc c.loop-other.yielded (c.in-Some.other ∷ []) c.next.new.self.rest.items ∙ all,
      omega (arith, inv.1, length-append c.loop-other.yielded (c.in-Some.other ∷ [])),
      map_put table_of seats i old new lt is (c.rejoin.ensures.table ∙ sym mine) ∙ inv.2,
      map_put sheet_of seats i old new lt is (ap (λ v. v.sheet) c.rejoin.ensures.seat) ∙ inv.3,
      map_put workers_of seats i old new lt is (ap (λ v. v.workers) c.rejoin.ensures.seat) ∙ inv.4,
      grown.0,
      grown.1,
    )

pub returns-clause-told : goal.returns-clause-told
returns-clause-told g c =
    let none : length c.loop-other.other-iterator.rest.items ≡ 0 = search rules in
    let all : length (c.loop-other.yielded ++ c.loop-other.other-iterator.rest.items) ≡ length c.args.others.items = ap length c.loop-other.invariant.0 in
    grow_all c.loop-other.at (histories_of c.args.others.items) (histories_of c.loop-other.seats.items)
    (omega (
      arith,
      c.loop-other.invariant.1,
      none,
      all,
      length-append c.loop-other.yielded c.loop-other.other-iterator.rest.items,
      length-map c.args.others.items (λ (s : Seat). (knows s).known),
    )) c.loop-other.invariant.6
