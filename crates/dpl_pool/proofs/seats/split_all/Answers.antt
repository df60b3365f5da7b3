use Rattle.std.proofs.Common.{◌≡◌, ◌∙◌, ◌<◌, ◌≤◌, ◌++◌, ◌∷◌, [], sym, ap, rules, length, vec_len, get_or, map, arith}
use Rattle.std.proofs.lemmas.Result.{IfOk-from_err}
use Rattle.std.proofs.lemmas.List.{length-map, get_or-map, take_all}
use Rattle.dpl_deal.proofs.Takings.{map_put}
use Rattle.dpl_deal.proofs.Dealings.{map_take_next}
use Rattle.dpl_turn.specs.Seats.{knows}
use Rattle.dpl_pool.specs.Seating.{as_newcomer, board_table, table_of}
use Rattle.dpl_pool.proofs.Seating.{here, same_at, same_len}
use Rattle.dpl_pool.proofs.seats.split_all.Goals as goal

pub index-requires : goal.index-requires
index-requires g c =
    let n = same_len table_of board_table c.args.seats.now.items c.args.boards.now.items c.requires.tables in
    let a : vec_len c.args.boards.now ≡ length c.args.boards.now.items = search rules in
    let b : vec_len c.args.seats.now ≡ length c.args.seats.now.items = search rules in
    let lt : c.loop-at.at < vec_len c.args.seats.now = search rules in
    omega (arith, n, a, b, lt)

pub split-other-requires : goal.split-other-requires
split-other-requires g c =
    let lt : c.loop-at.at < length c.loop-at.seats.items = search rules in
    let is : c.index_mut.result.now ≡ get_or c.loop-at.seats.items c.loop-at.at c.index_mut.result.now = search rules in
    let at : c.index.result.now ≡ get_or c.args.boards.now.items c.loop-at.at c.index.result.now = search rules in
    record {
      table = same_at table_of board_table c.loop-at.seats.items c.args.boards.now.items c.loop-at.at c.index_mut.result.now c.index.result.now
          (c.loop-at.invariant.1 ∙ c.requires.tables) lt is at;
    }

pub loop-at-preserved : goal.loop-at-preserved
loop-at-preserved g c =
    let first = c.args.seats.now.items in
    let seats = c.loop-at.seats.items in
    let i = c.loop-at.at in
    let old = c.index_mut.result.now in
    let new = c.split-other.new.seat in
    let other = c.split-other.result in
    let lt : c.loop-at.at < length c.loop-at.seats.items = search rules in
    let lens : length c.args.seats.now.items ≡ length c.loop-at.seats.items = search rules in
    let is : c.index_mut.result.now ≡ get_or c.loop-at.seats.items c.loop-at.at c.index_mut.result.now = search rules in
    let at : c.index.result.now ≡ get_or c.args.boards.now.items c.loop-at.at c.index.result.now = search rules in
    let mine = same_at table_of board_table seats c.args.boards.now.items i old c.index.result.now (c.loop-at.invariant.1 ∙ c.requires.tables) lt is at in
    let pushed : c.push.new.self.items ≡ c.loop-at.others.items ++ c.split-other.result ∷ [] = search rules in
    let table : table_of other ≡ table_of old = c.split-other.ensures.new.0 ∙ sym mine in (
      c.loop-at.invariant.0,
      map_put table_of seats i old new lt is (c.split-other.ensures.old.0 ∙ sym mine) ∙ c.loop-at.invariant.1,
      map_put knows seats i old new lt is c.split-other.ensures.old.1 ∙ c.loop-at.invariant.2,
      ap (map table_of) pushed ∙ map_take_next table_of c.loop-at.others.items other (map table_of first) i (table_of old)
          (omega (arith, lt, lens, length-map first table_of)) c.loop-at.invariant.3
          (table ∙ here table_of seats (map table_of first) i old (table_of old) c.loop-at.invariant.1 lt is),
      ap (map knows) pushed ∙ map_take_next knows c.loop-at.others.items other (map as_newcomer (map knows first)) i (as_newcomer (knows old))
          (omega (arith, lt, lens, length-map (map knows first) as_newcomer, length-map first knows)) c.loop-at.invariant.4
          (c.split-other.ensures.new.1 ∙ ap as_newcomer (here knows seats (map knows first) i old (knows old) c.loop-at.invariant.2 lt is)
          ∙ sym (get_or-map as_newcomer (map knows first) i (knows old) (as_newcomer (knows old)) (omega (arith, lt, lens, length-map first knows)))),
    )

pub returns-in_err-push-clause-tables : goal.returns-in_err-push-clause-tables
returns-in_err-push-clause-tables g c =
    let seats = c.loop-at.seats.items in
    let old = c.index_mut.result.now in
    let lt : c.loop-at.at < length c.loop-at.seats.items = search rules in
    let is : c.index_mut.result.now ≡ get_or c.loop-at.seats.items c.loop-at.at c.index_mut.result.now = search rules in
    let at : c.index.result.now ≡ get_or c.args.boards.now.items c.loop-at.at c.index.result.now = search rules in
    let mine = same_at table_of board_table seats c.args.boards.now.items c.loop-at.at old c.index.result.now (c.loop-at.invariant.1 ∙ c.requires.tables) lt is at in
    map_put table_of seats c.loop-at.at old c.split-other.new.seat lt is (c.split-other.ensures.old.0 ∙ sym mine) ∙ c.loop-at.invariant.1

pub returns-in_err-push-clause-same : goal.returns-in_err-push-clause-same
returns-in_err-push-clause-same g c =
    let lt : c.loop-at.at < length c.loop-at.seats.items = search rules in
    let is : c.index_mut.result.now ≡ get_or c.loop-at.seats.items c.loop-at.at c.index_mut.result.now = search rules in
    map_put knows c.loop-at.seats.items c.loop-at.at c.index_mut.result.now c.split-other.new.seat lt is c.split-other.ensures.old.1 ∙ c.loop-at.invariant.2

pub returns-clause-others : goal.returns-clause-others
returns-clause-others g c = c.loop-at.invariant.3 ∙ take_all c.loop-at.at (map table_of c.args.seats.now.items)
    (let e : length c.args.seats.now.items ≤ c.loop-at.at = search rules in omega (arith, e, length-map c.args.seats.now.items table_of))

pub returns-clause-new : goal.returns-clause-new
returns-clause-new g c = c.loop-at.invariant.4 ∙ take_all c.loop-at.at (map as_newcomer (map knows c.args.seats.now.items))
    (let e : length c.args.seats.now.items ≤ c.loop-at.at = search rules in
    omega (arith, e, length-map (map knows c.args.seats.now.items) as_newcomer, length-map c.args.seats.now.items knows))

pub returns-in_err-push-clause-others : goal.returns-in_err-push-clause-others
returns-in_err-push-clause-others g c = IfOk-from_err _ _ c.from_residual.ensures.0

pub returns-in_err-push-clause-new : goal.returns-in_err-push-clause-new
returns-in_err-push-clause-new g c = IfOk-from_err _ _ c.from_residual.ensures.0
