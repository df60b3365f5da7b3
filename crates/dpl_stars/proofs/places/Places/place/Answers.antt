use Rattle.std.proofs.Common.{◌≡◌, ◌-◌, get_or, slice_index, length, ap, ◌∙◌, arith}
use Rattle.std.proofs.lemmas.List.{get_or_read}
use Rattle.dpl_stars.proofs.TableLaws.{table-place}
use Rattle.dpl_stars.proofs.places.Places.place.Goals as goal

pub overflow_sub-piece : goal.overflow_sub-piece
overflow_sub-piece c = (table-place c.args.self.now c.in-Some.table c.args.piece (rw c.self.view_is at (rw c.in-Some.is at c.self.invariant.found)) c.requires).0

pub index-requires : goal.index-requires
index-requires c =
    let (low, high, within, at) = table-place c.args.self.now c.in-Some.table c.args.piece (rw c.self.view_is at (rw c.in-Some.is at c.self.invariant.found)) c.requires in
    let long = c.in-Some.table.places.ok.0 in
    omega (arith, high, long)

pub search-requires-clause-rising : goal.search-requires-clause-rising
search-requires-clause-rising c = rw c.as_slice.ensures.value c.self.invariant.rising

pub search-requires-clause-there : goal.search-requires-clause-there
search-requires-clause-there c = rw (c.as_slice.ensures.value, c.self.view_is) c.requires

pub returns-in-Some-clause-within : goal.returns-in-Some-clause-within
returns-in-Some-clause-within c =
    let (low, high, within, at) = table-place c.args.self.now c.in-Some.table c.args.piece (rw c.self.view_is at (rw c.in-Some.is at c.self.invariant.found)) c.requires in
    let read : c.index.result.now ≡ get_or c.in-Some.table.places.items (c.args.piece - c.in-Some.table.least) 0 = get_or_read _ _ _ high c.index.ensures 0 in
    omega (arith, read, within)

pub returns-in-Some-clause-at : goal.returns-in-Some-clause-at
returns-in-Some-clause-at c =
    let (low, high, within, at) = table-place c.args.self.now c.in-Some.table c.args.piece (rw c.self.view_is at (rw c.in-Some.is at c.self.invariant.found)) c.requires in
    let read : c.index.result.now ≡ get_or c.in-Some.table.places.items (c.args.piece - c.in-Some.table.least) 0 = get_or_read _ _ _ high c.index.ensures 0 in
    ap (λ i. slice_index c.args.self.now i) read ∙ at

pub returns-in-None-clause-within : goal.returns-in-None-clause-within
returns-in-None-clause-within c = rw (c.as_slice.ensures.value, c.self.view_is) at c.search.ensures.within

pub returns-in-None-clause-at : goal.returns-in-None-clause-at
returns-in-None-clause-at c = rw (c.as_slice.ensures.value, c.self.view_is) at c.search.ensures.at
