use Rattle.std.proofs.Common.{length, sym, subst, ◌∙◌, arith}
use Rattle.std.proofs.lemmas.Result.{IfOk-from_err}
use Rattle.std.proofs.lemmas.List.{with_items_is}
use Rattle.dpl_view.specs.Layers.{AreLayerCounts, count_of}
use Rattle.dpl_view.proofs.CountLaws.{entries_counted}
use Rattle.dpl_view.proofs.RankLaws.{all-listed, layers-of}
use Rattle.dpl_view.proofs.layers.layers_of.Goals as goal

pub tally_file-requires-clause-listed : goal.tally_file-requires-clause-listed
tally_file-requires-clause-listed c = λ k e there. rw c.deref-2.ensures.value
    (all-listed c.args.lib.now c.in_ok-ranks.ranks.items c.sort_once.new.ranks.items c.in_ok-ranks.ensures c.sort_once.ensures.keeps k e there)

pub returns : goal.returns
returns c =
    let lib = c.args.lib.now in
    let ranks = c.sort_once.new.ranks.items in
    let table = c.in_ok-table.table in
    let new = c.tally_file.new.table in
    let more = rw c.deref_mut.ensures.value at c.in_ok-tally_file.ensures in
    let empty = rw c.deref.ensures.value at c.in_ok-table.ensures in
    subst (λ xs. AreLayerCounts lib xs) (sym (with_items_is table new (c.in_ok-tally_file.ensures.as_many ∙ c.deref_mut.ensures.len)))
    (layers-of lib c.in_ok-ranks.ranks.items ranks new c.in_ok-ranks.ensures c.sort_once.ensures.rises c.sort_once.ensures.keeps c.sort_once.ensures.adds_none
    (length ranks) (omega arith) (omega arith) (entries_counted (count_of lib) ranks (length ranks) table.items new empty more))

pub returns-in_err-ranks : goal.returns-in_err-ranks
returns-in_err-ranks c = IfOk-from_err _ _ c.from_residual.ensures.0

pub returns-in_err-table : goal.returns-in_err-table
returns-in_err-table c = IfOk-from_err _ _ c.from_residual-in_err-table.ensures.0

pub returns-in_err-tally_file : goal.returns-in_err-tally_file
returns-in_err-tally_file c = IfOk-from_err _ _ c.from_residual-in_err-tally_file.ensures.0
