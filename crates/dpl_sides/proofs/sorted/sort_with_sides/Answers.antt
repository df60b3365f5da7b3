use Rattle.std.proofs.Common.{◌<◌, List, length, get_or, drop, ap, ◌∙◌, arith, rules}
use Rattle.std.specs.List.Sorted.{IsPermutation}
use Rattle.std.proofs.lemmas.Result.{IfOk-weaker, IfOk-from_err}
use Rattle.dpl_sides.specs.declared.piece.Piece.{Piece}
use Rattle.dpl_sides.specs.Noted.{AreNumbered}
use Rattle.dpl_sides.proofs.Noting.{written-back}
use Rattle.dpl_sides.proofs.Ranks.{long, numbers-known, placed}
use Rattle.dpl_sides.proofs.sorted.sort_with_sides.Goals as goal

pub ranks_of-requires-clause-few : goal.ranks_of-requires-clause-few
ranks_of-requires-clause-few c =
    let old : List Piece = c.args.pieces.now.items in
    let numbered : List Piece = c.number_all.new.pieces in
    let new : List Piece = c.sort_by_least.new.pieces.items in
    let are : AreNumbered old numbered = rw c.deref_mut.ensures.value at c.number_all.ensures in
    let same : IsPermutation numbered new = rw (written-back numbered (drop (length numbered) old) c.args.pieces.now.len (c.number_all.ensures.each ∙ c.deref_mut.ensures.len))
    at c.in_ok-sort_by_least.ensures.same in
    let few : length c.deref_mut.result.now < 4294967296 = search rules in
    rw c.deref.ensures.value (omega (arith, few, ap length c.deref_mut.ensures.value, long old numbered new are same))

pub ranks_of-requires-clause-known : goal.ranks_of-requires-clause-known
ranks_of-requires-clause-known c =
    let old : List Piece = c.args.pieces.now.items in
    let numbered : List Piece = c.number_all.new.pieces in
    let new : List Piece = c.sort_by_least.new.pieces.items in
    let are : AreNumbered old numbered = rw c.deref_mut.ensures.value at c.number_all.ensures in
    let same : IsPermutation numbered new = rw (written-back numbered (drop (length numbered) old) c.args.pieces.now.len (c.number_all.ensures.each ∙ c.deref_mut.ensures.len))
    at c.in_ok-sort_by_least.ensures.same in
    rw c.deref.ensures.value (numbers-known old numbered new are same)

pub ranked-requires-clause-firsts : goal.ranked-requires-clause-firsts
ranked-requires-clause-firsts c =
    let old : List Piece = c.args.pieces.now.items in
    let numbered : List Piece = c.number_all.new.pieces in
    let new : List Piece = c.sort_by_least.new.pieces.items in
    let are : AreNumbered old numbered = rw c.deref_mut.ensures.value at c.number_all.ensures in
    let same : IsPermutation numbered new = rw (written-back numbered (drop (length numbered) old) c.args.pieces.now.len (c.number_all.ensures.each ∙ c.deref_mut.ensures.len))
    at c.in_ok-sort_by_least.ensures.same in
    let ranks = rw c.deref.ensures.value at c.in_ok-ranks.ensures in
    rw (c.deref-2.ensures.value, c.deref-3.ensures.value)
    (λ j d j_in. (let l = c.requires.firsts j d j_in in omega (arith, l, ranks.each, long old numbered new are same)))

pub ranked-requires-clause-seconds : goal.ranked-requires-clause-seconds
ranked-requires-clause-seconds c =
    let old : List Piece = c.args.pieces.now.items in
    let numbered : List Piece = c.number_all.new.pieces in
    let new : List Piece = c.sort_by_least.new.pieces.items in
    let are : AreNumbered old numbered = rw c.deref_mut.ensures.value at c.number_all.ensures in
    let same : IsPermutation numbered new = rw (written-back numbered (drop (length numbered) old) c.args.pieces.now.len (c.number_all.ensures.each ∙ c.deref_mut.ensures.len))
    at c.in_ok-sort_by_least.ensures.same in
    let ranks = rw c.deref.ensures.value at c.in_ok-ranks.ensures in
    rw (c.deref-2.ensures.value, c.deref-4.ensures.value)
    (λ j d j_in. (let l = c.requires.seconds j d j_in in omega (arith, l, ranks.each, long old numbered new are same)))

pub returns : goal.returns
returns c =
    let old : List Piece = c.args.pieces.now.items in
    let numbered : List Piece = c.number_all.new.pieces in
    let new : List Piece = c.sort_by_least.new.pieces.items in
    let are : AreNumbered old numbered = rw c.deref_mut.ensures.value at c.number_all.ensures in
    let same : IsPermutation numbered new = rw (written-back numbered (drop (length numbered) old) c.args.pieces.now.len (c.number_all.ensures.each ∙ c.deref_mut.ensures.len))
    at c.in_ok-sort_by_least.ensures.same in
    let ranks = rw c.deref.ensures.value at c.in_ok-ranks.ensures in
    let is_ranked = rw (c.deref-2.ensures.value, c.deref-3.ensures.value, c.deref-4.ensures.value) at c.ranked.ensures in
    IfOk-weaker c.ranked.result _ _ (λ v is. record {
      numbered = numbered;
      are = are;
      same = same;
      rise = c.in_ok-sort_by_least.ensures.rise;
      each = is.each;
      placed = λ j j_in. rw (is.ranked j j_in) (
        placed old numbered new are same c.in_ok-ranks.ranks.items ranks (get_or c.args.noted.firsts.items j 0) (c.requires.firsts j 0 j_in),
        placed old numbered new are same c.in_ok-ranks.ranks.items ranks (get_or c.args.noted.seconds.items j 0)
            (c.requires.seconds j 0 (omega (arith, j_in, c.requires.each))),
      );
    }) is_ranked

pub returns-in_err-short_id : goal.returns-in_err-short_id
returns-in_err-short_id c = IfOk-from_err _ _ c.from_residual.ensures.0

pub returns-in_err-sort_by_least : goal.returns-in_err-sort_by_least
returns-in_err-sort_by_least c = IfOk-from_err _ _ c.from_residual-in_err-sort_by_least.ensures.0

pub returns-in_err-ranks : goal.returns-in_err-ranks
returns-in_err-ranks c = IfOk-from_err _ _ c.from_residual-in_err-ranks.ensures.0
