use Rattle.std.proofs.Common.{length, sym, ◌∙◌, subst, arith}
use Rattle.std.proofs.lemmas.Result.{IfOk-from_err}
use Rattle.dpl_sides.specs.Noted.{AreRanksBelow}
use Rattle.dpl_sides.proofs.Noting.{written-back}
use Rattle.dpl_sides.proofs.rank.ranks_of.Goals as goal

pub note_places-requires-clause-each : goal.note_places-requires-clause-each
note_places-requires-clause-each c = omega (arith, c.deref_mut.ensures.len, c.in_ok-ranks.ensures.len)

pub returns : goal.returns
returns c = subst (AreRanksBelow c.args.pieces.now (length c.args.pieces.now))
    (sym (written-back c.note_places.new.ranks _ c.in_ok-ranks.ranks.len (c.note_places.ensures.each ∙ sym c.in_ok-ranks.ensures.len))) c.note_places.ensures

pub returns-in_err-ranks : goal.returns-in_err-ranks
returns-in_err-ranks c = IfOk-from_err _ _ c.from_residual.ensures.0
