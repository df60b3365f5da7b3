use Rattle.std.proofs.Common.{sym, ◌∙◌, subst, rules}
use Rattle.std.proofs.lemmas.Result.{IfOk-from_err}
use Rattle.dpl_sides.specs.Noted.{AreSidesNoted, StandsBeforeFrom}
use Rattle.dpl_sides.proofs.Noting.{written-back}
use Rattle.dpl_sides.proofs.noted.firsts_of.Goals as goal

pub returns : goal.returns
returns c = λ parts slabs. (
    let are = c.in_ok-note_firsts.ensures parts 0 slabs in
    record {
      old = c.deref_mut.result.now;
      each = search rules;
      are = subst (AreSidesNoted (StandsBeforeFrom parts 0) c.args.zones.now c.args.own.now c.deref_mut.result.now)
          (sym (written-back c.note_firsts.new.noted _ c.in_ok-firsts.firsts.len (are.each ∙ c.deref_mut.ensures.len))) are;
    })

pub returns-in_err-firsts : goal.returns-in_err-firsts
returns-in_err-firsts c = IfOk-from_err _ _ c.from_residual.ensures.0

pub returns-in_err-note_firsts : goal.returns-in_err-note_firsts
returns-in_err-note_firsts c = IfOk-from_err _ _ c.from_residual-in_err-note_firsts.ensures.0
