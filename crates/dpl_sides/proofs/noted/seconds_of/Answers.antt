use Rattle.std.proofs.Common.{sym, ◌∙◌, subst, rules}
use Rattle.std.proofs.lemmas.Result.{IfOk-from_err}
use Rattle.dpl_sides.specs.Noted.{AreSidesNoted, StandsAfterFrom}
use Rattle.dpl_sides.proofs.Noting.{written-back}
use Rattle.dpl_sides.proofs.noted.seconds_of.Goals as goal

pub returns : goal.returns
returns c = λ parts slabs. (
    let are = c.in_ok-note_seconds.ensures parts 0 slabs in
    record {
      old = c.deref_mut.result.now;
      each = search rules;
      are = subst (AreSidesNoted (StandsAfterFrom parts 0) c.args.zones.now c.args.own.now c.deref_mut.result.now)
          (sym (written-back c.note_seconds.new.noted _ c.in_ok-seconds.seconds.len (are.each ∙ c.deref_mut.ensures.len))) are;
    })

pub returns-in_err-seconds : goal.returns-in_err-seconds
returns-in_err-seconds c = IfOk-from_err _ _ c.from_residual.ensures.0

pub returns-in_err-note_seconds : goal.returns-in_err-note_seconds
returns-in_err-note_seconds c = IfOk-from_err _ _ c.from_residual-in_err-note_seconds.ensures.0
