use Rattle.std.proofs.Common.{List, length, drop, ◌∙◌, sym, subst}
use Rattle.std.proofs.lemmas.Result.{IfOk-from_err}
use Rattle.dpl_spec_split.specs.declared.Rect.{Rect}
use Rattle.dpl_sides.specs.Corners.{AreSlabsWithin}
use Rattle.dpl_sides.specs.Noted.{AreSidesNoted, StandsAfterFrom, StandsBeforeFrom}
use Rattle.dpl_sides.specs.Pieces.{parts_in}
use Rattle.dpl_sides.proofs.Noting.{written-back}
use Rattle.dpl_sides.proofs.noted.note_sides.Goals as goal

pub note_beside-requires-clause-each : goal.note_beside-requires-clause-each
note_beside-requires-clause-each c = rw c.deref_mut.ensures.value c.requires.firsts

pub note_beside-requires-then-own-le-FEW_ZONES-clause-each : goal.note_beside-requires-then-own-le-FEW_ZONES-clause-each
note_beside-requires-then-own-le-FEW_ZONES-clause-each c = rw c.deref_mut-then-own-le-FEW_ZONES.ensures.value c.requires.seconds

pub note_firsts-requires-clause-each : goal.note_firsts-requires-clause-each
note_firsts-requires-clause-each c = rw c.deref_mut-2.ensures.value c.requires.firsts

pub note_seconds-requires-clause-each : goal.note_seconds-requires-clause-each
note_seconds-requires-clause-each c = rw c.deref_mut-3.ensures.value c.requires.seconds

pub returns-then-own-le-FEW_ZONES-clause-firsts : goal.returns-then-own-le-FEW_ZONES-clause-firsts
returns-then-own-le-FEW_ZONES-clause-firsts c =
    rw (written-back c.note_beside.new.noted (drop (length c.note_beside.new.noted) c.args.noted.now.firsts.items) c.args.noted.now.firsts.len
    (c.note_beside.ensures.each ∙ c.deref_mut.ensures.len)) (rw c.deref_mut.ensures.value at c.note_beside.ensures)

pub returns-then-own-le-FEW_ZONES-clause-seconds : goal.returns-then-own-le-FEW_ZONES-clause-seconds
returns-then-own-le-FEW_ZONES-clause-seconds c =
    subst (AreSidesNoted (StandsAfterFrom (parts_in c.args.pieces.now) c.args.from) c.args.zones.now c.args.own.now c.args.noted.now.seconds.items)
    (sym (written-back c.note_beside-then-own-le-FEW_ZONES.new.noted _ c.args.noted.now.seconds.len
    (c.note_beside-then-own-le-FEW_ZONES.ensures.each ∙ c.deref_mut-then-own-le-FEW_ZONES.ensures.len)))
    (rw c.deref_mut-then-own-le-FEW_ZONES.ensures.value at c.note_beside-then-own-le-FEW_ZONES.ensures)

pub returns-clause-firsts : goal.returns-clause-firsts
returns-clause-firsts c =
    let parts : List (List Rect) = parts_in c.args.pieces.now in
    let slabs : AreSlabsWithin parts c.args.from (length parts) c.deref.result.now =
    subst (AreSlabsWithin parts c.args.from (length parts)) (sym c.deref.ensures.value) c.in_ok-list_slabs.ensures in
    let are = c.in_ok-note_firsts.ensures parts c.args.from slabs in
    subst (AreSidesNoted (StandsBeforeFrom parts c.args.from) c.args.zones.now c.args.own.now c.args.noted.now.firsts.items)
    (sym (written-back c.note_firsts.new.noted _ c.args.noted.now.firsts.len (are.each ∙ c.deref_mut-2.ensures.len))) (rw c.deref_mut-2.ensures.value at are)

pub returns-clause-seconds : goal.returns-clause-seconds
returns-clause-seconds c =
    let parts : List (List Rect) = parts_in c.args.pieces.now in
    let slabs : AreSlabsWithin parts c.args.from (length parts) c.deref-2.result.now =
    subst (AreSlabsWithin parts c.args.from (length parts)) (sym c.deref-2.ensures.value) c.in_ok-list_slabs.ensures in
    let are = c.in_ok-note_seconds.ensures parts c.args.from slabs in
    subst (AreSidesNoted (StandsAfterFrom parts c.args.from) c.args.zones.now c.args.own.now c.args.noted.now.seconds.items)
    (sym (written-back c.note_seconds.new.noted _ c.args.noted.now.seconds.len (are.each ∙ c.deref_mut-3.ensures.len))) (rw c.deref_mut-3.ensures.value at are)

pub returns-in_err-short_id-clause-firsts : goal.returns-in_err-short_id-clause-firsts
returns-in_err-short_id-clause-firsts c = IfOk-from_err _ _ c.from_residual.ensures.0

pub returns-in_err-short_id-clause-seconds : goal.returns-in_err-short_id-clause-seconds
returns-in_err-short_id-clause-seconds c = IfOk-from_err _ _ c.from_residual.ensures.0

pub returns-in_err-list_slabs-clause-firsts : goal.returns-in_err-list_slabs-clause-firsts
returns-in_err-list_slabs-clause-firsts c = IfOk-from_err _ _ c.from_residual-in_err-list_slabs.ensures.0

pub returns-in_err-list_slabs-clause-seconds : goal.returns-in_err-list_slabs-clause-seconds
returns-in_err-list_slabs-clause-seconds c = IfOk-from_err _ _ c.from_residual-in_err-list_slabs.ensures.0

pub returns-in_err-note_firsts-clause-firsts : goal.returns-in_err-note_firsts-clause-firsts
returns-in_err-note_firsts-clause-firsts c = IfOk-from_err _ _ c.from_residual-in_err-note_firsts.ensures.0

pub returns-in_err-note_firsts-clause-seconds : goal.returns-in_err-note_firsts-clause-seconds
returns-in_err-note_firsts-clause-seconds c = IfOk-from_err _ _ c.from_residual-in_err-note_firsts.ensures.0

pub returns-in_err-note_seconds-clause-firsts : goal.returns-in_err-note_seconds-clause-firsts
returns-in_err-note_seconds-clause-firsts c = IfOk-from_err _ _ c.from_residual-in_err-note_seconds.ensures.0

pub returns-in_err-note_seconds-clause-seconds : goal.returns-in_err-note_seconds-clause-seconds
returns-in_err-note_seconds-clause-seconds c = IfOk-from_err _ _ c.from_residual-in_err-note_seconds.ensures.0
