use Rattle.std.proofs.Common.{◌≡◌, length, map, refl, rules}
use Rattle.std.proofs.lemmas.Result.{IfOk-from_err}
use Rattle.dpl_orient.specs.Masks.{is_second}
use Rattle.dpl_masks.proofs.InkLaws.{inks-noted, noted-none}
use Rattle.dpl_masks.proofs.ink.inks_of.Goals as goal

pub note_wholes-requires-clause-none : goal.note_wholes-requires-clause-none
note_wholes-requires-clause-none c = noted-none c.args.wholes.now c.in_ok-inks.inks.items c.args.count (search rules)

pub returns : goal.returns
returns c =
    let each : length c.note_wholes.new.inks.items ≡ c.args.count = search rules in
    let all = c.note_pieces.ensures c.args.wholes.now
    (inks-noted _ c.args.owners.now (map is_second c.args.colours.now) c.args.wholes.now c.note_wholes.new.inks.items refl
    c.note_wholes.ensures.noted) in
    rw each at all

pub returns-in_err-inks : goal.returns-in_err-inks
returns-in_err-inks c = IfOk-from_err _ _ c.from_residual.ensures.0
