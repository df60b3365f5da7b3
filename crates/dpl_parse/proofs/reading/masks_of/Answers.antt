use Rattle.std.proofs.Common.{List, ℕ, sym, subst, arith}
use Rattle.dpl_cert.specs.Lines.{lines}
use Rattle.dpl_parse.specs.Reading.{FailsAs}
use Rattle.dpl_parse.proofs.Prefixes.{handed}
use Rattle.dpl_parse.proofs.Versions.{gained_fits}
use Rattle.dpl_parse.proofs.Shapes.{IsBegun, masks_pieces, masks_stitches, masks_gains, masks_end, masks_all, masks_at_stitches, masks_at_gains, masks_at_end}
use Rattle.dpl_parse.proofs.reading.masks_of.Goals as goal

pub returns-in_err-pieces : goal.returns-in_err-pieces
returns-in_err-pieces c =
    let begun : IsBegun c.args.version c.args.head c.args.stitches c.args.gains =
    record { head = c.requires.head; version = c.requires.version; stitches = omega (arith, c.ranges.stitches); gains = c.requires.gains } in
    handed _ c.from_residual.result c.in_err-pieces.field-0.0 c.from_residual.ensures.1
    (masks_pieces c.args.version c.args.head c.args.stitches c.args.gains begun (lines c.args.bytes.now) _ _ c.first_piece-at.ensures.number c.in_err-pieces.ensures.fault)

pub returns-in_err-listed : goal.returns-in_err-listed
returns-in_err-listed c =
    let v = c.args.version in
    let h = c.args.head in
    let k = c.args.stitches in
    let g = c.args.gains in
    let begun : IsBegun v h k g =
    record { head = c.requires.head; version = c.requires.version; stitches = omega (arith, c.ranges.stitches); gains = c.requires.gains } in
    let ps = c.in_ok-pieces.pieces.items in
    let found = c.in_ok-pieces.ensures.found in
    let bad = masks_stitches v h k g ps begun found.0 found.1 (lines c.in_ok-pieces.rest.now) _ c.in_err-listed.field-0.0
    (omega (arith, c.first_piece-at.ensures.number)) c.in_err-listed.ensures.fault in
    handed _ c.from_residual-in_err-listed.result c.in_err-listed.field-0.0 c.from_residual-in_err-listed.ensures.1
    (subst (λ (x : List (List ℕ)). FailsAs x c.in_err-listed.field-0.0) (sym (masks_at_stitches v h k g ps _ _ found.2)) bad)

pub gain_lines-requires-clause-fits : goal.gain_lines-requires-clause-fits
gain_lines-requires-clause-fits c = gained_fits c.args.version c.args.gains c.requires.gains

pub returns-in_err-gained : goal.returns-in_err-gained
returns-in_err-gained c =
    let v = c.args.version in
    let h = c.args.head in
    let k = c.args.stitches in
    let g = c.args.gains in
    let begun : IsBegun v h k g =
    record { head = c.requires.head; version = c.requires.version; stitches = omega (arith, c.ranges.stitches); gains = c.requires.gains } in
    let ps = c.in_ok-pieces.pieces.items in
    let ss = c.in_ok-listed.listed.items in
    let found = c.in_ok-pieces.ensures.found in
    let more = c.in_ok-listed.ensures.found in
    let bad = masks_gains v h k g ps ss begun found.0 found.1 more.0 more.1 (lines c.in_ok-listed.rest.now) _ c.in_err-gained.field-0.0
    (omega (arith, c.first_piece-at.ensures.number)) c.in_err-gained.ensures.fault in
    handed _ c.from_residual-in_err-gained.result c.in_err-gained.field-0.0 c.from_residual-in_err-gained.ensures.1
    (subst (λ (x : List (List ℕ)). FailsAs x c.in_err-gained.field-0.0) (sym (masks_at_gains v h k g ps ss _ _ _ found.2 more.2)) bad)

pub returns-in_err-ended : goal.returns-in_err-ended
returns-in_err-ended c =
    let v = c.args.version in
    let h = c.args.head in
    let k = c.args.stitches in
    let g = c.args.gains in
    let begun : IsBegun v h k g =
    record { head = c.requires.head; version = c.requires.version; stitches = omega (arith, c.ranges.stitches); gains = c.requires.gains } in
    let ps = c.in_ok-pieces.pieces.items in
    let ss = c.in_ok-listed.listed.items in
    let gs = c.in_ok-gained.gained in
    let found = c.in_ok-pieces.ensures.found in
    let more = c.in_ok-listed.ensures.found in
    let last = c.in_ok-gained.ensures.found in
    let bad = masks_end v h k g ps ss gs begun found.0 found.1 more.0 more.1 last.0 last.1 (lines c.in_ok-gained.rest.now) _ c.in_err-ended.field-0.0
    (omega (arith, c.first_piece-at.ensures.number, c.number_of.ensures)) c.in_err-ended.ensures in
    handed _ c.from_residual-in_err-ended.result c.in_err-ended.field-0.0 c.from_residual-in_err-ended.ensures.1
    (subst (λ (x : List (List ℕ)). FailsAs x c.in_err-ended.field-0.0) (sym (masks_at_end v h k g ps ss gs _ _ _ _ found.2 more.2 last.2)) bad)

pub returns : goal.returns
returns c =
    let v = c.args.version in
    let h = c.args.head in
    let k = c.args.stitches in
    let g = c.args.gains in
    let begun : IsBegun v h k g =
    record { head = c.requires.head; version = c.requires.version; stitches = omega (arith, c.ranges.stitches); gains = c.requires.gains } in
    let found = c.in_ok-pieces.ensures.found in
    let more = c.in_ok-listed.ensures.found in
    let last = c.in_ok-gained.ensures.found in
    rw (c.of.ensures, c.of-2.ensures) (masks_all v h k g c.in_ok-pieces.pieces.items c.in_ok-listed.listed.items c.in_ok-gained.gained begun found.0 found.1 more.0 more.1 last.0 last.1
    (lines c.args.bytes.now) (lines c.in_ok-pieces.rest.now) (lines c.in_ok-listed.rest.now) (lines c.in_ok-gained.rest.now) found.2 more.2 last.2 c.in_ok-ended.ensures)
