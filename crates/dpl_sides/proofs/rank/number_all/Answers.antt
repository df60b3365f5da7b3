use Rattle.std.proofs.Common.{◌<◌, [], length, refl, ap, arith, rules}
use Rattle.std.proofs.lemmas.List.{get_or_default}
use Rattle.dpl_sides.specs.Pieces.{whole_piece}
use Rattle.dpl_sides.proofs.Places.{numbered, numbers-next, numbers-all}
use Rattle.dpl_sides.proofs.rank.number_all.Goals as goal

pub loop-i-preserved : goal.loop-i-preserved
loop-i-preserved c =
    let here : c.loop-i.i < length c.loop-i.pieces = search rules in
    numbers-next c.loop-i.i _ c.args.pieces.now c.loop-i.pieces _ here refl
    (ap (λ x. numbered x c.loop-i.i) (get_or_default c.loop-i.pieces c.loop-i.i c.index-pieces-i.result (whole_piece 0 []) here)) c.loop-i.invariant

pub returns : goal.returns
returns c = numbers-all c.loop-i.i c.args.pieces.now c.loop-i.pieces (omega arith) c.loop-i.invariant
