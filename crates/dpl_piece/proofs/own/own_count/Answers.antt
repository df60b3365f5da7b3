use Rattle.std.proofs.Common.{◌≡◌, ◌<◌, length, get_or, rules}
use Rattle.dpl_piece.specs.Pieces.{feature_at}
use Rattle.dpl_piece.proofs.Turns.{own-next}
use Rattle.dpl_piece.proofs.own.own_count.Goals as goal

pub loop-i-preserved : goal.loop-i-preserved
loop-i-preserved c =
    let here : c.loop-i.i < length c.args.numbers.now = search rules in
    let is : feature_at c.args.zones.now (get_or c.args.numbers.now c.loop-i.i 0) ≡ c.args.feature = search rules in
    own-next c.args.zones.now c.args.numbers.now c.loop-i.i c.args.feature here is c.loop-i.invariant
