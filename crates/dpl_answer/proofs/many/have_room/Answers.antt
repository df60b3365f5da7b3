use Rattle.std.proofs.Common.{◌≡◌, List, arith, map, subst}
use Rattle.std.proofs.lemmas.List.{take_all}
use Rattle.dpl_pool.specs.Numbering.{tile_count}
use Rattle.dpl_answer.specs.Many.{tiles_left}
use Rattle.dpl_answer.specs.declared.many.Start.{Start}
use Rattle.dpl_answer.proofs.many.have_room.Goals as goal

pub returns : goal.returns
returns c = λ yes.
    let all = take_all c.loop-start.start-index c.args.starts.now c.loop-start-test.false in
    let sum = subst (λ (l : List Start). c.loop-start.tiles ≡ tile_count (map tiles_left l)) all c.loop-start.invariant.0 in
    omega (arith, sum, c.loop-start.invariant.1)
