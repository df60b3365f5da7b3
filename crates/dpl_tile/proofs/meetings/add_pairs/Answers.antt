use Rattle.std.proofs.Common.{arith}
use Rattle.std.proofs.lemmas.List.Elements.{Contains-get_or}
use Rattle.dpl_tile.specs.Meetings.{IsMeetingOf}
use Rattle.dpl_tile.proofs.Loops.{each-all, each-next, each-none}
use Rattle.dpl_tile.proofs.meetings.add_pairs.Goals as goal

pub loop-pair-init : goal.loop-pair-init
loop-pair-init c = each-none (IsMeetingOf c.args.spacing c.args.owners.now c.args.grid.now c.args.items.now) c.args.pairs.now _

pub add_pair-requires-clause-pair : goal.add_pair-requires-clause-pair
add_pair-requires-clause-pair c = c.requires.pairs _ (Contains-get_or c.args.pairs.now c.loop-pair.pair-index _ c.loop-pair-test.true)

pub loop-pair-preserved : goal.loop-pair-preserved
loop-pair-preserved c = each-next (IsMeetingOf c.args.spacing c.args.owners.now c.args.grid.now c.args.items.now) c.args.pairs.now c.loop-pair.pair-index _ _ c.loop-pair.meetings.items _
    c.loop-pair-test.true c.loop-pair.invariant c.in_ok-add_pair.ensures

pub returns : goal.returns
returns c = each-all (IsMeetingOf c.args.spacing c.args.owners.now c.args.grid.now c.args.items.now) c.args.pairs.now c.loop-pair.pair-index _
    c.loop-pair.meetings.items (omega arith) c.loop-pair.invariant
