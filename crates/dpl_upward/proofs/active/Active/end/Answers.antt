use Rattle.std.proofs.Common.{w32, FitsSigned}
use Rattle.std.proofs.lemmas.Int.{to_z-of_z}
use Rattle.dpl_upward.proofs.ActiveLaws.{fills, active-tall, rise-drop}
use Rattle.dpl_upward.proofs.active.Active.end.Goals as goal

pub returns-clause-fill : goal.returns-clause-fill
returns-clause-fill c =
    let fits : FitsSigned w32 c.end_of_band.result = record { sfits = c.end_of_band.type_inv } in
    rw (to_z-of_z w32 c.end_of_band.result fits)
    (fills c.args.low c.args.all.now c.args.self.now.begun _ c.requires.begun c.end_of_band.result
    (rw c.deref.ensures.value at c.end_of_band.ensures.ends) (rw c.split_at.ensures.back at c.end_of_band.ensures.begins))

pub split_at-requires : goal.split_at-requires
split_at-requires c = c.requires.begun.are.within

pub end_of_band-requires-clause-order : goal.end_of_band-requires-clause-order
end_of_band-requires-clause-order c = rw (to_z-of_z w32 c.args.low c.ranges.low, to_z-of_z w32 c.args.top c.ranges.top) c.requires.order

pub end_of_band-requires-clause-active : goal.end_of_band-requires-clause-active
end_of_band-requires-clause-active c =
    rw (to_z-of_z w32 c.args.low c.ranges.low, c.deref.ensures.value) (active-tall c.args.low c.args.all.now c.args.self.now.begun _ c.requires.begun)

pub end_of_band-requires-clause-rise : goal.end_of_band-requires-clause-rise
end_of_band-requires-clause-rise c = rw c.split_at.ensures.back (rise-drop c.args.self.now.begun c.args.all.now c.requires.rise)

pub end_of_band-requires-clause-others : goal.end_of_band-requires-clause-others
end_of_band-requires-clause-others c = rw (to_z-of_z w32 c.args.low c.ranges.low, c.split_at.ensures.back) c.requires.begun.ahead

pub returns-clause-above : goal.returns-clause-above
returns-clause-above c =
    let fits : FitsSigned w32 c.end_of_band.result = record { sfits = c.end_of_band.type_inv } in
    rw (to_z-of_z w32 c.end_of_band.result fits) (rw (to_z-of_z w32 c.args.low c.ranges.low) at c.end_of_band.ensures.above)

pub returns-clause-below : goal.returns-clause-below
returns-clause-below c =
    let fits : FitsSigned w32 c.end_of_band.result = record { sfits = c.end_of_band.type_inv } in
    rw (to_z-of_z w32 c.end_of_band.result fits) (rw (to_z-of_z w32 c.args.top c.ranges.top) at c.end_of_band.ensures.below)
