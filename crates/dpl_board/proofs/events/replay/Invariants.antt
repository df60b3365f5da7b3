use Rattle.std.proofs.Common.{take}
use Rattle.dpl_board.specs.Cores.{IsCore}
use Rattle.dpl_board.proofs.events.replay.Given as goal

abbrev pub invariant-loop-event : goal.invariant-loop-event
invariant-loop-event g l = IsCore (g.J.Job.sheet l.job) (take l.event-index l.events) l.taken.items l.board
