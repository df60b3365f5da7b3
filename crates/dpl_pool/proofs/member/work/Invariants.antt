use Rattle.std.proofs.Common.{◌≡◌, map}
use Rattle.dpl_pool.specs.Seating.{board_table}
use Rattle.dpl_pool.specs.Members.{IsMember}
use Rattle.dpl_pool.proofs.member.work.Given as goal

abbrev pub invariant-loop : goal.invariant-loop
invariant-loop g l = (l.member.number ≡ l.fn.member.number)
    × IsMember (map board_table l.floor.boards.items) (map g.J.Job.sheet l.jobs) l.floor.deal l.member.number l.member
