use Rattle.dpl_turn.specs.Seats.{knows}
use Rattle.dpl_pool.proofs.Members.{answers_keep, answers_ok, answers_twice}
use Rattle.dpl_pool.proofs.member.post_tile.Goals as goal

pub returns-in-Ok-clause-keeps : goal.returns-in-Ok-clause-keeps
returns-in-Ok-clause-keeps g c = answers_keep (knows c.args.seat.now) _ _ _ (knows c.post.new.seat) c.post.ensures.answer

pub returns-in-Ok-clause-posted : goal.returns-in-Ok-clause-posted
returns-in-Ok-clause-posted g c = λ _. answers_ok (knows c.args.seat.now) c.args.worker c.args.tile c.post.result c.in-Ok.field-0
    (knows c.post.new.seat) c.in-Ok.is c.post.ensures.answer

pub returns-in-Err-clause-keeps : goal.returns-in-Err-clause-keeps
returns-in-Err-clause-keeps g c = answers_keep (knows c.args.seat.now) _ _ _ (knows c.post.new.seat) c.post.ensures.answer

pub returns-in-Err-clause-posted : goal.returns-in-Err-clause-posted
returns-in-Err-clause-posted g c = λ on. answers_twice (knows c.args.seat.now) c.args.worker c.args.tile c.post.result c.in-Err.fault
    (knows c.post.new.seat) c.in-Err.is (c.is_posted.ensures.0 on) c.post.ensures.answer
