use Rattle.dpl_tile.proofs.MeetingLaws.{slice-at}
use Rattle.dpl_tile.proofs.finding.found_at.Goals as goal

pub returns : goal.returns
returns c = λ m. slice-at c.args.meetings.now c.args.place c.requires.rise _ _ c.start_of-start.ensures c.end_from-end.ensures m
