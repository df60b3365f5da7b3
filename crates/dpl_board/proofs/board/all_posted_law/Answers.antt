use Rattle.dpl_board.proofs.AllPosted.{all-posted}
use Rattle.dpl_board.proofs.board.all_posted_law.Goals as goal

pub returns : goal.returns
returns c = all-posted
