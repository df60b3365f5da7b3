use Rattle.dpl_law_verdict.proofs.Lines.{good-lines}
use Rattle.dpl_law_verdict.proofs.valid_lines_are_good.Goals as goal

pub returns : goal.returns
returns c = good-lines
