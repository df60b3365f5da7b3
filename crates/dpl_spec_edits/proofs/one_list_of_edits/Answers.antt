use Rattle.dpl_spec_edits.proofs.Lists.{one_list, one_first_bad, good_or_bad}
use Rattle.dpl_spec_edits.proofs.one_list_of_edits.Goals as goal

pub returns-clause-edits : goal.returns-clause-edits
returns-clause-edits c = one_list

pub returns-clause-line : goal.returns-clause-line
returns-clause-line c = one_first_bad

pub returns-clause-apart : goal.returns-clause-apart
returns-clause-apart c = good_or_bad
