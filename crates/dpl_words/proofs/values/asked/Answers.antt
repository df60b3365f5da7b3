use Rattle.dpl_words.proofs.values.asked.Goals as goal

pub returns-clause-ranges : goal.returns-clause-ranges
returns-clause-ranges c = c.request_by.ensures.ranges

pub returns-clause-apart : goal.returns-clause-apart
returns-clause-apart c = c.request_by.ensures.apart
