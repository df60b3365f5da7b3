use Rattle.dpl_flatten.proofs.first.is_wanted.Goals as goal

pub is_recursive-requires-clause-links : goal.is_recursive-requires-clause-links
is_recursive-requires-clause-links c = rw c.in-Recursive.is at c.requires.levels

pub returns-in-Missing : goal.returns-in-Missing
returns-in-Missing c = rw c.in-Missing.is c.is_missing.ensures

pub returns-in-Recursive : goal.returns-in-Recursive
returns-in-Recursive c = rw c.in-Recursive.is c.is_recursive.ensures

pub returns-in-Refused : goal.returns-in-Refused
returns-in-Refused c = rw c.in-Refused.is c.is_refused.ensures
