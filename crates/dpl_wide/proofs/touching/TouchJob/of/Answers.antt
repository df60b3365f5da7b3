use Rattle.std.proofs.Common.{rules}
use Rattle.std.proofs.lemmas.Result.{IfOk-from_err}
use Rattle.dpl_wide.proofs.touching.TouchJob.of.Goals as goal

pub invariant_of-result : goal.invariant_of-result
invariant_of-result c = record {
  canonical = c.rects.ensures.canonical;
  few = search rules;
  parts = c.requires.parts;
  owners = c.requires.owners;
  spacing = c.requires.spacing;
  listed = rw (c.items.ensures.value, c.parts.ensures, c.requires.parts) at c.in_ok-tree.ensures;
}

pub returns-in_err-_few-clause-job : goal.returns-in_err-_few-clause-job
returns-in_err-_few-clause-job c = IfOk-from_err _ _ c.from_residual.ensures.0

pub returns-in_err-_few-clause-few : goal.returns-in_err-_few-clause-few
returns-in_err-_few-clause-few c = IfOk-from_err _ _ c.from_residual.ensures.0

pub returns-in_err-tree-clause-job : goal.returns-in_err-tree-clause-job
returns-in_err-tree-clause-job c = IfOk-from_err _ _ c.from_residual-in_err-tree.ensures.0

pub returns-in_err-tree-clause-few : goal.returns-in_err-tree-clause-few
returns-in_err-tree-clause-few c = IfOk-from_err _ _ c.from_residual-in_err-tree.ensures.0
