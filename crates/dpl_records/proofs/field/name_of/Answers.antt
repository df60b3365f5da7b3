use Rattle.std.proofs.Common.{◌∙◌, arith}
use Rattle.dpl_records.proofs.Names.{without_zero, is_name, is_empty_name}
use Rattle.dpl_records.proofs.field.name_of.Goals as goal
use Rattle.dpl_records.proofs.field.name_of.Goals.{then-loop-len-test+else-body-len-eq0, else-loop-len-test}

pub loop-len-preserved : goal.loop-len-preserved
loop-len-preserved c = (omega arith, without_zero _ _ c.loop-len-test.true c.loop-len.invariant.0 c.if-body-len-eq0.true ∙ c.loop-len.invariant.1)

pub returns : goal.returns
returns c =
    elim c.loop-len-test.branch [
      | then-loop-len-test+else-body-len-eq0 w ↦ is_name _ _ w.loop-len-test.true c.loop-len.invariant.0 w.if-body-len-eq0.false ∙ c.loop-len.invariant.1
      | else-loop-len-test w ↦ is_empty_name _ _ w.loop-len-test.false ∙ c.loop-len.invariant.1
    ]
