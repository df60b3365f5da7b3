use Rattle.std.specs.Prelude.{Result, Ok, Err, OnOk}
use Rattle.dpl_demo.proofs.Rows.{two_puts}
use Rattle.dpl_demo.proofs.layout.put_row.Goals as goal

on_ok : {T E P Q : Type 0} (r : Result T E) → (P → Q) → OnOk r P → OnOk r Q
on_ok (Ok x) f p = f p
on_ok (Err e) f p = tt

pub returns : goal.returns
returns c = on_ok c.put_boundary-2.result (two_puts _ _ _ _ _ _ _ c.bar-left.ensures c.bar-right.ensures c.in_ok-put_boundary.ensures.ok) c.put_boundary-2.ensures.ok
