use Rattle.std.proofs.Common.{◌≡◌, ◌≤◌, length, take}
use Rattle.dpl_spec_format.specs.Fields as fields
use Rattle.dpl_records.proofs.field.name_of.Given as goal

abbrev pub invariant-loop-len : goal.invariant-loop-len
invariant-loop-len l = (l.len ≤ length l.body) × (fields.name_of (take l.len l.body) ≡ fields.name_of l.body)

abbrev pub decreases-loop-len : goal.decreases-loop-len
decreases-loop-len l = l.len
