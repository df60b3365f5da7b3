use Rattle.dpl_spec_format.proofs.Uniqueness.{one_library, one_fault, apart}
use Rattle.dpl_spec_format.proofs.one_reading.Goals as goal

pub returns-clause-library : goal.returns-clause-library
returns-clause-library c = one_library

pub returns-clause-fault : goal.returns-clause-fault
returns-clause-fault c = one_fault

pub returns-clause-apart : goal.returns-clause-apart
returns-clause-apart c = apart
