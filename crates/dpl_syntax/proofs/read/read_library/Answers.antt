use Rattle.dpl_syntax.proofs.OneReading.{is_held, is_refused}
use Rattle.dpl_syntax.proofs.read.read_library.Goals as goal

pub returns-clause-held : goal.returns-clause-held
returns-clause-held c = is_held c.args.bytes.now c.library.result c.library.ensures.library c.library.ensures.fault

pub returns-clause-refused : goal.returns-clause-refused
returns-clause-refused c = is_refused c.args.bytes.now c.library.result c.library.ensures.library c.library.ensures.fault
