use Rattle.std.proofs.Common.{ap}
use Rattle.std.specs.Prelude.{Err}
use Rattle.dpl_run.proofs.Inputs.{seen, too_large_seen}
use Rattle.dpl_run.proofs.input.read_input.Goals as goal

pub returns-in-Ok-clause-read : goal.returns-in-Ok-clause-read
returns-in-Ok-clause-read g c = seen (g.H.Host.told c.args.host.now) c.args.name.now c.in-Ok.bytes.items c.in-Ok.ensures.bytes c.in-Ok.ensures.size

pub returns-in-Err-TooLarge-clause-read : goal.returns-in-Err-TooLarge-clause-read
returns-in-Err-TooLarge-clause-read g c = too_large_seen (g.H.Host.told c.args.host.now) c.args.name.now (c.in-Err-TooLarge.ensures.large (ap Err c.in-Err-TooLarge.field-0-is))
