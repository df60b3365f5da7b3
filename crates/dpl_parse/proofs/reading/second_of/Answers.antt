use Rattle.std.proofs.Common.{rules}
use Rattle.dpl_cert.specs.Lines.{lines}
use Rattle.dpl_parse.proofs.Seconds.{other_second}
use Rattle.dpl_parse.proofs.reading.second_of.Goals as goal

pub returns-then-not-follows-clause-none : goal.returns-then-not-follows-clause-none
returns-then-not-follows-clause-none c =
    let second = c.in_ok-second.ensures.found in
    other_second c.args.version (lines c.args.bytes.now) _ c.in_ok-second.second second.0 second.1 (search rules)
