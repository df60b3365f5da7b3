use Rattle.std.proofs.Common.{rules}
use Rattle.dpl_cert.specs.Lines.{lines}
use Rattle.dpl_parse.proofs.Seconds.{other_counts_line}
use Rattle.dpl_parse.proofs.reading.counts_of.Goals as goal

pub returns-then-not-are_of-clause-none : goal.returns-then-not-are_of-clause-none
returns-then-not-are_of-clause-none c =
    let counts = c.in_ok-counts.ensures.found in
    other_counts_line c.args.version (lines c.args.bytes.now) _ c.in_ok-counts.counts counts.0 counts.1 (search rules)
