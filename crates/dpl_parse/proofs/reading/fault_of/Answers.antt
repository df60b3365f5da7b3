use Rattle.std.proofs.Common.{arith}
use Rattle.dpl_cert.specs.Lines.{lines}
use Rattle.dpl_parse.proofs.Prefixes.{handed}
use Rattle.dpl_parse.proofs.Openings.{fault_end}
use Rattle.dpl_parse.proofs.reading.fault_of.Goals as goal

pub returns-in_err-ended : goal.returns-in_err-ended
returns-in_err-ended c =
    handed _ c.from_residual.result c.in_err-ended.field-0.0 c.from_residual.ensures.1
    (fault_end c.args.name c.args.at (omega (arith, c.ranges.at)) (lines c.args.bytes.now) _ c.in_err-ended.ensures)
