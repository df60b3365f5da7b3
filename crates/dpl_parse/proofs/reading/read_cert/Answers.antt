use Rattle.dpl_parse.proofs.Whole.{is_found, is_line_fault}
use Rattle.dpl_parse.proofs.Unique.{read_back}
use Rattle.dpl_parse.proofs.reading.read_cert.Goals as goal

pub returns-clause-found : goal.returns-clause-found
returns-clause-found c = is_found c.args.bytes.now c.read_lines.result c.read_lines.ensures

pub returns-clause-line : goal.returns-clause-line
returns-clause-line c = is_line_fault c.args.bytes.now c.read_lines.result c.read_lines.ensures

pub returns-clause-back : goal.returns-clause-back
returns-clause-back c = read_back c.args.bytes.now c.read_lines.result c.read_lines.ensures
