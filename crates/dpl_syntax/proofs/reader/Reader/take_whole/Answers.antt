use Rattle.std.proofs.lemmas.Result.{err_from_is_err_and}
use Rattle.dpl_records.specs.Seen.{seen}
use Rattle.dpl_syntax.proofs.reader.Reader.take_whole.Goals as goal

pub returns-clause-ok : goal.returns-clause-ok
returns-clause-ok c = record {
  first = seen c.in_ok-record.record;
  is = rw c.in_ok-record.ensures.bytes at c.whole.ensures;
  found = c.in_ok-record.ensures.exact;
}

pub returns-in_err-record-clause-ok : goal.returns-in_err-record-clause-ok
returns-in_err-record-clause-ok c = rw (err_from_is_err_and c.from_residual.result c.from_residual.ensures.1).1 tt

pub returns-in_err-record-clause-err : goal.returns-in_err-record-clause-err
returns-in_err-record-clause-err c =
    let p = err_from_is_err_and c.from_residual.result c.from_residual.ensures.1 in
    rw (p.1, p.2) c.in_err-record.ensures.exact
