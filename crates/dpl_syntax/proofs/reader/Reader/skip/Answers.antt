use Rattle.std.proofs.Common.{◌≡◌, Err}
use Rattle.std.proofs.lemmas.Result.{err_from_is_err_and}
use Rattle.dpl_spec_format.specs.Records.{record_at}
use Rattle.dpl_records.specs.Seen.{seen}
use Rattle.dpl_syntax.specs.Passing.{FailsSkips, skips_then, IsNextSkipped}
use Rattle.dpl_syntax.proofs.Refusals.{refuses}
use Rattle.dpl_syntax.proofs.Heads.{one_skip, skips_done, skips_fail}
use Rattle.dpl_syntax.proofs.reader.Reader.skip.Goals as goal

pub returns-in_err-record-clause-err : goal.returns-in_err-record-clause-err
returns-in_err-record-clause-err c =
    let p = err_from_is_err_and c.from_residual.result c.from_residual.ensures.1 in
    let b = c.args.self.now.bytes.now in
    let at = c.loop-record.self.at in
    let e = rw c.loop-record.invariant.bytes at c.in_err-record.ensures.err in
    rw (p.1, p.2) (refuses (λ f. record_at b at ≡ Err f) (FailsSkips b skips_then c.args.self.now.at) c.in_err-record.field-0.0
    (λ f x. skips_fail b c.args.self.now.at at f c.loop-record.invariant.passes x) e)

pub loop-record-preserved : goal.loop-record-preserved
loop-record-preserved c =
    let b = c.args.self.now.bytes.now in
    let at = c.loop-record.self.at in
    let next : IsNextSkipped b at (seen c.in-Some.record) = rw (c.loop-record.invariant.bytes) at (rw c.in-Some.is at c.in_ok-record.ensures.some) in
    record {
      bytes = c.loop-record.invariant.bytes;
      passes = one_skip b c.args.self.now.at at (seen c.in-Some.record) c.loop-record.invariant.passes next;
    }

pub returns-clause-ok : goal.returns-clause-ok
returns-clause-ok c =
    let b = c.args.self.now.bytes.now in
    let none = rw c.loop-record.invariant.bytes at (rw c.in_default.is at c.in_ok-record.ensures.none) in
    skips_done b c.args.self.now.at c.loop-record.self.at c.loop-record.invariant.passes none
