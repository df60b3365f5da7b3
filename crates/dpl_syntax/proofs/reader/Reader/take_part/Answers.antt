use Rattle.std.proofs.Common.{◌≡◌, ℕ, Err}
use Rattle.std.proofs.lemmas.Result.{err_from_is_err_and}
use Rattle.dpl_spec_format.specs.Records.{Record}
use Rattle.dpl_syntax.specs.Reading as reading
use Rattle.dpl_syntax.specs.Passing.{FailsSkips, skips_then, part_then}
use Rattle.dpl_syntax.proofs.Refusals.{refuses}
use Rattle.dpl_syntax.proofs.Heads.{part_ok, part_fails, no_part}
use Rattle.dpl_syntax.proofs.reader.Reader.take_part.Goals as goal

pub returns-in_err-part-clause-err : goal.returns-in_err-part-clause-err
returns-in_err-part-clause-err c =
    let p = err_from_is_err_and c.from_residual.result c.from_residual.ensures.1 in
    let b = c.args.self.now.bytes.now in
    rw (p.1, p.2) (refuses (λ f. reading.take b c.args.kind c.args.self.now.at ≡ Err f)
    (FailsSkips b (part_then c.args.kind) c.args.self.now.at) c.in_err-part.field-0.0
    (no_part b c.args.kind c.args.self.now.at c.requires) c.in_err-part.ensures.err)

pub returns-in_err-skip-clause-err : goal.returns-in_err-skip-clause-err
returns-in_err-skip-clause-err c =
    let p = err_from_is_err_and c.from_residual-in_err-skip.result c.from_residual-in_err-skip.ensures.1 in
    let b = c.args.self.now.bytes.now in
    let w = c.in_ok-part.ensures.ok in
    let y : Record × ℕ = (w.first, c.take_whole.new.self.at) in
    let e = rw c.in_ok-part.ensures.bytes at c.in_err-skip.ensures.err in
    rw (p.1, p.2) (refuses (FailsSkips b skips_then y.1) (FailsSkips b (part_then c.args.kind) c.args.self.now.at) c.in_err-skip.field-0.0
    (part_fails b c.args.kind c.args.self.now.at c.requires y w.found) e)

pub returns-clause-ok : goal.returns-clause-ok
returns-clause-ok c =
    let b = c.args.self.now.bytes.now in
    let w = c.in_ok-part.ensures.ok in
    let y : Record × ℕ = (w.first, c.take_whole.new.self.at) in
    let skips = rw c.in_ok-part.ensures.bytes at c.in_ok-skip.ensures.ok in
    record {
      first = w.first;
      is = w.is;
      passes = part_ok b c.args.kind c.args.self.now.at c.requires y w.found c.skip.new.self.at skips;
    }

pub returns-in_err-part-clause-ok : goal.returns-in_err-part-clause-ok
returns-in_err-part-clause-ok c = rw (err_from_is_err_and c.from_residual.result c.from_residual.ensures.1).1 tt

pub returns-in_err-skip-clause-ok : goal.returns-in_err-skip-clause-ok
returns-in_err-skip-clause-ok c = rw (err_from_is_err_and c.from_residual-in_err-skip.result c.from_residual-in_err-skip.ensures.1).1 tt
