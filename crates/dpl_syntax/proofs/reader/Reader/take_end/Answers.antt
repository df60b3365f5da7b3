use Rattle.std.proofs.Common.{◌≡◌, Err}
use Rattle.std.proofs.lemmas.Result.{err_from_is_err_and}
use Rattle.dpl_spec_format.specs.Kinds as kinds
use Rattle.dpl_records.specs.Seen.{seen}
use Rattle.dpl_syntax.specs.Reading as reading
use Rattle.dpl_syntax.specs.Passing.{Fails, properties_end}
use Rattle.dpl_syntax.proofs.Refusals.{refuses}
use Rattle.dpl_syntax.proofs.Taking.{if_none}
use Rattle.dpl_syntax.proofs.Ends.{bare_end, no_end}
use Rattle.dpl_syntax.proofs.reader.Reader.take_end.Goals as goal

pub returns-in_err-take_if-clause-err : goal.returns-in_err-take_if-clause-err
returns-in_err-take_if-clause-err c =
    let p = err_from_is_err_and c.from_residual.result c.from_residual.ensures.1 in
    let b = c.args.self.now.bytes.now in
    rw (p.1, p.2) (refuses (λ f. reading.take_if b kinds.endel c.args.self.now.at ≡ Err f)
    (Fails b properties_end c.args.self.now.at) c.in_err-take_if.field-0.0
    (λ f h. no_end b c.args.self.now.at f h) c.in_err-take_if.ensures.exact)

pub returns-in-Some-clause-ok : goal.returns-in-Some-clause-ok
returns-in-Some-clause-ok c = bare_end c.args.self.now.bytes.now c.args.self.now.at c.take_if.new.self.at (seen c.in-Some.field-0) (rw c.in-Some.is at c.in_ok-take_if.ensures.exact)

pub returns-in-None-clause-ok : goal.returns-in-None-clause-ok
returns-in-None-clause-ok c =
    let stays = if_none c.args.self.now.bytes.now kinds.endel c.args.self.now.at c.take_if.new.self.at (rw c.in-None.is at c.in_ok-take_if.ensures.exact) in
    rw (c.in_ok-take_if.ensures.bytes, stays.3) at c.take_listed_end.ensures.ok

pub returns-in-None-clause-err : goal.returns-in-None-clause-err
returns-in-None-clause-err c =
    let stays = if_none c.args.self.now.bytes.now kinds.endel c.args.self.now.at c.take_if.new.self.at (rw c.in-None.is at c.in_ok-take_if.ensures.exact) in
    rw (c.in_ok-take_if.ensures.bytes, stays.3) at c.take_listed_end.ensures.err
