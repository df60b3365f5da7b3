use Rattle.std.proofs.Common.{◌≡◌, Err, ◌∙◌, arith}
use Rattle.std.proofs.lemmas.Result.{err_from_is_err_and}
use Rattle.dpl_spec_format.specs.Kinds as kinds
use Rattle.dpl_records.specs.Seen.{seen}
use Rattle.dpl_syntax.specs.Reading as reading
use Rattle.dpl_syntax.specs.Passing.{Fails, class_first}
use Rattle.dpl_syntax.proofs.Refusals.{refuses}
use Rattle.dpl_syntax.proofs.ElementLists.{class_more, class_done, class_fails}
use Rattle.dpl_syntax.proofs.reader.Reader.skip_class.Goals as goal

pub returns-in_err-take_if-clause-err : goal.returns-in_err-take_if-clause-err
returns-in_err-take_if-clause-err c =
    let p = err_from_is_err_and c.from_residual.result c.from_residual.ensures.1 in
    let b = c.args.self.now.bytes.now in
    let e = rw c.loop.invariant.bytes at c.in_err-take_if.ensures.exact in
    rw (p.1, p.2) (refuses (λ f. reading.take_if b kinds.structure_class c.loop.self.at ≡ Err f)
    (Fails b class_first c.args.self.now.at) c.in_err-take_if.field-0.0
    (λ f h. class_fails b c.args.self.now.at c.loop.self.at f c.loop.invariant.passes h) e)

pub loop-preserved : goal.loop-preserved
loop-preserved c =
    let e = rw (c.loop.invariant.bytes, c.in-Some.is) at c.in_ok-take_if.ensures.exact in
    record {
      bytes = c.in_ok-take_if.ensures.bytes ∙ c.loop.invariant.bytes;
      on = omega arith;
      passes = class_more c.args.self.now.bytes.now c.args.self.now.at c.loop.self.at c.take_if.new.self.at (seen c.in-Some.field-0) c.loop.invariant.passes e;
    }

pub returns-clause-ok : goal.returns-clause-ok
returns-clause-ok c =
    let e = rw (c.loop.invariant.bytes, c.in_default.is) at c.in_ok-take_if.ensures.exact in
    class_done c.args.self.now.bytes.now c.args.self.now.at c.loop.self.at c.take_if.new.self.at c.loop.invariant.passes e
