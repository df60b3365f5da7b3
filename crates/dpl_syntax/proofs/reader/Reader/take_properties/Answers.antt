use Rattle.std.proofs.Common.{◌≡◌, Err, ◌∙◌, arith}
use Rattle.std.proofs.lemmas.Result.{err_from_is_err_and}
use Rattle.dpl_spec_format.specs.Kinds as kinds
use Rattle.dpl_records.specs.Seen.{seen}
use Rattle.dpl_syntax.specs.Reading as reading
use Rattle.dpl_syntax.specs.Passing.{Fails, property_first}
use Rattle.dpl_syntax.proofs.Refusals.{refuses}
use Rattle.dpl_syntax.proofs.Ends.{one_more, no_attr, no_value, no_more}
use Rattle.dpl_syntax.proofs.reader.Reader.take_properties.Goals as goal

pub returns-in_err-take_if-clause-err : goal.returns-in_err-take_if-clause-err
returns-in_err-take_if-clause-err c =
    let p = err_from_is_err_and c.from_residual.result c.from_residual.ensures.1 in
    let e = rw c.loop-self.invariant.bytes at c.in_err-take_if.ensures.exact in
    rw (p.1, p.2) (refuses (λ f. reading.take_if c.args.self.now.bytes.now kinds.propattr c.loop-self.self.at ≡ Err f)
    (Fails c.args.self.now.bytes.now property_first c.args.self.now.at) c.in_err-take_if.field-0.0
    (λ f h. no_attr c.args.self.now.bytes.now c.args.self.now.at c.loop-self.self.at f c.loop-self.invariant.passes h) e)

pub loop-self-preserved : goal.loop-self-preserved
loop-self-preserved c =
    let first = rw (c.loop-self.invariant.bytes, c.in-Some.is) at c.in_ok-take_if.ensures.exact in
    let second = rw (c.in_ok-take_if.ensures.bytes, c.loop-self.invariant.bytes) at c.in_ok-take.ensures.exact in
    record {
      bytes = c.in_ok-take.ensures.bytes ∙ c.in_ok-take_if.ensures.bytes ∙ c.loop-self.invariant.bytes;
      on = omega arith;
      passes = one_more c.args.self.now.bytes.now c.args.self.now.at c.loop-self.self.at c.take_if.new.self.at (seen c.in-Some.field-0)
          (seen c.in_ok-take.field-0, c.take.new.self.at) c.loop-self.invariant.passes first second;
    }

pub returns-in_err-take-clause-err : goal.returns-in_err-take-clause-err
returns-in_err-take-clause-err c =
    let p = err_from_is_err_and c.from_residual-in_err-take.result c.from_residual-in_err-take.ensures.1 in
    let first = rw (c.loop-self.invariant.bytes, c.in-Some.is) at c.in_ok-take_if.ensures.exact in
    let e = rw (c.in_ok-take_if.ensures.bytes, c.loop-self.invariant.bytes) at c.in_err-take.ensures.exact in
    rw (p.1, p.2) (refuses (λ f. reading.take c.args.self.now.bytes.now kinds.propvalue c.take_if.new.self.at ≡ Err f)
    (Fails c.args.self.now.bytes.now property_first c.args.self.now.at) c.in_err-take.field-0.0
    (λ f h. no_value c.args.self.now.bytes.now c.args.self.now.at c.loop-self.self.at c.take_if.new.self.at
    (seen c.in-Some.field-0) f c.loop-self.invariant.passes first h) e)

pub returns-clause-ok : goal.returns-clause-ok
returns-clause-ok c =
    let e = rw (c.loop-self.invariant.bytes, c.in_default.is) at c.in_ok-take_if.ensures.exact in
    no_more c.args.self.now.bytes.now c.args.self.now.at c.loop-self.self.at c.take_if.new.self.at c.loop-self.invariant.passes e
