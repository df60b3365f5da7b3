use Rattle.std.proofs.Common.{◌≡◌, Err}
use Rattle.std.proofs.lemmas.Result.{err_from_is_err_and}
use Rattle.dpl_spec_format.specs.Kinds as kinds
use Rattle.dpl_records.specs.Seen.{seen}
use Rattle.dpl_syntax.specs.Reading as reading
use Rattle.dpl_syntax.specs.Passing.{Fails, properties_end, property_first}
use Rattle.dpl_syntax.proofs.Refusals.{refuses}
use Rattle.dpl_syntax.proofs.Ends.{whole_end, no_properties, no_endel}
use Rattle.dpl_syntax.proofs.reader.Reader.take_listed_end.Goals as goal

pub returns-in_err-take_properties-clause-err : goal.returns-in_err-take_properties-clause-err
returns-in_err-take_properties-clause-err c =
    let p = err_from_is_err_and c.from_residual.result c.from_residual.ensures.1 in
    let b = c.args.self.now.bytes.now in
    rw (p.1, p.2) (refuses (Fails b property_first c.args.self.now.at)
    (Fails b properties_end c.args.self.now.at) c.in_err-take_properties.field-0.0
    (no_properties b c.args.self.now.at) c.in_err-take_properties.ensures.err)

pub returns-in_err-take-clause-err : goal.returns-in_err-take-clause-err
returns-in_err-take-clause-err c =
    let p = err_from_is_err_and c.from_residual-in_err-take.result c.from_residual-in_err-take.ensures.1 in
    let b = c.args.self.now.bytes.now in
    let e = rw (c.in_ok-take_properties.ensures.bytes) at c.in_err-take.ensures.exact in
    rw (p.1, p.2) (refuses (λ f. reading.take b kinds.endel c.take_properties.new.self.at ≡ Err f)
    (Fails b properties_end c.args.self.now.at) c.in_err-take.field-0.0
    (λ f h. no_endel b c.args.self.now.at c.take_properties.new.self.at f c.in_ok-take_properties.ensures.ok h) e)

pub returns-clause-ok : goal.returns-clause-ok
returns-clause-ok c =
    let e = rw (c.in_ok-take_properties.ensures.bytes) at c.in_ok-take.ensures.exact in
    whole_end c.args.self.now.bytes.now c.args.self.now.at c.take_properties.new.self.at (seen c.in_ok-take.field-0, c.take.new.self.at) c.in_ok-take_properties.ensures.ok e
