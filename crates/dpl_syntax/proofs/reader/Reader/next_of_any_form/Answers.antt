use Rattle.std.proofs.Common.{◌≡◌, [], Err}
use Rattle.std.proofs.lemmas.Result.{err_from_is_err_and}
use Rattle.dpl_spec_format.specs.Records.{record_at}
use Rattle.dpl_records.specs.Seen.{seen}
use Rattle.dpl_syntax.specs.Passing.{Fails, element_then, IsNextElement, elements_first}
use Rattle.dpl_syntax.proofs.Refusals.{refuses}
use Rattle.dpl_syntax.proofs.ElementLists.{none_yet, elements_stop, elements_fail}
use Rattle.dpl_syntax.proofs.reader.Reader.next_of_any_form.Goals as goal

pub returns-in_err-first-clause-err : goal.returns-in_err-first-clause-err
returns-in_err-first-clause-err c =
    let p = err_from_is_err_and c.from_residual.result c.from_residual.ensures.1 in
    let b = c.args.self.now.bytes.now in
    let at = c.args.self.now.at in
    let e = c.in_err-first.ensures.err in
    rw (p.1, p.2) (refuses (λ f. record_at b at ≡ Err f) (Fails b elements_first at) c.in_err-first.field-0.0
    (λ f h. elements_stop b at at [] f (none_yet b at) h) e)

pub returns-in_err-element-clause-err : goal.returns-in_err-element-clause-err
returns-in_err-element-clause-err c =
    let p = err_from_is_err_and c.from_residual-in_err-element.result c.from_residual-in_err-element.ensures.1 in
    let b = c.args.self.now.bytes.now in
    let at = c.args.self.now.at in
    let next : IsNextElement b at (seen c.in-Some.first) = rw c.in-Some.is at c.in_ok-first.ensures.some in
    let e = c.in_err-element.ensures.err in
    rw (p.1, p.2) (refuses (Fails b element_then at) (Fails b elements_first at) c.in_err-element.field-0.0
    (λ f h. elements_fail b at at [] (seen c.in-Some.first) f (none_yet b at) next h) e)

pub returns-clause-some : goal.returns-clause-some
returns-clause-some c =
    let b = c.args.self.now.bytes.now in
    let at = c.args.self.now.at in
    let next : IsNextElement b at (seen c.in-Some.first) = rw c.in-Some.is at c.in_ok-first.ensures.some in
    record { first = seen c.in-Some.first; is_next = next; passes = c.in_ok-element.ensures.ok }

pub returns-in_err-first-clause-some : goal.returns-in_err-first-clause-some
returns-in_err-first-clause-some c = rw (err_from_is_err_and c.from_residual.result c.from_residual.ensures.1).1 tt

pub returns-in_err-first-clause-none : goal.returns-in_err-first-clause-none
returns-in_err-first-clause-none c = rw (err_from_is_err_and c.from_residual.result c.from_residual.ensures.1).1 tt

pub returns-in_err-first-clause-sized : goal.returns-in_err-first-clause-sized
returns-in_err-first-clause-sized c = rw (err_from_is_err_and c.from_residual.result c.from_residual.ensures.1).1 tt

pub returns-in_err-first-clause-further : goal.returns-in_err-first-clause-further
returns-in_err-first-clause-further c = rw (err_from_is_err_and c.from_residual.result c.from_residual.ensures.1).1 tt

pub returns-in_err-element-clause-some : goal.returns-in_err-element-clause-some
returns-in_err-element-clause-some c = rw (err_from_is_err_and c.from_residual-in_err-element.result c.from_residual-in_err-element.ensures.1).1 tt

pub returns-in_err-element-clause-none : goal.returns-in_err-element-clause-none
returns-in_err-element-clause-none c = rw (err_from_is_err_and c.from_residual-in_err-element.result c.from_residual-in_err-element.ensures.1).1 tt

pub returns-in_err-element-clause-sized : goal.returns-in_err-element-clause-sized
returns-in_err-element-clause-sized c = rw (err_from_is_err_and c.from_residual-in_err-element.result c.from_residual-in_err-element.ensures.1).1 tt

pub returns-in_err-element-clause-further : goal.returns-in_err-element-clause-further
returns-in_err-element-clause-further c = rw (err_from_is_err_and c.from_residual-in_err-element.result c.from_residual-in_err-element.ensures.1).1 tt

pub returns-in_err-element-clause-bytes : goal.returns-in_err-element-clause-bytes
returns-in_err-element-clause-bytes c = c.in_err-element.ensures.bytes

pub returns-clause-bytes : goal.returns-clause-bytes
returns-clause-bytes c = c.in_ok-element.ensures.bytes
