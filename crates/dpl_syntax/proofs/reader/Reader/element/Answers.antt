use Rattle.std.proofs.Common.{◌≡◌, Err, ◌∙◌}
use Rattle.std.proofs.lemmas.Result.{err_from_is_err_and}
use Rattle.dpl_records.specs.Seen.{seen}
use Rattle.dpl_syntax.specs.Elements.{body_seen}
use Rattle.dpl_syntax.specs.Reading as reading
use Rattle.dpl_syntax.specs.Passing.{Fails, properties_end, element_then}
use Rattle.dpl_syntax.proofs.Refusals.{refuses}
use Rattle.dpl_syntax.proofs.WholeElements.{element_ok, no_body, no_end}
use Rattle.dpl_syntax.proofs.reader.Reader.element.Goals as goal

pub returns-in_err-body-clause-err : goal.returns-in_err-body-clause-err
returns-in_err-body-clause-err c =
    let p = err_from_is_err_and c.from_residual.result c.from_residual.ensures.1 in
    let b = c.args.self.now.bytes.now in
    let h = seen c.args.first in
    rw (p.1, p.2) (refuses (λ f. reading.body_at b h.kind h.next ≡ Err f) (Fails b element_then c.args.self.now.at) c.in_err-body.field-0.0
    (no_body b c.args.self.now.at h c.requires.next c.requires.begins) c.in_err-body.ensures.exact)

pub returns-in_err-take_end-clause-err : goal.returns-in_err-take_end-clause-err
returns-in_err-take_end-clause-err c =
    let p = err_from_is_err_and c.from_residual-in_err-take_end.result c.from_residual-in_err-take_end.ensures.1 in
    let b = c.args.self.now.bytes.now in
    let h = seen c.args.first in
    let e = rw (c.in_ok-body.ensures.bytes) at c.in_err-take_end.ensures.err in
    rw (p.1, p.2) (refuses (Fails b properties_end c.body.new.self.at)
    (Fails b element_then c.args.self.now.at) c.in_err-take_end.field-0.0
    (λ f x. no_end b c.args.self.now.at h c.requires.next c.requires.begins (
      body_seen c.in_ok-body.body,
      c.body.new.self.at,
    ) f c.in_ok-body.ensures.exact x) e)

pub returns-clause-ok : goal.returns-clause-ok
returns-clause-ok c =
    let b = c.args.self.now.bytes.now in
    let h = seen c.args.first in
    let e = rw (c.in_ok-body.ensures.bytes) at c.in_ok-take_end.ensures.ok in
    element_ok b c.args.self.now.at h c.requires.next c.requires.begins (body_seen c.in_ok-body.body, c.body.new.self.at) c.take_end.new.self.at c.in_ok-body.ensures.exact e

pub returns-in_err-body-clause-bytes : goal.returns-in_err-body-clause-bytes
returns-in_err-body-clause-bytes c = c.in_err-body.ensures.bytes

pub returns-in_err-take_end-clause-bytes : goal.returns-in_err-take_end-clause-bytes
returns-in_err-take_end-clause-bytes c = c.in_err-take_end.ensures.bytes ∙ c.in_ok-body.ensures.bytes

pub returns-clause-bytes : goal.returns-clause-bytes
returns-clause-bytes c = c.in_ok-take_end.ensures.bytes ∙ c.in_ok-body.ensures.bytes

pub returns-in_err-body-clause-ok : goal.returns-in_err-body-clause-ok
returns-in_err-body-clause-ok c = rw (err_from_is_err_and c.from_residual.result c.from_residual.ensures.1).1 tt

pub returns-in_err-take_end-clause-ok : goal.returns-in_err-take_end-clause-ok
returns-in_err-take_end-clause-ok c = rw (err_from_is_err_and c.from_residual-in_err-take_end.result c.from_residual-in_err-take_end.ensures.1).1 tt

pub returns-in_err-body-clause-sized : goal.returns-in_err-body-clause-sized
returns-in_err-body-clause-sized c = rw (err_from_is_err_and c.from_residual.result c.from_residual.ensures.1).1 tt

pub returns-in_err-take_end-clause-sized : goal.returns-in_err-take_end-clause-sized
returns-in_err-take_end-clause-sized c = rw (err_from_is_err_and c.from_residual-in_err-take_end.result c.from_residual-in_err-take_end.ensures.1).1 tt
