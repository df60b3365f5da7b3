use Rattle.std.proofs.Common.{◌≡◌, Err}
use Rattle.std.proofs.lemmas.Result.{err_from_is_err_and}
use Rattle.dpl_spec_format.specs.Kinds as kinds
use Rattle.dpl_syntax.specs.Reading as reading
use Rattle.dpl_syntax.specs.Shapes.{shape}
use Rattle.dpl_syntax.proofs.Chains.{body_then, body_fails}
use Rattle.dpl_syntax.proofs.Refusals.{refuses}
use Rattle.dpl_syntax.proofs.Sizes.{datatype_size, points_size}
use Rattle.dpl_syntax.proofs.reader.Reader.boundary.Goals as goal

pub returns-in_err-shape-clause-exact : goal.returns-in_err-shape-clause-exact
returns-in_err-shape-clause-exact c =
    let p = err_from_is_err_and c.from_residual.result c.from_residual.ensures.1 in
    let bytes = c.args.self.now.bytes.now in
    let at = c.args.self.now.at in
    rw (p.1, p.2) (refuses (λ f. reading.items_at bytes (shape kinds.datatype) at ≡ Err f) (λ f. reading.body_behind_flags bytes kinds.boundary at ≡ Err f)
    c.in_err-shape.field-0.0 (λ f h. body_fails bytes kinds.boundary at f h) c.in_err-shape.ensures.err)

pub returns-in_err-shape-clause-points : goal.returns-in_err-shape-clause-points
returns-in_err-shape-clause-points c = rw (err_from_is_err_and c.from_residual.result c.from_residual.ensures.1).1 tt

pub u16_at-requires : goal.u16_at-requires
u16_at-requires c = datatype_size _ c.in_ok-shape.ensures.sized

pub returns-clause-exact : goal.returns-clause-exact
returns-clause-exact c =
    let w = c.in_ok-shape.ensures.ok in
    let found = body_then c.args.self.now.bytes.now kinds.boundary c.args.self.now.at c.take_shape.new.self.at _ w.fills in
    rw (c.u16_at.ensures, w.layer_is, w.number_is, w.xy_is) found

pub returns-clause-points : goal.returns-clause-points
returns-clause-points c = points_size _ c.in_ok-shape.ensures.points
