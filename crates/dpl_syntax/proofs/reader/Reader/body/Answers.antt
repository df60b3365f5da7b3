use Rattle.std.proofs.Common.{◌≡◌, Err}
use Rattle.std.proofs.lemmas.Result.{err_from_is_err_and}
use Rattle.dpl_syntax.specs.Elements.{body_seen}
use Rattle.dpl_syntax.specs.Reading.{body_at, flags_end}
use Rattle.dpl_syntax.proofs.Flags.{answers_body, no_flags}
use Rattle.dpl_syntax.proofs.Refusals.{refuses}
use Rattle.dpl_syntax.proofs.reader.Reader.body.Goals as goal

pub returns-clause-exact : goal.returns-clause-exact
returns-clause-exact c =
    let read = rw (c.in_ok-take_flags.ensures.bytes) at c.body_behind_flags.ensures.exact in
    answers_body c.args.kind c.args.self.now.bytes.now (λ b. (body_seen b, c.body_behind_flags.new.self.at)) c.body_behind_flags.result c.args.self.now.at
    c.take_flags.new.self.at c.in_ok-take_flags.ensures.exact read

pub returns-in_err-take_flags-clause-exact : goal.returns-in_err-take_flags-clause-exact
returns-in_err-take_flags-clause-exact c =
    let p = err_from_is_err_and c.from_residual.result c.from_residual.ensures.1 in
    let bytes = c.args.self.now.bytes.now in
    let at = c.args.self.now.at in
    rw (p.1, p.2) (refuses (λ f. flags_end bytes at ≡ Err f) (λ f. body_at bytes c.args.kind at ≡ Err f) c.in_err-take_flags.field-0.0
    (no_flags c.args.kind bytes at) c.in_err-take_flags.ensures.exact)
