use Rattle.std.proofs.Common.{◌≡◌, ◌∙◌, sym, subst, List, ℕ, arith, take, length, [], refl, rules}
use Rattle.std.specs.Prelude.{IfSome, unwrap_or}
use Rattle.std.proofs.lemmas.Result.{IfOk-from_err}
use Rattle.dpl_host.specs.Outside.{file_of}
use Rattle.dpl_host.proofs.Logs.{read_more}
use Rattle.dpl_host.proofs.Pieces.{prefix_on, given_more, too_long, whole_read}
use Rattle.dpl_host.proofs.whole.read_all.Goals as goal

pub loop-chunk-preserved : goal.loop-chunk-preserved
loop-chunk-preserved g c =
    let bytes : List ℕ = c.loop-chunk.bytes.items in
    let buffer : List ℕ = c.read.new.into in
    let n = c.in_ok-count.count in
    let grown = c.in_ok-extend_from_slice.ensures.items in
    let prefix = prefix_on (g.H.Host.told c.args.host.now) (g.H.Host.told c.loop-chunk.host) c.args.name.now bytes (take n buffer) buffer n _
    c.loop-chunk.invariant.prefix c.in_ok-count.ensures.bytes c.loop-chunk.invariant.same (c.len-in-loop-chunk.ensures ∙ search rules) refl c.in_ok-count.ensures.bound in
    record {
      prefix = subst (λ (l : List ℕ). IfSome (g.H.Host.told c.args.host.now) (λ o. l ≡ take (length l) (unwrap_or (file_of o c.args.name.now) []))) (sym grown) prefix;
      same = c.in_ok-count.ensures.same ∙ c.loop-chunk.invariant.same;
      counted = c.in_ok-count.ensures.cause.worked ∙ c.loop-chunk.invariant.counted;
      others = c.in_ok-count.ensures.others ∙ c.loop-chunk.invariant.others;
      given = given_more _ _ _ bytes (take n buffer) buffer n _ c.loop-chunk.invariant.given c.in_ok-count.ensures.given refl c.in_ok-count.ensures.bound grown;
      logged = read_more c.args.name.now
          c.loop-chunk.invariant.logged c.in_ok-count.ensures.logged;
    }

pub returns-clause-large : goal.returns-clause-large
returns-clause-large g c = λ h.
    let same : c.len.result ≡ length c.loop-chunk.bytes.items = c.len.ensures ∙ search rules in
    too_long (g.H.Host.told c.args.host.now) c.args.name.now c.loop-chunk.bytes.items c.loop-chunk.invariant.prefix (omega (arith, same, c.loop-chunk-test.false))

pub returns-then-count-eq0-clause-bytes : goal.returns-then-count-eq0-clause-bytes
returns-then-count-eq0-clause-bytes g c =
    whole_read (g.H.Host.told c.args.host.now) (g.H.Host.told c.loop-chunk.host) c.args.name.now c.loop-chunk.bytes.items c.read.new.into c.in_ok-count.count _
    c.loop-chunk.invariant.prefix c.in_ok-count.ensures.bytes c.loop-chunk.invariant.same (c.len-in-loop-chunk.ensures ∙ search rules) (search rules) (search rules)

pub returns-then-count-eq0-clause-logged : goal.returns-then-count-eq0-clause-logged
returns-then-count-eq0-clause-logged g c = read_more c.args.name.now
    c.loop-chunk.invariant.logged c.in_ok-count.ensures.logged

pub returns-in_err-count-clause-logged : goal.returns-in_err-count-clause-logged
returns-in_err-count-clause-logged g c = read_more c.args.name.now
    c.loop-chunk.invariant.logged c.in_err-count.ensures.logged

pub returns-in_err-extend_from_slice-clause-logged : goal.returns-in_err-extend_from_slice-clause-logged
returns-in_err-extend_from_slice-clause-logged g c = read_more c.args.name.now
    c.loop-chunk.invariant.logged c.in_ok-count.ensures.logged

pub returns-in_err-count-clause-bytes : goal.returns-in_err-count-clause-bytes
returns-in_err-count-clause-bytes g c = IfOk-from_err _ _ c.from_residual.ensures.0

pub returns-in_err-count-clause-size : goal.returns-in_err-count-clause-size
returns-in_err-count-clause-size g c = IfOk-from_err _ _ c.from_residual.ensures.0

pub returns-in_err-count-clause-given : goal.returns-in_err-count-clause-given
returns-in_err-count-clause-given g c = IfOk-from_err _ _ c.from_residual.ensures.0

pub returns-in_err-extend_from_slice-clause-bytes : goal.returns-in_err-extend_from_slice-clause-bytes
returns-in_err-extend_from_slice-clause-bytes g c = IfOk-from_err _ _ c.from_residual-in_err-extend_from_slice.ensures.0

pub returns-in_err-extend_from_slice-clause-size : goal.returns-in_err-extend_from_slice-clause-size
returns-in_err-extend_from_slice-clause-size g c = IfOk-from_err _ _ c.from_residual-in_err-extend_from_slice.ensures.0

pub returns-in_err-extend_from_slice-clause-given : goal.returns-in_err-extend_from_slice-clause-given
returns-in_err-extend_from_slice-clause-given g c = IfOk-from_err _ _ c.from_residual-in_err-extend_from_slice.ensures.0

pub returns-in_err-count-clause-same : goal.returns-in_err-count-clause-same
returns-in_err-count-clause-same g c = c.in_err-count.ensures.same ∙ c.loop-chunk.invariant.same

pub returns-in_err-count-clause-others : goal.returns-in_err-count-clause-others
returns-in_err-count-clause-others g c = c.in_err-count.ensures.others ∙ c.loop-chunk.invariant.others

pub returns-in_err-extend_from_slice-clause-same : goal.returns-in_err-extend_from_slice-clause-same
returns-in_err-extend_from_slice-clause-same g c = c.in_ok-count.ensures.same ∙ c.loop-chunk.invariant.same

pub returns-in_err-extend_from_slice-clause-others : goal.returns-in_err-extend_from_slice-clause-others
returns-in_err-extend_from_slice-clause-others g c = c.in_ok-count.ensures.others ∙ c.loop-chunk.invariant.others

pub returns-clause-same : goal.returns-clause-same
returns-clause-same g c = c.loop-chunk.invariant.same

pub returns-clause-others : goal.returns-clause-others
returns-clause-others g c = c.loop-chunk.invariant.others
