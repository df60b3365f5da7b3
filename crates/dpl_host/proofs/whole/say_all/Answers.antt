use Rattle.std.proofs.Common.{◌≡◌, ◌∙◌, ◌≤◌, ◌-◌, ap, sym, List, ℕ, arith, take, drop, length, length-drop}
use Rattle.std.specs.Prelude.{option_map}
use Rattle.std.proofs.lemmas.Result.{IfOk-from_err}
use Rattle.dpl_host.specs.Outside.{with_said}
use Rattle.dpl_host.proofs.Files.{said_on}
use Rattle.dpl_host.proofs.Logs.{said_more}
use Rattle.dpl_host.proofs.Pieces.{rest_is, take_on}
use Rattle.dpl_host.proofs.whole.say_all.Goals as goal

pub loop-done-preserved : goal.loop-done-preserved
loop-done-preserved g c =
    let bytes : List ℕ = c.args.bytes.now in
    let done = c.loop-done.done in
    let n = c.in_ok-done.field-0 in
    let piece = take (length bytes - done) (drop done bytes) in
    let most : n ≤ length piece = c.in_ok-done.ensures.taken.most in
    let rest : piece ≡ drop done bytes = rest_is done bytes in
    record {
      within = omega (arith, length-drop done bytes, most, ap length rest, c.loop-done.invariant.within);
      said = c.in_ok-done.ensures.said
          ∙ ap (λ (p : List ℕ). option_map (with_said (take n p)) (g.H.Host.told c.loop-done.host)) rest
          ∙ ap (option_map (with_said (take n (drop done bytes)))) c.loop-done.invariant.said
          ∙ said_on (g.H.Host.told c.args.host.now) (take done bytes) (take n (drop done bytes))
          ∙ ap (λ (p : List ℕ). option_map (with_said p) (g.H.Host.told c.args.host.now)) (sym (take_on done n bytes));
      counted = c.in_ok-done.ensures.cause.worked ∙ c.loop-done.invariant.counted;
      others = c.in_ok-done.ensures.others ∙ c.loop-done.invariant.others;
      logged = said_more
          c.loop-done.invariant.logged c.in_ok-done.ensures.logged;
    }

pub returns-in_err-done-clause-logged : goal.returns-in_err-done-clause-logged
returns-in_err-done-clause-logged g c = said_more
    c.loop-done.invariant.logged c.in_err-done.ensures.logged

pub returns-in_err-done-clause-ok : goal.returns-in_err-done-clause-ok
returns-in_err-done-clause-ok g c = IfOk-from_err _ _ c.from_residual.ensures.0

pub returns-in_err-done-clause-others : goal.returns-in_err-done-clause-others
returns-in_err-done-clause-others g c = c.in_err-done.ensures.others ∙ c.loop-done.invariant.others

pub returns-clause-others : goal.returns-clause-others
returns-clause-others g c = c.loop-done.invariant.others
