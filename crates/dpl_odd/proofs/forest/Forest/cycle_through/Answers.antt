use Rattle.std.proofs.Common.{◌≡◌, ◌++◌, ◌∷◌, [], ℕ, List, reverse, ap, ◌∙◌, arith}
use Rattle.std.proofs.lemmas.Result.{IfOk-from_err}
use Rattle.std.proofs.lemmas.List.{get_or_read}
use Rattle.dpl_odd.proofs.PathLaws.{climb-step, climb-end}
use Rattle.dpl_odd.proofs.forest.Forest.cycle_through.Goals as goal

pub loop-top-preserved : goal.loop-top-preserved
loop-top-preserved c =
    let roots = c.args.self.now.levels.roots in
    let levels = c.args.self.now.levels.levels in
    let parents = c.args.self.now.parents in
    let as_many = c.requires.forest.as_many_parents in
    let top_in = c.loop-top.invariant.top_in in
    let other_in = c.loop-top.invariant.other_in in
    climb-step _ roots.items levels.items parents.items c.args.u c.args.v c.loop-top.top c.loop-top.other c.index-top.result.now
    c.index-other.result.now c.loop-top.cycle.items c.loop-top.rest.items c.push.new.self.items c.push-in-loop-top.new.self.items
    c.requires.forest c.loop-top.invariant c.loop-top-test.true c.in_ok-push.ensures.items c.in_ok-push-2.ensures.items
    (get_or_read parents.items c.loop-top.top c.index-top.result.now (omega (arith, as_many, top_in)) c.index-top.ensures 0)
    (get_or_read parents.items c.loop-top.other c.index-other.result.now (omega (arith, as_many, other_in)) c.index-other.ensures 0)

pub returns : goal.returns
returns c =
    let roots = c.args.self.now.levels.roots in
    let levels = c.args.self.now.levels.levels in
    let parents = c.args.self.now.parents in
    let pushed : c.push-2.new.self.items ≡ c.loop-top.cycle.items ++ c.loop-top.top ∷ [] = c.in_ok-push-3.ensures.items in
    let reversed : c.reverse.new.self.items ≡ reverse c.push-2.new.self.items = c.reverse.ensures.items in
    let rest : c.deref.result.now ≡ c.loop-top.rest.items = c.deref.ensures.value in
    let all : c.extend_from_slice.new.self.items ≡ c.reverse.new.self.items ++ c.deref.result.now = c.in_ok-extend_from_slice.ensures.items in
    climb-end _ roots.items levels.items parents.items c.args.u c.args.v c.loop-top.top c.loop-top.other c.loop-top.cycle.items
    c.loop-top.rest.items c.extend_from_slice.new.self.items c.requires.apart c.loop-top.invariant c.loop-top-test.false
    (all ∙ (ap (λ xs. let ys : List ℕ = xs in ys ++ c.deref.result.now) (reversed ∙ ap reverse pushed)
    ∙ ap (λ ys. reverse (c.loop-top.cycle.items ++ c.loop-top.top ∷ []) ++ ys) rest))

pub returns-in_err-push : goal.returns-in_err-push
returns-in_err-push c = IfOk-from_err _ _ c.from_residual.ensures.0

pub returns-in_err-push-2 : goal.returns-in_err-push-2
returns-in_err-push-2 c = IfOk-from_err _ _ c.from_residual-in_err-push-2.ensures.0

pub returns-in_err-push-3 : goal.returns-in_err-push-3
returns-in_err-push-3 c = IfOk-from_err _ _ c.from_residual-in_err-push-3.ensures.0

pub returns-in_err-extend_from_slice : goal.returns-in_err-extend_from_slice
returns-in_err-extend_from_slice c = IfOk-from_err _ _ c.from_residual-in_err-extend_from_slice.ensures.0
