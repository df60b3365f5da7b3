use Rattle.std.proofs.Common.{⊎_elim, arith, ◌∷◌, ◌++◌, []}
use Rattle.std.proofs.lemmas.Result.{IfOk-from_err}
use Rattle.dpl_links.proofs.PartLaws.{one_joined, some_lower, less_joined}
use Rattle.dpl_links.proofs.levels.Search.join_last.Goals as goal

pub unreachable-requires : goal.unreachable-requires
unreachable-requires c = some_lower c.args.graph.now c.args.from _ _ _ _ c.args.self.now.parts.items c.args.top _ _ _ c.args.to
    (omega (arith, c.args.self.now.parts.ok.0, c.in_default.ensures.cases.0)) c.requires.search c.requires.found c.requires.unshut
    c.requires.before

pub returns-clause-search : goal.returns-clause-search
returns-clause-search c =
    rw (c.in_ok-push.ensures.items, c.in_ok-push-2.ensures.items)
    (one_joined c.args.graph.now c.args.from _ _ _ _ c.args.self.now.parts.items c.args.top c.args.self.now.path.items c.args.visit _ _
    c.requires.search c.pop.new.self.items c.in-Some.lower c.in_ok-joined.joined c.in-Some.ensures.items c.in_ok-joined.ensures.root
    c.in_ok-joined.ensures.vertices c.args.to c.requires.edge
    (⊎_elim (λ x. absurd (c.requires.unshut x)) (λ x. x) (c.requires.search.apart c.args.to c.requires.found)) c.requires.before)

pub returns-in_err-joined-clause-search : goal.returns-in_err-joined-clause-search
returns-in_err-joined-clause-search c = IfOk-from_err _ _ c.from_residual.ensures.0

pub returns-in_err-joined-clause-falls : goal.returns-in_err-joined-clause-falls
returns-in_err-joined-clause-falls c = IfOk-from_err _ _ c.from_residual.ensures.0

pub returns-in_err-push-clause-search : goal.returns-in_err-push-clause-search
returns-in_err-push-clause-search c = IfOk-from_err _ _ c.from_residual-in_err-push.ensures.0

pub returns-in_err-push-clause-falls : goal.returns-in_err-push-clause-falls
returns-in_err-push-clause-falls c = IfOk-from_err _ _ c.from_residual-in_err-push.ensures.0

pub returns-in_err-push-2-clause-search : goal.returns-in_err-push-2-clause-search
returns-in_err-push-2-clause-search c = IfOk-from_err _ _ c.from_residual-in_err-push-2.ensures.0

pub returns-in_err-push-2-clause-falls : goal.returns-in_err-push-2-clause-falls
returns-in_err-push-2-clause-falls c = IfOk-from_err _ _ c.from_residual-in_err-push-2.ensures.0

pub returns-clause-falls : goal.returns-clause-falls
returns-clause-falls c =
    rw (c.in_ok-push.ensures.items, c.in_ok-push-2.ensures.items)
    (less_joined c.args.graph.now c.args.self.now.found.items (c.args.self.now.path.items ++ c.args.visit ∷ []) c.pop.new.self.items
    c.in-Some.lower c.args.top c.in_ok-joined.joined c.args.self.now.parts.items c.in-Some.ensures.items)
