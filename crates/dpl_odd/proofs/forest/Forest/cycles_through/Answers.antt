use Rattle.std.proofs.Common.{◌≡◌, ◌+◌, ◌++◌, ◌∷◌, [], ℕ, List, Option, Some, None, sym, refl, ap, subst, ◌∙◌}
use Rattle.std.proofs.lemmas.Result.{IfOk-from_err}
use Rattle.std.proofs.lemmas.List.{get_or_default}
use Rattle.dpl_odd.specs.Tables.{AreClosed, start, skips, takes}
use Rattle.dpl_odd.proofs.forest.Forest.cycles_through.Goals.{in-Some+in_ok-cycle+in_ok-push, in_default}
use Rattle.dpl_odd.proofs.forest.Forest.cycles_through.Goals as goal

pub loop-edge-init : goal.loop-edge-init
loop-edge-init c = ([], start refl c.new-cycles.ensures.items)

pub cycle_through-requires-clause-u_in : goal.cycle_through-requires-clause-u_in
cycle_through-requires-clause-u_in c =
    let k : ℕ = c.loop-edge.edge-index in
    (c.requires.closing (c.in-Some.u, c.in-Some.v) (k, c.loop-edge-test.true, get_or_default c.args.edges.now k (Some (c.in-Some.u, c.in-Some.v)) None c.loop-edge-test.true ∙ c.in-Some.is)).first_in

pub cycle_through-requires-clause-v_in : goal.cycle_through-requires-clause-v_in
cycle_through-requires-clause-v_in c =
    let k : ℕ = c.loop-edge.edge-index in
    (c.requires.closing (c.in-Some.u, c.in-Some.v) (k, c.loop-edge-test.true, get_or_default c.args.edges.now k (Some (c.in-Some.u, c.in-Some.v)) None c.loop-edge-test.true ∙ c.in-Some.is)).second_in

pub cycle_through-requires-clause-apart : goal.cycle_through-requires-clause-apart
cycle_through-requires-clause-apart c =
    let k : ℕ = c.loop-edge.edge-index in
    (c.requires.closing (c.in-Some.u, c.in-Some.v) (k, c.loop-edge-test.true, get_or_default c.args.edges.now k (Some (c.in-Some.u, c.in-Some.v)) None c.loop-edge-test.true ∙ c.in-Some.is)).apart

pub cycle_through-requires-clause-root : goal.cycle_through-requires-clause-root
cycle_through-requires-clause-root c =
    let k : ℕ = c.loop-edge.edge-index in
    (c.requires.closing (c.in-Some.u, c.in-Some.v) (k, c.loop-edge-test.true, get_or_default c.args.edges.now k (Some (c.in-Some.u, c.in-Some.v)) None c.loop-edge-test.true ∙ c.in-Some.is)).root

pub cycle_through-requires-clause-level : goal.cycle_through-requires-clause-level
cycle_through-requires-clause-level c =
    let k : ℕ = c.loop-edge.edge-index in
    (c.requires.closing (c.in-Some.u, c.in-Some.v) (k, c.loop-edge-test.true, get_or_default c.args.edges.now k (Some (c.in-Some.u, c.in-Some.v)) None c.loop-edge-test.true ∙ c.in-Some.is)).level

pub loop-edge-preserved : goal.loop-edge-preserved
loop-edge-preserved c =
    let (roots, h) = c.loop-edge.invariant in
    let i : ℕ = c.loop-edge.edge-index in
    elim c.match-edge.branch [
      | in-Some+in_ok-cycle+in_ok-push w ↦ (
        roots ++ i ∷ [],
        takes h w.in-Some.is w.in_ok-cycle.ensures refl
            (ap (λ v. v.items) w.cycles-is ∙ (w.in_ok-push.ensures.items ∙ ap (λ (x : List ℕ). c.loop-edge.cycles.items ++ x ∷ []) w.of.ensures)),
      )
      | in_default w ↦ (
        roots,
        subst (λ (xs : List (List ℕ)). AreClosed c.args.self.now.levels.levels.items c.args.self.now.parents.items c.args.edges.now (i + 1) roots xs)
            (ap (λ v. v.items) (sym w.cycles-is)) (skips h w.in_default.is refl),
      )
    ]

pub returns-in_err-cycle : goal.returns-in_err-cycle
returns-in_err-cycle c = IfOk-from_err _ _ c.from_residual.ensures.0

pub returns-in_err-push : goal.returns-in_err-push
returns-in_err-push c = IfOk-from_err _ _ c.from_residual-in_err-push.ensures.0
