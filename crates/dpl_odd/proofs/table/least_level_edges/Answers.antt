use Rattle.std.proofs.Common.{◌≡◌, ◌<◌, ℕ, None, length, get_or, sym, refl, arith}
use Rattle.std.proofs.lemmas.Result.{IfOk-from_err}
use Rattle.std.proofs.lemmas.List.{get_or_read}
use Rattle.dpl_odd.specs.Paths.{edge_at}
use Rattle.dpl_odd.proofs.TableLaws.{table-step}
use Rattle.dpl_odd.proofs.table.least_level_edges.Goals as goal

pub loop-edge-preserved : goal.loop-edge-preserved
loop-edge-preserved c =
    let roots = c.args.levels.now.roots in
    let levels = c.args.levels.now.levels in
    let least = c.loop-edge.least in
    let i : ℕ = c.loop-edge.edge-index in
    let e : ℕ × ℕ = edge_at c.args.edges.now i in
    let root : ℕ = c.index.result.now in
    let as_many = c.requires.as_many in
    let long = c.loop-edge.invariant.as_many in
    let (order, high) = c.requires.below i (0, 0) c.loop-edge-test.true in
    let e_in : e.0 < length roots.items = omega (arith, order, high, as_many, roots.ok.0, levels.ok.0) in
    let here : get_or roots.items e.0 0 ≡ root = sym (get_or_read roots.items e.0 root e_in c.index.ensures 0) in
    let inside = c.requires.inside e.0 0 e_in in
    let root_in : root < length least.items = omega (arith, here, inside, long, levels.ok.0) in
    table-step roots.items levels.items c.args.edges.now i root e least.items _ c.index-in-loop-edge.result.now c.lesser.result refl here root_in
    (get_or_read least.items root c.index-in-loop-edge.result.now root_in c.index-in-loop-edge.ensures None) c.lesser.ensures refl c.loop-edge.invariant

pub returns-in_err-least : goal.returns-in_err-least
returns-in_err-least c = IfOk-from_err _ _ c.from_residual.ensures.0
