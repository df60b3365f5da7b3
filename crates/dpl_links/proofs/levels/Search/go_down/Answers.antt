use Rattle.std.proofs.Common.{arith}
use Rattle.std.proofs.lemmas.List.Elements.{Contains-push}
use Rattle.dpl_links.specs.Graph.{targets_at}
use Rattle.dpl_links.proofs.OrderLaws.{none_past, some_inside}
use Rattle.dpl_links.proofs.SpreadLaws.{marked_below}
use Rattle.dpl_links.proofs.PartLaws.{some_part}
use Rattle.dpl_links.proofs.levels.Search.go_down.Goals as goal

pub unreachable-requires : goal.unreachable-requires
unreachable-requires c = some_part c.args.graph.now c.args.from _ _ _ _ c.args.self.now.parts.items c.args.self.now.path.items c.args.visit
    _ _ (omega (arith, c.args.self.now.parts.ok.0, c.in_default.ensures.cases.0)) c.requires.search

pub target-requires : goal.target-requires
target-requires c = let m = marked_below c.args.self.now.found.items c.args.visit.vertex
    (c.requires.search.path_found c.args.visit (Contains-push c.args.self.now.path.items c.args.visit)) in
    omega (arith, m, c.requires.search.found_each)

pub go_back-requires-clause-done : goal.go_back-requires-clause-done
go_back-requires-clause-done c = none_past (targets_at c.args.graph.now c.args.visit.vertex) c.args.visit.gone 0 c.in-None.ensures.target

pub go_to-requires-clause-inside : goal.go_to-requires-clause-inside
go_to-requires-clause-inside c = let s = some_inside (targets_at c.args.graph.now c.args.visit.vertex) c.args.visit.gone 0
    c.in-Some-target.to c.in-Some-target.ensures.target in s.0

pub go_to-requires-clause-edge : goal.go_to-requires-clause-edge
go_to-requires-clause-edge c = let s = some_inside (targets_at c.args.graph.now c.args.visit.vertex) c.args.visit.gone 0 c.in-Some-target.to c.in-Some-target.ensures.target in s.1
