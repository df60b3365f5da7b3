use Rattle.std.proofs.Common.{sym}
use Rattle.dpl_syntax.specs.Elements.{element_seen}
use Rattle.dpl_flatten.proofs.ReachLaws.{stays_on_cycle}
use Rattle.dpl_flatten.proofs.recursion.is_recursive.Goals as goal

pub returns-in-Some : goal.returns-in-Some
returns-in-Some c =
    let s = stays_on_cycle c.args.lib.now c.args.links.now.graph.now c.args.links.now.marks.now c.args.levels.now c.args.structure
    c.in-Some.number (element_seen c.args.element.now) c.requires.links c.requires.marked c.requires.inside (sym c.in-Some.ensures) in
    let e = c.have_one_level.ensures in
    (λ t. s.0 (e.0 t), λ o. e.1 (s.1 o))
