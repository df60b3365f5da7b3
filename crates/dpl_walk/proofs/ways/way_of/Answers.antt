use Rattle.dpl_walk.proofs.WayLaws.{passage_at, there, target_below, way_there, passage_way, way_within, whole_there, own_whole}
use Rattle.dpl_walk.proofs.ways.way_of.Goals as goal

pub bounds-ways-copies : goal.bounds-ways-copies
bounds-ways-copies c = target_below c.args.cells.now c.args.ways.now c.args.structure c.index-cells-structure.result c.in-Some.copies
    c.requires.structure c.index-cells-structure.is c.in-Some.ensures.some c.requires.known c.requires.ways

pub through-requires-clause-ready : goal.through-requires-clause-ready
through-requires-clause-ready c = c.requires.known.ready c.args.structure c.in-Some.copies
    (there c.args.cells.now c.args.ways.now c.args.structure c.index-cells-structure.result c.in-Some.copies c.requires.structure
    c.index-cells-structure.is c.in-Some.ensures.some c.requires.known c.requires.ways)

pub through-requires-clause-rest : goal.through-requires-clause-rest
through-requires-clause-rest c = way_within c.args.cells.now c.requires.ways.0 c.in-Some.copies.target c.index-ways-copies.result
    c.requires.few (c.requires.ways.1.way c.in-Some.copies.target c.index-ways-copies.result
    (way_there c.args.cells.now c.args.ways.now c.args.structure c.index-cells-structure.result c.in-Some.copies c.requires.structure
    c.index-cells-structure.is c.in-Some.ensures.some c.requires.known c.requires.ways c.index-ways-copies.result c.index-ways-copies.is))

pub returns-in-Some-clause-way : goal.returns-in-Some-clause-way
returns-in-Some-clause-way c = λ d a.
    passage_way c.args.cells.now d c.args.structure c.in-Some.copies c.index-ways-copies.result c.through.result
    (c.requires.known.ready c.args.structure c.in-Some.copies
    (there c.args.cells.now c.args.ways.now c.args.structure c.index-cells-structure.result c.in-Some.copies c.requires.structure
    c.index-cells-structure.is c.in-Some.ensures.some c.requires.known c.requires.ways))
    (passage_at c.args.cells.now c.args.structure c.index-cells-structure.result c.in-Some.copies c.requires.structure c.index-cells-structure.is c.in-Some.ensures.some)
    (a.way c.in-Some.copies.target c.index-ways-copies.result
    (way_there c.args.cells.now c.args.ways.now c.args.structure c.index-cells-structure.result c.in-Some.copies c.requires.structure
    c.index-cells-structure.is c.in-Some.ensures.some c.requires.known c.requires.ways c.index-ways-copies.result c.index-ways-copies.is))
    c.through.ensures.target
    c.through.ensures.place

pub returns-in-Some-clause-whole : goal.returns-in-Some-clause-whole
returns-in-Some-clause-whole c = whole_there c.args.cells.now c.args.ways.now c.args.structure c.index-cells-structure.result
    c.in-Some.copies c.requires.structure c.index-cells-structure.is c.in-Some.ensures.some c.requires.known c.requires.ways
    c.index-ways-copies.result c.through.result c.index-ways-copies.is c.through.ensures.target

pub returns-in-None-clause-whole : goal.returns-in-None-clause-whole
returns-in-None-clause-whole c = λ all. own_whole c.args.cells.now c.args.structure c.index-cells-structure.result c.own_way.result
    c.requires.structure c.index-cells-structure.is c.in-None.ensures.none c.own_way.ensures.target
