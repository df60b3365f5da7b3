use Rattle.std.proofs.Common.{rules}
use Rattle.dpl_edges.proofs.Windows.{clip-squares, clip-solid, greater-as, greater-fits, long-fits, same-short, smaller-as, smaller-fits}
use Rattle.dpl_session.proofs.clip.clipped.Goals as goal

pub overflow_cast-result : goal.overflow_cast-result
overflow_cast-result c = long-fits _ (greater-fits c.args.r.now.x0 c.args.cell.now.x0 c.args.r.now.x1 c.max.result c.requires.slab.left
    c.requires.slab.right c.requires.slab.wide c.requires.common.left (greater-as c.args.r.now.x0 c.x0.result c.args.cell.now.x0 c.max.result
    (search rules) (search rules) c.x0.ensures c.max.ensures.value))

pub overflow_cast-result-2 : goal.overflow_cast-result-2
overflow_cast-result-2 c = long-fits _ (greater-fits c.args.r.now.y0 c.args.cell.now.y0 c.args.r.now.y1 c.max-2.result c.requires.slab.low
    c.requires.slab.high c.requires.slab.tall c.requires.common.low (greater-as c.args.r.now.y0 c.y0.result c.args.cell.now.y0 c.max-2.result
    (search rules) (search rules) c.y0.ensures c.max-2.ensures.value))

pub overflow_cast-result-3 : goal.overflow_cast-result-3
overflow_cast-result-3 c = long-fits _ (smaller-fits c.args.r.now.x1 c.args.cell.now.x1 c.args.r.now.x0 c.min.result c.requires.slab.left
    c.requires.slab.right c.requires.slab.wide c.requires.common.right
    (smaller-as c.args.r.now.x1 c.x1.result c.args.cell.now.x1 c.min.result (search rules) (search rules) c.x1.ensures c.min.ensures.value))

pub overflow_cast-result-4 : goal.overflow_cast-result-4
overflow_cast-result-4 c = long-fits _ (smaller-fits c.args.r.now.y1 c.args.cell.now.y1 c.args.r.now.y0 c.min-2.result c.requires.slab.low
    c.requires.slab.high c.requires.slab.tall c.requires.common.high
    (smaller-as c.args.r.now.y1 c.y1.result c.args.cell.now.y1 c.min-2.result (search rules)
    (search rules) c.y1.ensures c.min-2.ensures.value))

pub returns-clause-squares : goal.returns-clause-squares
returns-clause-squares c =
    let x0 = greater-as c.args.r.now.x0 c.x0.result c.args.cell.now.x0 c.max.result (search rules) (search rules) c.x0.ensures c.max.ensures.value in
    let y0 = greater-as c.args.r.now.y0 c.y0.result c.args.cell.now.y0 c.max-2.result (search rules) (search rules) c.y0.ensures c.max-2.ensures.value in
    let x1 = smaller-as c.args.r.now.x1 c.x1.result c.args.cell.now.x1 c.min.result (search rules) (search rules) c.x1.ensures c.min.ensures.value in
    let y1 = smaller-as c.args.r.now.y1 c.y1.result c.args.cell.now.y1 c.min-2.result (search rules) (search rules) c.y1.ensures c.min-2.ensures.value in
    rw (
      same-short _ (greater-fits c.args.r.now.x0 c.args.cell.now.x0 c.args.r.now.x1 c.max.result c.requires.slab.left
          c.requires.slab.right c.requires.slab.wide c.requires.common.left x0),
      same-short _ (greater-fits c.args.r.now.y0 c.args.cell.now.y0 c.args.r.now.y1 c.max-2.result c.requires.slab.low c.requires.slab.high
          c.requires.slab.tall c.requires.common.low y0),
      same-short _ (smaller-fits c.args.r.now.x1 c.args.cell.now.x1 c.args.r.now.x0 c.min.result c.requires.slab.left c.requires.slab.right
          c.requires.slab.wide c.requires.common.right x1),
      same-short _ (smaller-fits c.args.r.now.y1 c.args.cell.now.y1 c.args.r.now.y0 c.min-2.result c.requires.slab.low c.requires.slab.high
          c.requires.slab.tall c.requires.common.high y1),
    )
    (clip-squares c.args.r.now c.args.cell.now c.max.result c.max-2.result c.min.result c.min-2.result x0 y0 x1 y1)

pub returns-clause-solid : goal.returns-clause-solid
returns-clause-solid c =
    let x0 = greater-as c.args.r.now.x0 c.x0.result c.args.cell.now.x0 c.max.result (search rules) (search rules) c.x0.ensures c.max.ensures.value in
    let y0 = greater-as c.args.r.now.y0 c.y0.result c.args.cell.now.y0 c.max-2.result (search rules) (search rules) c.y0.ensures c.max-2.ensures.value in
    let x1 = smaller-as c.args.r.now.x1 c.x1.result c.args.cell.now.x1 c.min.result (search rules) (search rules) c.x1.ensures c.min.ensures.value in
    let y1 = smaller-as c.args.r.now.y1 c.y1.result c.args.cell.now.y1 c.min-2.result (search rules) (search rules) c.y1.ensures c.min-2.ensures.value in
    rw (
      same-short _ (greater-fits c.args.r.now.x0 c.args.cell.now.x0 c.args.r.now.x1 c.max.result c.requires.slab.left
          c.requires.slab.right c.requires.slab.wide c.requires.common.left x0),
      same-short _ (greater-fits c.args.r.now.y0 c.args.cell.now.y0 c.args.r.now.y1 c.max-2.result c.requires.slab.low c.requires.slab.high
          c.requires.slab.tall c.requires.common.low y0),
      same-short _ (smaller-fits c.args.r.now.x1 c.args.cell.now.x1 c.args.r.now.x0 c.min.result c.requires.slab.left c.requires.slab.right
          c.requires.slab.wide c.requires.common.right x1),
      same-short _ (smaller-fits c.args.r.now.y1 c.args.cell.now.y1 c.args.r.now.y0 c.min-2.result c.requires.slab.low c.requires.slab.high
          c.requires.slab.tall c.requires.common.high y1),
    )
    (clip-solid c.args.r.now c.args.cell.now c.max.result c.max-2.result c.min.result c.min-2.result x0 y0 x1 y1 c.requires.slab c.requires.cell c.requires.common)
