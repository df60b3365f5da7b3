use Rattle.dpl_records.specs.Seen.{seen}
use Rattle.dpl_syntax.proofs.PlainBoundaries.{plain_boundary}
use Rattle.dpl_syntax.proofs.Sizes.{layer_size, datatype_size, points_size}
use Rattle.dpl_syntax.proofs.reader.Reader.take_plain.Goals as goal

pub returns-clause-taken : goal.returns-clause-taken
returns-clause-taken c =
    let first = c.in_ok-boundary.ensures in
    rw (c.u16_at.ensures, c.u16_at-2.ensures) (plain_boundary c.args.self.now.bytes.now (seen c.in_ok-layer.layer) (seen c.in_ok-datatype.datatype)
    (seen c.in_ok-xy.xy) c.args.self.now.at (seen c.in_ok-boundary.boundary) (seen c.in_ok-end.end)
    (record { found = first.exact; is = first.kind }) first.within.1 first.within.2
    (record { found = c.in_ok-layer.ensures.exact; is = c.in_ok-layer.ensures.kind })
    (record { found = c.in_ok-datatype.ensures.exact; is = c.in_ok-datatype.ensures.kind })
    (record { found = c.in_ok-xy.ensures.exact; is = c.in_ok-xy.ensures.kind })
    (record { found = c.in_ok-end.ensures.exact; is = c.in_ok-end.ensures.kind }))

pub u16_at-requires : goal.u16_at-requires
u16_at-requires c = layer_size _ c.in_ok-layer.ensures.sized

pub u16_at-requires-2 : goal.u16_at-requires-2
u16_at-requires-2 c = datatype_size _ c.in_ok-datatype.ensures.sized

pub returns-clause-sized : goal.returns-clause-sized
returns-clause-sized c = points_size _ c.in_ok-xy.ensures.sized
