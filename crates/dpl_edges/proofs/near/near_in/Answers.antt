use Rattle.std.proofs.Common.{refl}
use Rattle.std.proofs.lemmas.Bool.{false≢true}
use Rattle.dpl_edges.proofs.Windows.{common-from}
use Rattle.dpl_edges.proofs.near.near_in.Goals as goal

pub returns-then-not-have_common : goal.returns-then-not-have_common
returns-then-not-have_common c = (
  λ h. absurd (false≢true h),
  λ (p, q, (a, in_cell), b, near). c.if-not-have_common.ensures.1 (common-from c.args.cell.now c.args.r.now p in_cell a),
)

pub clipped-requires-clause-slab : goal.clipped-requires-clause-slab
clipped-requires-clause-slab c = c.requires.slab

pub clipped-requires-clause-cell : goal.clipped-requires-clause-cell
clipped-requires-clause-cell c = c.requires.cell

pub clipped-requires-clause-common : goal.clipped-requires-clause-common
clipped-requires-clause-common c = c.if-not-have_common.ensures.0 refl
