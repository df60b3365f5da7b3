use Rattle.std.proofs.Common.{◌*◌, ◌+◌, refl, ap, subst, ◌∙◌}
use Rattle.dpl_spec_split.specs.Graphs.{IsRoot, graph_of}
use Rattle.dpl_stars.specs.declared.list.Star.{Star}
use Rattle.dpl_wide.proofs.Crossing.{row-root, row-there, touch-joins}
use Rattle.dpl_wide.proofs.Rooting.{touch-itself}
use Rattle.dpl_wide.proofs.features.parent_of.Goals as goal

pub unreachable-requires : goal.unreachable-requires
unreachable-requires c =
    let slabs = c.args.layer.now in
    let k = c.args.k in
    let (edges, pairs, are, sums) = c.requires.sums in
    let (r, (m, m_in, is), piece) = row-there slabs edges are c.args.rows.now sums (2 * k) (2 * k + 1)
    (touch-joins slabs edges are k k (touch-itself slabs c.requires.canonical k c.requires.inside)) in
    c.in-None.ensures m r m_in (ap (λ (s : Star). s.piece) is ∙ piece)

pub returns : goal.returns
returns c = λ edges pairs are sums.
    let (listed, piece) = c.in-Some.ensures in (
      c.in-Some.row.root,
      subst (λ v. IsRoot (graph_of edges) v c.in-Some.row.root) piece (row-root c.args.layer.now edges are c.args.rows.now sums c.in-Some.row listed),
      refl,
    )
