use Rattle.dpl_order.proofs.JoinLaws.{apart-permutation, joined-permuted}
use Rattle.dpl_order.proofs.join.join_pieces.Goals as goal

pub join-requires-clause-apart : goal.join-requires-clause-apart
join-requires-clause-apart c = apart-permutation c.args.pieces.items _ c.sort_by_columns.ensures.same c.requires

pub returns : goal.returns
returns c = joined-permuted c.args.pieces.items _ _ c.sort_by_columns.ensures.same c.join.ensures
