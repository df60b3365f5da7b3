use Rattle.std.proofs.Common.{arith}
use Rattle.std.specs.List.{Contains}
use Rattle.std.proofs.lemmas.List.Filters.{dedup_is}
use Rattle.dpl_tile.proofs.Orders.{pairs-members, pairs-ordered}
use Rattle.dpl_tile.proofs.cells.put_in_order.Goals as goal

pub returns-clause-ordered : goal.returns-clause-ordered
returns-clause-ordered c = pairs-ordered (Contains c.args.places.now.items) c.args.places.now.items _ _
    (λ e. (λ h. h, λ h. h)) c.sort_unstable.ensures.permutation c.sort_unstable.ensures.sorted (dedup_is _ _ _ c.dedup.ensures.filtered)

pub returns-clause-members : goal.returns-clause-members
returns-clause-members c = pairs-members (Contains c.args.places.now.items) c.args.places.now.items _ _
    (λ e. (λ h. h, λ h. h)) c.sort_unstable.ensures.permutation c.sort_unstable.ensures.sorted (dedup_is _ _ _ c.dedup.ensures.filtered)

pub returns-clause-few : goal.returns-clause-few
returns-clause-few c =
    let len = c.sort_unstable.ensures.len in
    let bound = c.dedup.ensures.bound in
    omega (arith, len, bound)
