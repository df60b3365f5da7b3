-- What a sort by left columns leaves.
use Rattle.std.proofs.Common.{List, get_or, refl}
use Rattle.std.specs.Ordering.{is_lt, int_cmp}
use Rattle.std.specs.List.Sorted.{IsSortedByKey}
use Rattle.std.proofs.lemmas.Cmp.{int_cmp_total}
use Rattle.std.proofs.lemmas.List.Sorted.{sorted_far, ranks_by}
use Rattle.dpl_spec_split.specs.declared.Rect.{Rect}
use Rattle.dpl_order.proofs.Orders.{at_most}
use Rattle.dpl_upward.specs.Active.{LeftsRise}

pub lefts-rise : (rs : List Rect) → IsSortedByKey (λ r. r.x0) int_cmp rs → LeftsRise rs
lefts-rise rs h i j d l within =
    at_most (get_or rs j d).x0 (get_or rs i d).x0 _ refl
    (sorted_far (λ a b. is_lt (int_cmp a.x0 b.x0)) (ranks_by int_cmp_total (λ r. r.x0)) rs h i j d l within)
