use Rattle.std.proofs.Common.{refl, w32}
use Rattle.std.proofs.lemmas.Bool.{false≢true}
use Rattle.std.proofs.lemmas.Int.{to_z-of_z}
use Rattle.dpl_join.proofs.close.spans_close.Goals as goal

pub returns-then-not-reaches : goal.returns-then-not-reaches
returns-then-not-reaches c =
    let right = rw (to_z-of_z w32 c.args.a1 c.ranges.a1, to_z-of_z w32 c.args.b0 c.ranges.b0) at c.if-not-reaches.ensures in
    (λ h. absurd (false≢true h), λ (a, b). absurd (false≢true (right.1 a)))

pub returns : goal.returns
returns c =
    let right = rw (to_z-of_z w32 c.args.a1 c.ranges.a1, to_z-of_z w32 c.args.b0 c.ranges.b0) at (c.if-not-reaches.ensures.0 refl) in
    let left = rw (to_z-of_z w32 c.args.b1 c.ranges.b1, to_z-of_z w32 c.args.a0 c.ranges.a0) at c.reaches-2.ensures in
    (λ h. (right, left.0 h), λ (a, b). left.1 b)
