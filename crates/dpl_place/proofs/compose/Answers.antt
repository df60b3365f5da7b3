use Rattle.std.proofs.Common.{arith, sym}
use Rattle.std.proofs.lemmas.Int.{ints}
use Rattle.dpl_spec_elements.specs.Motions.{Motion}
use Rattle.dpl_place.proofs.Composing.{composed, reflect_after-is}
use Rattle.dpl_place.proofs.Turning.{image-same}
use Rattle.dpl_place.proofs.compose.Goals as goal

pub returns : goal.returns
returns c =
    let outer : Motion = record { reflect = c.outer.inside.reflect; turns = c.outer.inside.turns; dx = c.outer.inside.dx; dy = c.outer.inside.dy } in
    let inner : Motion = record { reflect = c.inner.inside.reflect; turns = c.inner.inside.turns; dx = c.inner.inside.dx; dy = c.inner.inside.dy } in
    rw (← c.outer.view_is, ← c.inner.view_is) (composed outer inner _ c.apply-moved.result c.outer.invariant c.inner.invariant
    (reflect_after-is _ _) c.turns_in_all-turns.ensures.value (image-same _ _ _ _ _ _ _ c.apply-moved.ensures (sym c.outer.view_is)
    (omega (arith, ints)) (omega (arith, ints))) (omega (arith, ints)) (omega (arith, ints)) c.turns_in_all-turns.ensures.small)
