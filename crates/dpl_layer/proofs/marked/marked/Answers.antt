use Rattle.std.proofs.Common.{subst}
use Rattle.dpl_layer.specs.Drawn.{AreMarkersOf}
use Rattle.dpl_layer.specs.declared.marked.Markers.{Markers}
use Rattle.dpl_layer.proofs.Markers.{drawn_marked}
use Rattle.dpl_layer.proofs.marked.marked.Goals as goal

pub returns-in_ok-meet-in-Drawn-clause-set : goal.returns-in_ok-meet-in-Drawn-clause-set
returns-in_ok-meet-in-Drawn-clause-set c = λ lib top n are.
    drawn_marked lib top n c.in-Drawn.drawing c.in_ok-squares-in-Drawn.squares c.args.layer.now c.in_ok-meet-in-Drawn.field-0
    c.in_ok-squares-in-Drawn.ensures.squares c.in_ok-meet-in-Drawn.ensures
    (subst (λ (m : Markers). AreMarkersOf lib top n m) c.in-Drawn.is are)
