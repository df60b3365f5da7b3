use Rattle.dpl_layer.specs.View.{choice_view}
use Rattle.dpl_layer.proofs.layer.layer_by.Goals as goal

pub returns-clause-layer : goal.returns-clause-layer
returns-clause-layer g c = c.swept_by.ensures.layer (choice_view c.args.choice.now) c.args.bytes.items (rw c.as_slice.ensures.value at c.in_ok-drawn.ensures.drawn)

pub returns-clause-fault : goal.returns-clause-fault
returns-clause-fault g c = c.swept_by.ensures.fault (choice_view c.args.choice.now) c.args.bytes.items (rw c.as_slice.ensures.value at c.in_ok-drawn.ensures.drawn)
