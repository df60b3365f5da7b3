use Rattle.std.specs.Prelude.{Result, Ok, Err, IfOk}
use Rattle.std.proofs.Common.{◌∙◌, length, sym, ap}
use Rattle.dpl_gains.proofs.Rooting.{roots-below}
use Rattle.dpl_gains.proofs.Whole.{gains-are}
use Rattle.dpl_gains.proofs.gains.gains_by_roots.Goals as goal

pub held_roots-requires-clause-each : goal.held_roots-requires-clause-each
held_roots-requires-clause-each c = let (spacing, are) = c.requires.roots in are.each ∙ sym (ap length (c.items.ensures.value ∙ c.parts.ensures.value))

pub held_roots-requires-clause-below : goal.held_roots-requires-clause-below
held_roots-requires-clause-below c =
    let (spacing, are) = c.requires.roots in roots-below spacing c.args.pieces.now.parts c.args.pieces.now.owners c.args.roots.now are

pub tallies_of-requires-clause-each : goal.tallies_of-requires-clause-each
tallies_of-requires-clause-each c = let (spacing, are) = c.requires.roots in c.requires.each ∙ sym are.each

pub tallies_of-requires-clause-below : goal.tallies_of-requires-clause-below
tallies_of-requires-clause-below c =
    let (spacing, are) = c.requires.roots in roots-below spacing c.args.pieces.now.parts c.args.pieces.now.owners c.args.roots.now are

if-both : {X Y : Type 0} (r : Result X Y) (P Q R : X → Type 0) → ((x : X) → P x → Q x → R x) → IfOk r P → IfOk r Q → IfOk r R
if-both (Ok x) P Q R both p q = both x p q
if-both (Err _) P Q R both p q = tt

pub returns : goal.returns
returns c = λ spacing rooted features marks same.
    if-both c.listed.result _ _ _
    (λ gains ordered exactly. gains-are marks spacing c.args.pieces.now c.args.letters.now c.args.marked.now c.args.roots.now c.in_ok-held.held.items
    c.in_ok-tallies.tallies.items same rooted
    (rw (c.items.ensures.value, c.parts.ensures.value) at c.in_ok-held.ensures.held)
    (rw c.sides.ensures.value at c.in_ok-tallies.ensures) features gains.items ordered
    (rw (c.deref.ensures.value, c.deref-2.ensures.value) at exactly))
    c.listed.ensures.ordered c.listed.ensures.exactly
