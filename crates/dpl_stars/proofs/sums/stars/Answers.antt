use Rattle.std.proofs.Common.{◌≡◌, ◌∙◌, length, sym, ap, subst, refl}
use Rattle.std.proofs.lemmas.Bool.{false≢true}
use Rattle.dpl_stars.specs.Levels.{AreEdgesBelow}
use Rattle.dpl_stars.proofs.Solved.{solved-from, solved-odd, solved-roots, solved-list, solved-stars}
use Rattle.std.proofs.lemmas.Result.{IfOk-from_err}
use Rattle.dpl_stars.proofs.sums.stars.Goals as goal

pub of-requires : goal.of-requires
of-requires c = c.in_ok-touched.ensures.rising

pub placed-requires-clause-touched : goal.placed-requires-clause-touched
placed-requires-clause-touched c = rw c.in_ok-places.ensures c.in_ok-touched.ensures

pub returns-then-is_levelled : goal.returns-then-is_levelled
returns-then-is_levelled c =
    let s = solved-from c.args.edges.now c.in_ok-placed.placed.items _ c.in_ok-places.places c.in_ok-levels.levels.roots.items c.in_ok-levels.levels.levels.items _
    c.requires (rw c.in_ok-places.ensures c.in_ok-touched.ensures) c.in_ok-placed.ensures (ap length c.pieces-pieces.ensures) c.deref.ensures.value c.in_ok-levels.ensures in
    solved-odd _ _ _ _ _ s _ _ c.deref-3.ensures.value c.deref-2.ensures.value (c.if-is_levelled.ensures.0 refl)

pub rows-requires-clause-below : goal.rows-requires-clause-below
rows-requires-clause-below c =
    let s = solved-from c.args.edges.now c.in_ok-placed.placed.items _ c.in_ok-places.places c.in_ok-levels.levels.roots.items c.in_ok-levels.levels.levels.items _
    c.requires (rw c.in_ok-places.ensures c.in_ok-touched.ensures) c.in_ok-placed.ensures (ap length c.pieces-pieces.ensures) c.deref.ensures.value c.in_ok-levels.ensures in
    solved-roots _ _ _ _ _ s _ _ c.deref-4.ensures.value c.pieces-pieces.ensures

pub of-requires-2 : goal.of-requires-2
of-requires-2 c =
    let s = solved-from c.args.edges.now c.in_ok-placed.placed.items _ c.in_ok-places.places c.in_ok-levels.levels.roots.items c.in_ok-levels.levels.levels.items _
    c.requires (rw c.in_ok-places.ensures c.in_ok-touched.ensures) c.in_ok-placed.ensures (ap length c.pieces-pieces.ensures) c.deref.ensures.value c.in_ok-levels.ensures in
    solved-list _ _ _ _ _ s _ _ _ _ c.pieces-pieces.ensures c.deref-4.ensures.value c.deref-5.ensures.value c.in_ok-rows.ensures

pub returns : goal.returns
returns c =
    let s = solved-from c.args.edges.now c.in_ok-placed.placed.items _ c.in_ok-places.places c.in_ok-levels.levels.roots.items c.in_ok-levels.levels.levels.items _
    c.requires (rw c.in_ok-places.ensures c.in_ok-touched.ensures) c.in_ok-placed.ensures (ap length c.pieces-pieces.ensures) c.deref.ensures.value c.in_ok-levels.ensures in
    solved-stars _ _ _ _ _ s _ _ _ _ _ _ _ c.pieces-pieces.ensures c.deref-4.ensures.value c.deref-5.ensures.value c.in_ok-rows.ensures
    c.of-2.ensures c.deref-3.ensures.value c.deref-2.ensures.value (λ on. false≢true (c.if-is_levelled.ensures.1 on))

pub placed-requires-clause-pairs : goal.placed-requires-clause-pairs
placed-requires-clause-pairs c = c.requires

pub is_levelled-requires : goal.is_levelled-requires
is_levelled-requires c =
    let len : length c.deref-3.result.now ≡ length c.in_ok-places.places =
    ap length c.deref-3.ensures.value ∙ (c.in_ok-levels.ensures.as_many_levels ∙ ap length c.pieces-pieces.ensures) in
    subst (λ n. AreEdgesBelow n c.deref-2.result.now) (sym len)
    (subst (λ es. AreEdgesBelow (length c.in_ok-places.places) es) (sym c.deref-2.ensures.value) c.in_ok-placed.ensures.below)

pub rows-requires-clause-roots : goal.rows-requires-clause-roots
rows-requires-clause-roots c = rw c.deref-4.ensures.value c.in_ok-levels.ensures.as_many_roots

pub rows-requires-clause-levels : goal.rows-requires-clause-levels
rows-requires-clause-levels c = rw c.deref-5.ensures.value c.in_ok-levels.ensures.as_many_levels

pub returns-in_err-touched : goal.returns-in_err-touched
returns-in_err-touched c = IfOk-from_err _ _ c.from_residual.ensures.0

pub returns-in_err-places : goal.returns-in_err-places
returns-in_err-places c = IfOk-from_err _ _ c.from_residual-in_err-places.ensures.0

pub returns-in_err-placed : goal.returns-in_err-placed
returns-in_err-placed c = IfOk-from_err _ _ c.from_residual-in_err-placed.ensures.0

pub returns-in_err-levels : goal.returns-in_err-levels
returns-in_err-levels c = IfOk-from_err _ _ c.from_residual-in_err-levels.ensures.0

pub returns-in_err-rows : goal.returns-in_err-rows
returns-in_err-rows c = IfOk-from_err _ _ c.from_residual-in_err-rows.ensures.0
