use Rattle.std.proofs.Common.{◌≡◌, [], get_or, length, ◌∙◌, sym, refl, subst, arith}
use Rattle.std.proofs.lemmas.Result.{IfOk-from_err}
use Rattle.std.proofs.lemmas.Bool.{false≢true}
use Rattle.std.proofs.lemmas.List.{get_or_default, nil_from_length}
use Rattle.dpl_spec_split.specs.Squares.{Covers}
use Rattle.dpl_spec_split.specs.Zones.{part_at}
use Rattle.dpl_spec_split.specs.Marks.{HasSome}
use Rattle.dpl_edges.proofs.Fixing.{some-as}
use Rattle.dpl_gains.proofs.Holding.{held-empty, held-none, held-pass, held-more}
use Rattle.dpl_gains.proofs.held.held_roots.Goals.{then-has_some, else-has_some}
use Rattle.dpl_gains.proofs.held.held_roots.Goals as goal

pub loop-k-init : goal.loop-k-init
loop-k-init c = held-none c.args.parts.now c.args.roots.now c.args.set.now _ (c.in_ok-held.ensures.items_if_clones_equal (λ y h. h))

pub loop-k-preserved : goal.loop-k-preserved
loop-k-preserved c =
    let parts = c.args.parts.now in
    let roots = c.args.roots.now in
    let k = c.loop-k.k in
    let same : c.index-parts-k.result ≡ get_or parts k [] = c.index-parts-k.is ∙ get_or_default parts k c.index-parts-k.result [] c.loop-k-test.true in
    elim c.if-has_some.branch [
      | then-has_some w ↦
          (let some : HasSome (part_at parts k) (Covers c.args.set.now) = subst (λ rs. HasSome (Covers rs) (Covers c.args.set.now)) same
          (some-as c.index-parts-k.result _ c.args.set.now c.in_ok-tree.ensures (w.if-has_some.ensures.0 refl)) in
          rw w.held-is (held-more parts roots c.args.set.now k c.loop-k.held.items c.loop-k.invariant
          (c.requires.below k (let e = c.requires.each in let l = c.loop-k-test.true in omega (arith, e, l))) some))
      | else-has_some w ↦ rw w.held-is (held-pass parts roots c.args.set.now k c.loop-k.held.items c.loop-k.invariant
          (λ (p, mine, at). false≢true (w.if-has_some.ensures.1 (p, subst (λ rs. Covers rs p) (sym same) mine, (c.in_ok-tree.ensures p).1 at))))
    ]

pub returns-then-is_empty-clause-held : goal.returns-then-is_empty-clause-held
returns-then-is_empty-clause-held c =
    let none : length c.rects.result.now ≡ 0 = (let h = c.if-is_empty.ensures in grind arith) in
    (held-empty c.args.parts.now c.args.roots.now c.args.set.now _ (length c.args.parts.now) (nil_from_length c.args.set.now (rw c.rects.ensures.value at none))
    (c.in_ok-held.ensures.items_if_clones_equal (λ y h. h))).each

pub returns-in_err-held-clause-each : goal.returns-in_err-held-clause-each
returns-in_err-held-clause-each c = IfOk-from_err _ _ c.from_residual.ensures.0

pub returns-in_err-held-clause-held : goal.returns-in_err-held-clause-held
returns-in_err-held-clause-held c = IfOk-from_err _ _ c.from_residual.ensures.0

pub returns-in_err-tree-clause-each : goal.returns-in_err-tree-clause-each
returns-in_err-tree-clause-each c = IfOk-from_err _ _ c.from_residual-in_err-tree.ensures.0

pub returns-in_err-tree-clause-held : goal.returns-in_err-tree-clause-held
returns-in_err-tree-clause-held c = IfOk-from_err _ _ c.from_residual-in_err-tree.ensures.0
