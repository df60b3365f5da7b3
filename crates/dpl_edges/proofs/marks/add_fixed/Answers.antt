use Rattle.std.proofs.Common.{◌≡◌, [], get_or, ◌∙◌, sym, refl, subst, arith}
use Rattle.std.proofs.lemmas.Bool.{false≢true}
use Rattle.std.proofs.lemmas.List.{get_or_default}
use Rattle.std.proofs.lemmas.Result.{IfOk-from_err}
use Rattle.dpl_spec_split.specs.Squares.{Covers}
use Rattle.dpl_spec_split.specs.Zones.{part_at}
use Rattle.dpl_spec_split.specs.Marks.{HasSome}
use Rattle.dpl_edges.proofs.Fixing.{fixed-all, fixed-more, fixed-pass, some-as}
use Rattle.dpl_edges.proofs.marks.add_fixed.Goals.{then-has_some+in-Some+in_ok-push, else-has_some}
use Rattle.dpl_edges.proofs.marks.add_fixed.Goals as goal

pub loop-k-preserved : goal.loop-k-preserved
loop-k-preserved c =
    let parts = c.args.parts.now in
    let old = c.args.edges.now.items in
    let same : c.index-parts-k.result ≡ get_or parts c.loop-k.k [] = c.index-parts-k.is ∙ get_or_default parts c.loop-k.k c.index-parts-k.result [] c.loop-k-test.true in
    elim c.if-has_some.branch [
      | then-has_some+in-Some+in_ok-push w ↦
          (let some : HasSome (part_at parts c.loop-k.k) (Covers c.args.set.now) = subst (λ rs. HasSome (Covers rs) (Covers c.args.set.now)) same
          (some-as c.index-parts-k.result _ c.args.set.now c.in_ok-tree.ensures (w.if-has_some.ensures.0 refl)) in
          rw w.edges-is (rw w.in_ok-push.ensures.items (fixed-more parts c.args.set.now c.args.anchor old c.loop-k.k w.in-Some.vertex c.loop-k.edges.items c.requires.ahead
          c.loop-k-test.true some (omega (arith, w.in-Some.ensures)) c.loop-k.invariant)))
      | else-has_some w ↦ rw w.edges-is (fixed-pass parts c.args.set.now c.args.anchor old c.loop-k.k c.loop-k.edges.items
          (λ (p, mine, at). false≢true (w.if-has_some.ensures.1 (p, subst (λ rs. Covers rs p) (sym same) mine, (c.in_ok-tree.ensures p).1 at))) c.loop-k.invariant)
    ]

pub returns-clause-members : goal.returns-clause-members
returns-clause-members c = fixed-all c.args.parts.now c.args.set.now c.args.anchor c.args.edges.now.items c.loop-k.k c.loop-k.edges.items (omega (arith, c.loop-k-test.false)) c.loop-k.invariant

pub returns-in_err-tree-clause-ordered : goal.returns-in_err-tree-clause-ordered
returns-in_err-tree-clause-ordered c = IfOk-from_err _ _ c.from_residual.ensures.0

pub returns-in_err-tree-clause-members : goal.returns-in_err-tree-clause-members
returns-in_err-tree-clause-members c = IfOk-from_err _ _ c.from_residual.ensures.0

pub returns-in_err-push-clause-ordered : goal.returns-in_err-push-clause-ordered
returns-in_err-push-clause-ordered c = IfOk-from_err _ _ c.from_residual-in_err-push.ensures.0

pub returns-in_err-push-clause-members : goal.returns-in_err-push-clause-members
returns-in_err-push-clause-members c = IfOk-from_err _ _ c.from_residual-in_err-push.ensures.0
