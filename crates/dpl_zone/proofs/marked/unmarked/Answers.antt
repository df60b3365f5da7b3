use Rattle.std.proofs.Common.{refl, rules}
use Rattle.std.proofs.lemmas.Bool.{false≢true}
use Rattle.std.proofs.lemmas.Result.{IfOk-from_err}
use Rattle.dpl_spec_split.specs.Squares.{Covers}
use Rattle.dpl_zone.proofs.MarkedLaws.{dropped-at, unmarked-all, unmarked-more}
use Rattle.dpl_zone.proofs.marked.unmarked.Goals.{then-not-meets+in_ok-push, else-not-meets}
use Rattle.dpl_zone.proofs.marked.unmarked.Goals as goal

pub loop-z-preserved : goal.loop-z-preserved
loop-z-preserved c = elim c.if-not-meets.branch [
  | then-not-meets+in_ok-push w ↦ rw w.kept-is (rw w.in_ok-push.ensures.items (unmarked-more (Covers c.args.marked.now) c.deref-z-items.result.now
      (rw c.deref-z-items.ensures.value c.requires.ordered) c.loop-z.z-index _ c.loop-z.kept.items c.loop-z-test.true (search rules) c.loop-z.invariant
      (λ p has at. absurd (false≢true (w.if-not-meets.ensures.1 (p, has, (c.in_ok-tree.ensures p).1 at))))))
  | else-not-meets w ↦ rw w.kept-is (let (p, has, at) = w.if-not-meets.ensures.0 refl in dropped-at (Covers c.args.marked.now) c.deref-z-items.result.now
      (rw c.deref-z-items.ensures.value c.requires.ordered) c.loop-z.z-index c.loop-z.kept.items c.loop-z-test.true c.loop-z.invariant
      _ p has ((c.in_ok-tree.ensures p).0 at))
]

pub returns-clause-members : goal.returns-clause-members
returns-clause-members c =
    unmarked-all (Covers c.args.marked.now) c.args.zones.items c.loop-z.z-index c.loop-z.kept.items
    (rw c.deref-z-items.ensures.value at c.loop-z-test.false) (rw c.deref-z-items.ensures.value at c.loop-z.invariant)

pub returns-in_err-tree-clause-ordered : goal.returns-in_err-tree-clause-ordered
returns-in_err-tree-clause-ordered c = IfOk-from_err _ _ c.from_residual.ensures.0

pub returns-in_err-tree-clause-members : goal.returns-in_err-tree-clause-members
returns-in_err-tree-clause-members c = IfOk-from_err _ _ c.from_residual.ensures.0

pub returns-in_err-push-clause-ordered : goal.returns-in_err-push-clause-ordered
returns-in_err-push-clause-ordered c = IfOk-from_err _ _ c.from_residual-in_err-push.ensures.0

pub returns-in_err-push-clause-members : goal.returns-in_err-push-clause-members
returns-in_err-push-clause-members c = IfOk-from_err _ _ c.from_residual-in_err-push.ensures.0
