use Rattle.std.proofs.Common.{refl, sym, subst}
use Rattle.std.proofs.lemmas.Bool.{false≢true}
use Rattle.dpl_spec_split.specs.Squares.{Covers}
use Rattle.dpl_spec_split.specs.Marks.{HasSome}
use Rattle.dpl_edges.proofs.Fixing.{none-more, none-some, some-here}
use Rattle.dpl_edges.proofs.marks.has_some.Goals as goal

pub returns-then-meets : goal.returns-then-meets
returns-then-meets c = (
  λ q. subst (λ u. HasSome (Covers u) (Covers c.args.set.now)) c.rects-r-items.ensures.value
      (some-here c.rects-r-items.result.now c.args.set.now c.loop-r.r-index _ c.loop-r-test.true (c.if-meets.ensures.0 refl)),
  λ h. refl,
)

pub loop-r-preserved : goal.loop-r-preserved
loop-r-preserved c =
    none-more c.rects-r-items.result.now c.args.set.now c.loop-r.r-index _ c.loop-r-test.true c.loop-r.invariant (λ h. false≢true (c.if-meets.ensures.1 h))

pub returns : goal.returns
returns c = (
  λ q. absurd (false≢true q),
  λ h. absurd (none-some c.rects-r-items.result.now c.args.set.now c.loop-r.r-index c.loop-r-test.false c.loop-r.invariant
      (subst (λ u. HasSome (Covers u) (Covers c.args.set.now)) (sym c.rects-r-items.ensures.value) h)),
)
