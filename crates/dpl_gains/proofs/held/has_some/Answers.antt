use Rattle.std.proofs.Common.{ℕ, ◌+◌, ◌<◌, inl, inr, List, length, get_or, refl, sym, subst, ap, ◌∙◌, arith}
use Rattle.std.proofs.lemmas.Bool.{cases_eq, false≢true}
use Rattle.std.proofs.lemmas.List.{get_or_default}
use Rattle.dpl_spec_split.specs.declared.Pt.{Pt}
use Rattle.dpl_spec_split.specs.declared.Rect.{Rect}
use Rattle.dpl_spec_split.specs.Squares.{Covers, Has}
use Rattle.dpl_spec_split.specs.Marks.{HasSome}
use Rattle.dpl_edges.proofs.Fixing.{NoneYet, none-some}
use Rattle.dpl_gains.proofs.held.has_some.Goals as goal

none-next : (part set : List Rect) (n : ℕ) (r : Rect) → n < length part → NoneYet part set n → ((p : Pt) × Has (get_or part n r) p × Covers set p → ⊥)
    → NoneYet part set (n + 1)
none-next part set n r n_in none here k d p l has at = elim (cases_eq k n) [
  | inl e ↦ here (p, subst (λ (s : Rect). Has s p) (ap (λ (m : ℕ). get_or part m d) e ∙ get_or_default part n d r n_in) has, at)
  | inr ne ↦ none k d p (omega (arith, l, ne)) has at
]

some-at : (part set : List Rect) (n : ℕ) (r : Rect) → n < length part → (p : Pt) × Has (get_or part n r) p × Covers set p → HasSome (Covers part) (Covers set)
some-at part set n r n_in (p, has, at) = (p, (n, get_or part n r, n_in, get_or_default part n (get_or part n r) r n_in, has), at)

pub returns-then-meets : goal.returns-then-meets
returns-then-meets c = (
  λ q. subst (λ (u : List Rect). HasSome (Covers u) (Covers c.args.set.now)) c.rects-r-items.ensures.value
      (some-at c.rects-r-items.result.now c.args.set.now c.loop-r.r-index _ c.loop-r-test.true (c.if-meets.ensures.0 refl)),
  λ h. refl,
)

pub loop-r-preserved : goal.loop-r-preserved
loop-r-preserved c =
    none-next c.rects-r-items.result.now c.args.set.now c.loop-r.r-index _ c.loop-r-test.true c.loop-r.invariant (λ h. false≢true (c.if-meets.ensures.1 h))

pub returns : goal.returns
returns c = (
  λ q. absurd (false≢true q),
  λ h. absurd (none-some c.rects-r-items.result.now c.args.set.now c.loop-r.r-index c.loop-r-test.false c.loop-r.invariant
      (subst (λ (u : List Rect). HasSome (Covers u) (Covers c.args.set.now)) (sym c.rects-r-items.ensures.value) h)),
)
