use Rattle.std.proofs.Common.{[], inl, inr}
use Rattle.std.specs.Prelude.{◌⊎◌}
use Rattle.std.proofs.lemmas.Result.{IfOk-weaker}
use Rattle.dpl_spec_split.specs.Squares.{Covers}
use Rattle.dpl_spec_split.specs.Loops.{SomeLoopCovers}
use Rattle.dpl_spec_split.proofs.Ordered.{Contains-nil}
use Rattle.dpl_spec_split.proofs.SlabLaws.{member-Covers}
use Rattle.dpl_slabs.proofs.SetLaws.{slabs-of-same}
use Rattle.dpl_slabs.proofs.slabs.Slabs.of_loops.Goals as goal

pub of_shapes-requires-clause-rects : goal.of_shapes-requires-clause-rects
of_shapes-requires-clause-rects c = λ r r_in. absurd (Contains-nil r (rw c.new.ensures.items at r_in))

pub returns : goal.returns
returns c = IfOk-weaker c.of_shapes.result _ _
    (λ s is. slabs-of-same (λ p. Covers c.new.result.items p ⊎ SomeLoopCovers c.args.loops.items p) (SomeLoopCovers c.args.loops.items) s (λ p. (
      λ h. elim h [
        | inl none ↦ (let (r, r_in, has) = member-Covers [] p (rw c.new.ensures.items at none) in absurd (Contains-nil r r_in))
        | inr some ↦ some
      ],
      λ h. inr h,
    )) is)
    c.of_shapes.ensures
