use Rattle.std.proofs.Common.{List, subst}
use Rattle.dpl_spec_split.specs.declared.Rect.{Rect}
use Rattle.dpl_spec_split.specs.Squares.{Covers, SameSquares}
use Rattle.dpl_spec_split.proofs.SlabLaws.{canonical-unique}
use Rattle.dpl_spec_split.proofs.SquareLaws.{SameSquares-refl}
use Rattle.dpl_session.proofs.tile.same_slabs.Goals as goal

pub returns : goal.returns
returns c = (
  λ t. canonical-unique c.args.a.now c.args.b.now c.rects.ensures.canonical c.rects-2.ensures.canonical (c.equal.ensures.0 t),
  λ e. c.equal.ensures.1 (subst (λ (s : List Rect). SameSquares (Covers c.args.a.now) (Covers s)) e (SameSquares-refl (Covers c.args.a.now))),
)
