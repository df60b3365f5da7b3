use Rattle.std.proofs.Common.{subst, IsTrue, ◌↔◌, w32}
use Rattle.std.proofs.lemmas.Int.{to_z-of_z}
use Rattle.dpl_spec_split.specs.declared.Rect.{Rect}
use Rattle.dpl_spec_split.specs.Squares.{AreNear, Has}
use Rattle.dpl_nearest.specs.Search.{ItemCovers}
use Rattle.dpl_nearest.proofs.rects.near_left.Goals as goal

pub returns : goal.returns
returns c =
    let is = rw (to_z-of_z w32 c.args.x c.ranges.x) at c.left-part.ensures in
    subst (λ (u : Rect). IsTrue c.near_any.result ↔ AreNear c.args.spacing (Has u) (ItemCovers c.args.owners c.args.others.now)) is c.near_any.ensures
