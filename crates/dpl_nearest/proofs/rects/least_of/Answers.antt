use Rattle.std.proofs.Common.{subst, sym, rules, w32, w64}
use Rattle.std.specs.Int.RustNames.{FitsSigned}
use Rattle.std.proofs.lemmas.Int.{to_z-of_z}
use borrow.Author.Rules.{sfits_of}
use Rattle.dpl_spec_split.specs.declared.Rect.{Rect}
use Rattle.dpl_spec_split.specs.Squares.{AreNear, Has}
use Rattle.dpl_nearest.specs.Search.{ItemCovers}
use Rattle.dpl_nearest.proofs.NearLaws.{least_square_in}
use Rattle.dpl_nearest.proofs.rects.least_of.Goals as goal

pub first_column-x-requires-clause-near : goal.first_column-x-requires-clause-near
first_column-x-requires-clause-near c =
    let is = rw (to_z-of_z w32 c.first_row-y.result (sfits_of c.first_row-y.type_inv)) at c.row-only.ensures in
    subst (λ (u : Rect). AreNear c.args.spacing (Has u) (ItemCovers c.args.owners c.args.others.now)) (sym is) c.first_row-y.ensures.near

pub returns : goal.returns
returns c =
    let is = rw (to_z-of_z w32 c.first_row-y.result (sfits_of c.first_row-y.type_inv)) at c.row-only.ensures in
    let x : FitsSigned w64 c.first_column-x.result = search rules in
    let y : FitsSigned w64 c.first_row-y.result = search rules in
    rw (
      to_z-of_z w32 c.first_row-y.result (sfits_of c.first_row-y.type_inv),
      to_z-of_z w32 c.first_column-x.result
          (sfits_of c.first_column-x.type_inv),
      to_z-of_z w64 c.first_row-y.result y,
      to_z-of_z w64 c.first_column-x.result x,
    )
    (least_square_in c.args.spacing c.args.r.now c.row-only.result (ItemCovers c.args.owners c.args.others.now) c.first_column-x.result c.first_row-y.result is
    c.first_row-y.ensures.low c.first_row-y.ensures.high c.first_column-x.ensures.low c.first_column-x.ensures.high
    c.first_column-x.ensures.near c.first_column-x.ensures.first c.first_row-y.ensures.first)
