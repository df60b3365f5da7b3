use Rattle.std.proofs.Common.{◌≡◌, List, Result, Ok, Err}
use Rattle.std.specs.Result.{IfOk}
use Rattle.std.proofs.lemmas.Result.{IfOk-from_err}
use Rattle.dpl_spec_split.specs.declared.Rect.{Rect}
use Rattle.dpl_spec_split.specs.declared.Spacing.{Spacing}
use Rattle.dpl_slabs.specs.Parts.{AreParts}
use Rattle.dpl_join.specs.declared.items.Item.{Item}
use Rattle.dpl_join.specs.Joins.{Joined}
use Rattle.dpl_tile.specs.Meetings.{AreItemsOf}
use Rattle.dpl_edges.specs.Found.{IsJoinOf}
use Rattle.dpl_edges.proofs.pairs.joined.Goals as goal

joined-of : {E : Type 0} (r : Result Joined E) (parts : List (List Rect)) (spacing : Spacing) (items : List Item) → AreParts parts → AreItemsOf parts items
    → IfOk r (λ j. j.items ≡ items) → IfOk r (λ j. j.rule ≡ spacing.rule) → IfOk r (IsJoinOf parts spacing)
joined-of (Ok j) parts spacing items parted are same rule = record { parted = parted; listed = rw same are; rule = rule }
joined-of (Err _) parts spacing items parted are same rule = tt

pub returns : goal.returns
returns c =
    joined-of c.of.result c.args.parts.now c.args.spacing c.in_ok-items.items.items c.items.ensures.parts (rw c.items.ensures.value at c.in_ok-items.ensures)
    c.of.ensures.items c.of.ensures.rule

pub returns-in_err-items : goal.returns-in_err-items
returns-in_err-items c = IfOk-from_err _ _ c.from_residual.ensures.0
