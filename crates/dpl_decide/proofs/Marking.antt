-- The marks of a layout with markers.
use Rattle.std.proofs.Common.{◌⊎◌, ◌||◌, ℕ, List, Option, Some, None, is_some}
use Rattle.dpl_spec_split.specs.declared.Rect.{Rect}
use Rattle.dpl_spec_split.specs.Squares.{Covers}
use Rattle.dpl_spec_split.specs.Slabs.{AreSlabsOf}
use Rattle.dpl_spec_split.specs.Marks.{AreMarks, asked}
use Rattle.dpl_spec_split.proofs.MarkLaws.{none-fixed}
use Rattle.dpl_spec_format.specs.Tree.{Library}
use Rattle.dpl_layer.specs.Marked.{AreMarked, IsMarkedLayout, MarkedChoice, MarkedLayer}
use Rattle.dpl_piece.specs.View.{IsMarkedSet}
use Rattle.dpl_answer.specs.Anchors.{marks_of}
use Rattle.dpl_answer.specs.declared.marks.MarkSets.{MarkSets}
use Rattle.dpl_decide.specs.Deciding.{marks_for}

by_layers : (lib : Library) (top : ℕ) (m n : Option ℕ) (layer a b : List Rect) → AreMarked lib top m layer a → AreMarked lib top n layer b
    → AreMarks a b (asked (is_some m || is_some n) a b)
by_layers lib top None None layer a b on_a on_b = none-fixed a b on_a on_b
by_layers lib top (Some m) n layer a b on_a on_b = record { on_a = λ p. (λ h. h, λ h. h); on_b = λ p. (λ h. h, λ h. h) }
by_layers lib top None (Some n) layer a b on_a on_b = record { on_a = λ p. (λ h. h, λ h. h); on_b = λ p. (λ h. h, λ h. h) }

-- the squares that were read are just the marked ones
pub are_marks : (choice : MarkedChoice) (bytes copied : List ℕ) (layer a b : List Rect) → IsMarkedLayout choice bytes (MarkedLayer copied layer a b)
    → AreMarks a b (marks_for choice a b)
are_marks choice bytes copied layer a b (lib, holds, m) = by_layers lib m.layer.top choice.mark_a choice.mark_b layer a b m.marked_a m.marked_b

-- the squares of both sets are those that they fix
pub both_marked : (sets : MarkSets) (set : List Rect) → AreSlabsOf (λ p. (Covers sets.a p) ⊎ (Covers sets.b p)) set → IsMarkedSet set (Some (marks_of sets))
both_marked sets set both = both.covers
