-- What a walk gathers of a drawing is of the layer.
use Rattle.std.proofs.Common.{◌≡◌, ℕ, inl, inr, List, Option, Some, None, Bool, get_or, refl}
use Rattle.std.proofs.lemmas.List.Elements.{Contains-get_or}
use Rattle.std.specs.List.{Contains}
use Rattle.dpl_spec_split.specs.Loops.{IsRectilinear}
use Rattle.dpl_spec_split.specs.declared.Pt.{Pt}
use Rattle.dpl_spec_format.specs.Tree.{Library}
use Rattle.dpl_spec_layout.specs.declared.Layer.{Layer}
use Rattle.dpl_spec_layout.specs.Faults.{IsSmall}
use Rattle.dpl_links.specs.Graph.{IsMarked}
use Rattle.dpl_walk.specs.declared.cells.Cell.{Cell}
use Rattle.dpl_walk.specs.declared.gathered.Gathered.{Gathered}
use Rattle.dpl_walk.specs.Kept.{AreKept}
use Rattle.dpl_walk.specs.Walk.{IsWalk}
use Rattle.dpl_walk.proofs.KeptLaws.{all-covered, all-in-range}
use Rattle.dpl_flatten.specs.Links.{IsLinked}
use Rattle.dpl_flatten.specs.Cells.{AreCells}
use Rattle.dpl_flatten.specs.Drawing.{AreLoopsOf, AreShapesOf, IsLaidOut}
use Rattle.dpl_flatten.specs.declared.drawing.Shapes.{Shapes}
use Rattle.dpl_flatten.proofs.ResultLaws.{covers, straight, nowhere_out, first_out}

-- what was kept of the loops of a layer that has no fault
pub shapes_of : (lib : Library) (top : ℕ) (layer : Layer) (cells : List Cell) (from : ℕ) (all : List (List Pt)) (g : Gathered) (shapes : Shapes)
    → IsWalk cells from all None → shapes.rects.items ≡ g.rects.items → shapes.loops.items ≡ g.loops.items → AreLoopsOf lib top layer all
    → AreKept all g → AreShapesOf lib top layer shapes
shapes_of lib top layer cells from all g shapes walk re le laid kept = record {
  covers = λ s. let k = all-covered cells from all g walk kept s in (
    λ h. (laid.covers s).0 (k.0 (elim h [ inl c ↦ inl (rw re at c) | inr c ↦ inr (rw le at c) ])),
    λ h. elim (k.1 ((laid.covers s).1 h)) [ inl c ↦ inl (rw re c) | inr c ↦ inr (rw le c) ],
  );
  straight = λ k d h. one (get_or shapes.loops.items k d) (Contains-get_or shapes.loops.items k d h);
  rects = rw re kept.rects;
  loops = rw le kept.loops;
  faultless = laid.faultless;
}
  where
    one : (qs : List Pt) → Contains shapes.loops.items qs → IsRectilinear qs
    one qs c = let x = kept.among qs (rw le at c) in rw (← x.2) (laid.straight x.0 qs x.1)

pub laid_out : (lib : Library) (layer : Layer) (graph : List (List ℕ)) (marks : List Bool) (cells : List Cell)
    (links : IsLinked lib graph marks) (are : AreCells lib layer marks cells) (top : ℕ) (m : IsMarked marks top) → IsSmall lib top layer
    → (loops : List (List Pt)) (far : Option ℕ) → IsWalk cells top loops far → IsLaidOut lib top layer loops far
laid_out lib layer graph marks cells links are top m small loops None walk = record {
  covers = covers lib layer graph marks cells links are top m loops None walk;
  straight = straight lib layer graph marks cells links are top m loops None walk;
  within = λ k d h. all-in-range cells top loops walk (get_or loops k d) (Contains-get_or loops k d h);
  faultless = record { small = small; within = nowhere_out lib layer graph marks cells links are top m loops None walk refl };
}
laid_out lib layer graph marks cells links are top m small loops (Some at) walk = (small, first_out lib layer graph marks cells links are top m loops (Some at) walk at refl)
