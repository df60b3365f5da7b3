-- The conflicts of many cut layers.
use Rattle.std.proofs.Common.{◌≡◌, ◌∙◌, ◌+◌, ◌<◌, ◌++◌, ◌∷◌, List, [], ℕ, None, ap, get_or, length, map, subst, sym, take}
use Rattle.std.specs.List.{AllZip}
use Rattle.std.proofs.lemmas.List.{append-nil, take_more}
use Rattle.std.proofs.lemmas.Slice.Zip.{all_zipped_more}
use Rattle.dpl_spec_split.specs.declared.Spacing.{Spacing}
use Rattle.dpl_spec_split.specs.declared.Rect.{Rect}
use Rattle.dpl_stars.specs.declared.joined.Joined.{Joined}
use Rattle.dpl_board.specs.Boards.{Board, SumsPosted}
use Rattle.dpl_cut.specs.declared.BareLayerCut.{BareLayerCut}
use Rattle.dpl_pool.specs.Seating.{IsWorkedOut}
use Rattle.dpl_answer.specs.Anchors.{AreMarkEdges}
use Rattle.dpl_answer.specs.Conflicts.{SumsGraph}
use Rattle.dpl_answer.specs.Many.{AreConflictsFrom, AreConflictsOfCut, IsStartOf, IsToldBy, tiles_left}
use Rattle.dpl_answer.specs.Sheets.{MarkedPlan}
use Rattle.dpl_answer.specs.declared.conflicts.Conflicts.{Conflicts}
use Rattle.dpl_answer.specs.declared.many.Start.{Start}
use Rattle.dpl_answer.specs.declared.many.Start.TheVariants.{Tiled}
use Rattle.dpl_answer.proofs.Planned.{tiled}
use Rattle.dpl_answer.proofs.Sheeting.{joined-sums}
use Rattle.dpl_spec_split.specs.Marks.{graph}

-- one more place
pub zip_met : {A B : Type 0} (R : A → B → Type 0) (xs : List A) (ys : List B) (i : ℕ) (x : A) (y : B) → i < length xs → x ≡ get_or xs i x
    → AllZip R (take i xs) ys → R x y → AllZip R (take (i + 1) xs) (ys ++ y ∷ [])
zip_met {A = A} R xs ys i x y within is all one =
    let e : take (i + 1) xs ≡ take i xs ++ x ∷ [] = take_more xs i x within ∙ ap (λ z. take i xs ++ z ∷ []) (sym is) in
    subst (λ (l : List A). AllZip R l (ys ++ y ∷ [])) (sym e) (all_zipped_more R (take i xs) ys x y all one)

-- boards that are worked out tell of their layers
pub all_told : (workers : ℕ) (starts : List Start) (boards : List Board) → AllZip (IsWorkedOut workers) (map tiles_left starts) boards → AllZip IsToldBy starts boards
all_told workers [] [] all = tt
all_told workers [] (b ∷ bs) all = absurd all
all_told workers (s ∷ ss) [] all = absurd all
all_told workers (s ∷ ss) (b ∷ bs) all = ((all.0.stands, all.0.posted), all_told workers ss bs all.1)

-- the board at a layer's place tells of it
pub told_at : (front rest : List Start) (start : Start) (boards : List Board) (board : Board) → AllZip IsToldBy (front ++ start ∷ rest) boards
    → board ≡ get_or boards (length front) board → IsToldBy start board
told_at [] rest start [] board all is = absurd all
told_at [] rest start (b ∷ bs) board all is = subst (IsToldBy start) (sym is) all.0
told_at (s ∷ ss) rest start [] board all is = absurd all
told_at (s ∷ ss) rest start (b ∷ bs) board all is = told_at ss rest start bs board all.1 is

-- the edges of a job of this layer have no marks among them
pub unmarked_job : (spacing : Spacing) (cut : BareLayerCut) (job : MarkedPlan) → IsStartOf spacing cut (Tiled job) → AreMarkEdges None job.plan.parts job.marked
unmarked_job spacing cut job is = subst (λ (ps : List (List Rect)). AreMarkEdges None ps job.marked) (sym is.0.2.of_parts) is.1

-- the board of a layer's job has the summary of the layer's graph
pub board_sums : (spacing : Spacing) (cut : BareLayerCut) (job : MarkedPlan) (board : Board) (joined : Joined) → IsStartOf spacing cut (Tiled job) → IsToldBy (Tiled job) board
    → SumsPosted board joined → SumsGraph (graph None job.plan.spacing job.plan.parts job.plan.owners) joined
board_sums spacing cut job board joined is told sums =
    joined-sums None job board joined (unmarked_job spacing cut job is) (tiled cut.pieces.parts cut.pieces.owners spacing is.0.0 job.plan is.0.1 is.0.2) told.0 told.1 sums

-- what starts decide are the conflicts of the layers that have them
pub all_of_cuts : (spacing : Spacing) (cuts : List BareLayerCut) (starts : List Start) (all : List Conflicts) → AllZip (IsStartOf spacing) cuts starts
    → AllZip AreConflictsFrom starts all → AllZip (AreConflictsOfCut spacing) cuts all
all_of_cuts spacing [] [] [] are found = tt
all_of_cuts spacing [] [] (x ∷ xs) are found = absurd found
all_of_cuts spacing [] (s ∷ ss) all are found = absurd are
all_of_cuts spacing (c ∷ cs) [] all are found = absurd are
all_of_cuts spacing (c ∷ cs) (s ∷ ss) [] are found = absurd found
all_of_cuts spacing (c ∷ cs) (s ∷ ss) (x ∷ xs) are found = (found.0 spacing c are.0, all_of_cuts spacing cs ss xs are.1 found.1)

-- a list whose rest is empty is what was met
pub none_left : {A : Type 0} (front rest all : List A) → front ++ rest ≡ all → length rest ≡ 0 → front ≡ all
none_left front [] all is none = sym (append-nil front) ∙ is
none_left front (x ∷ rest) all is none = absurd (cc)
