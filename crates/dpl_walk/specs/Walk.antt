-- What a walk over placements gathers.
use Rattle.std.specs.Prelude.{◌≡◌, ℕ, zero, suc, ◌+◌, ◌-◌, ◌*◌, ◌^◌, ◌<◌, ◌≤◌, ◌⊎◌, List, [], ◌∷◌, map, length, sum_by, slice_get, Option, Some, None}
use Rattle.std.specs.List.{All, Contains}
use Rattle.dpl_spec_split.specs.declared.Pt.{Pt}
use Rattle.dpl_spec_split.specs.Loops.{ArePointsWithin, IsPointWithin, farthest}
use Rattle.dpl_spec_elements.specs.Motions.{Motion, image, IsMotionWithin}
use Rattle.dpl_walk.specs.Least.{IsAtMost}
use Rattle.dpl_walk.specs.Cells.{copy_motion, IsReady}
use Rattle.dpl_walk.specs.declared.cells.Outline.{Outline}
use Rattle.dpl_walk.specs.declared.cells.Copies.{Copies}
use Rattle.dpl_walk.specs.declared.cells.Cell.{Cell}
use Rattle.dpl_walk.specs.declared.walk.StackFrame.{StackFrame}

abbrev pub outlines_or_none : Option Cell → List Outline
outlines_or_none None = []
outlines_or_none (Some c) = c.outlines

abbrev pub copies_or_none : Option Cell → List Copies
copies_or_none None = []
copies_or_none (Some c) = c.copies

-- what structure k draws
abbrev pub outlines_at : List Cell → ℕ → List Outline
outlines_at cells k = outlines_or_none (slice_get cells k)

-- the copies that structure k places
abbrev pub copies_at : List Cell → ℕ → List Copies
copies_at cells k = copies_or_none (slice_get cells k)

-- one copy of a reference
pub record Pass : Type 0 where
  pub copies : Copies
  pub column : ℕ
  pub row : ℕ

-- the copies lead from structure k to structure l
abbrev pub Passes : List Cell → ℕ → List Pass → ℕ → Type 0
Passes cells k [] l = k ≡ l
Passes cells k (s ∷ ss) l =
    Contains (copies_at cells k) s.copies × (s.column < s.copies.columns) × (s.row < s.copies.rows) × Passes cells s.copies.target ss l

-- where the copies take a point: the innermost, which is the last, is done first
abbrev pub through : List Pass → Pt → Pt
through [] p = p
through (s ∷ ss) p = image (copy_motion s.copies s.column s.row) (through ss p)

-- structure k, placed by f, shows the loop, which is of the element at this offset
abbrev pub IsShown : List Cell → ℕ → (Pt → Pt) → List Pt → ℕ → Type 0
IsShown cells k f ps at =
    (ss : List Pass) × (l : ℕ) × (o : Outline) × Passes cells k ss l × Contains (outlines_at cells l) o × (ps ≡ map (λ p. f (through ss p)) o.points) × (at ≡ o.at)

-- one of the outlines, placed by f, is the loop
abbrev pub Draws : List Outline → (Pt → Pt) → List Pt → ℕ → Type 0
Draws outlines f ps at = (o : Outline) × Contains outlines o × (ps ≡ map f o.points) × (at ≡ o.at)

-- the loop was gathered, and where it goes too far an offset that isn't greater was noted
abbrev pub IsGathered : List (List Pt) → Option ℕ → List Pt → ℕ → Type 0
IsGathered loops far ps at = Contains loops ps × (ArePointsWithin farthest ps ⊎ IsAtMost far at)

-- some point lies too far out
abbrev pub HasFarPoint : List Pt → Type 0
HasFarPoint ps = (p : Pt) × Contains ps p × ¬ IsPointWithin farthest p

-- the outlines, placed by f, were gathered
pub record Gathers (outlines : List Outline) (f : Pt → Pt) (old new : List (List Pt)) (before after : Option ℕ) : Type 0 where
  pub keeps : (ps : List Pt) (at : ℕ) → IsGathered old before ps at → IsGathered new after ps at
  pub gathers : (ps : List Pt) (at : ℕ) → Draws outlines f ps at → IsGathered new after ps at
  pub alone : (ps : List Pt) → Contains new ps → Contains old ps ⊎ ((at : ℕ) × Draws outlines f ps at)
  pub far : (at : ℕ) → after ≡ Some at → (before ≡ Some at) ⊎ ((ps : List Pt) × Draws outlines f ps at × HasFarPoint ps)

-- the copies of some references
abbrev pub AreOf : List Copies → Copies → ℕ → ℕ → Type 0
AreOf cs d a b = Contains cs d × (a < d.columns) × (b < d.rows)

-- ---- the stack

-- all copies of a reference of a structure that is placed by m
abbrev pub frame_of : Motion → Copies → StackFrame
frame_of m c = record { copies = c; place = m; column = 0; row = 0 }

-- copy (i, j) is left
abbrev pub IsLeft : StackFrame → ℕ → ℕ → Type 0
IsLeft f i j = (i < f.copies.columns) × (j < f.copies.rows) × ((f.column < i) ⊎ ((i ≡ f.column) × (f.row ≤ j)))

-- its copy is one
pub record IsFrame (f : StackFrame) : Type 0 where
  pub in_columns : f.column < f.copies.columns
  pub in_rows : f.row < f.copies.rows

-- what is left behind a frame's copy
abbrev pub IsNext : StackFrame → Option StackFrame → Type 0
IsNext f None = (f.copies.rows ≤ f.row + 1) × (f.copies.columns ≤ f.column + 1)
IsNext f (Some n) =
    (n.copies ≡ f.copies) × (n.place ≡ f.place)
    × (((f.row + 1 < f.copies.rows) × (n.column ≡ f.column) × (n.row ≡ f.row + 1))
    ⊎ ((f.copies.rows ≤ f.row + 1) × (f.column + 1 < f.copies.columns) × (n.column ≡ f.column + 1) × (n.row ≡ 0)))

-- Copies lead to structures of lower levels, of which there are no more than structures.
pub record AreDeep (cells : List Cell) : Type 0 where
  pub level : ℕ → ℕ
  pub falls : (k : ℕ) (c : Copies) → Contains (copies_at cells k) c → level c.target < level k
  pub few : (k : ℕ) → level k ≤ length cells

-- and a copy moves by at most 2 ^ 34 for each level that it leads down
pub record AreSteep (cells : List Cell) : Type 0 where
  pub level : ℕ → ℕ
  pub falls : (k : ℕ) (c : Copies) → Contains (copies_at cells k) c → level c.target < level k
  pub few : (k : ℕ) → level k ≤ length cells
  pub moves : (k : ℕ) (c : Copies) (i j : ℕ) → AreOf (copies_at cells k) c i j → IsMotionWithin (2 ^ 34 * (level k - level c.target)) (copy_motion c i j)

-- how often a walk goes to structure k and to those that it places, n references deep
abbrev pub visits : List Cell → ℕ → ℕ → ℕ
visits cells zero k = 1
visits cells (suc n) k = 1 + sum_by (λ (c : Copies). (c.columns * c.rows) * visits cells n c.target) (copies_at cells k)

-- how many copies of a frame are left
abbrev pub count_left : StackFrame → ℕ
count_left f = (f.copies.columns - f.column) * f.copies.rows - f.row

-- how often a walk still goes to a structure
abbrev pub walk_left : List Cell → ℕ → List StackFrame → ℕ
walk_left cells n stack = sum_by (λ (f : StackFrame). count_left f * visits cells n f.copies.target) stack

-- a structure on the stack shows the loop
abbrev pub IsPending : List Cell → List StackFrame → List Pt → ℕ → Type 0
IsPending cells stack ps at =
    (f : StackFrame) × Contains stack f × (i j : ℕ) × IsLeft f i j × IsShown cells f.copies.target (λ p. image f.place (image (copy_motion f.copies i j) p)) ps at

-- what is known of a frame of a structure on the level base: the place has moved by at most 2 ^ 34 for each level above it, and its copies move by no more for each level down
pub record IsInWalk (cells : List Cell) (n : ℕ) (level : ℕ → ℕ) (f : StackFrame) : Type 0 where
  pub known : f.copies.target < length cells
  pub ready : IsReady (2 ^ 60) f.copies
  pub frame : IsFrame f
  pub base : ℕ
  pub deep : level f.copies.target < base
  pub high : base ≤ n
  pub place : IsMotionWithin (2 ^ 34 * (n - base)) f.place
  pub moves : (i j : ℕ) → i < f.copies.columns → j < f.copies.rows → IsMotionWithin (2 ^ 34 * (base - level f.copies.target)) (copy_motion f.copies i j)

-- how far a walk is
pub record IsWalking (cells : List Cell) (top n : ℕ) (level : ℕ → ℕ) (loops : List (List Pt)) (far : Option ℕ) (stack : List StackFrame) : Type 0 where
  pub complete : (ps : List Pt) (at : ℕ) → IsShown cells top (λ p. p) ps at → IsGathered loops far ps at ⊎ IsPending cells stack ps at
  pub sound : (ps : List Pt) → Contains loops ps → (at : ℕ) × IsShown cells top (λ p. p) ps at
  pub pending : (ps : List Pt) (at : ℕ) → IsPending cells stack ps at → IsShown cells top (λ p. p) ps at
  pub out : (at : ℕ) → far ≡ Some at → (ps : List Pt) × IsShown cells top (λ p. p) ps at × HasFarPoint ps
  pub frames : (f : StackFrame) → Contains stack f → IsInWalk cells n level f

-- the loops that structure top shows, and the least offset of one with a point too far out
pub record IsWalk (cells : List Cell) (top : ℕ) (loops : List (List Pt)) (far : Option ℕ) : Type 0 where
  pub complete : (ps : List Pt) (at : ℕ) → IsShown cells top (λ p. p) ps at → IsGathered loops far ps at
  pub sound : (ps : List Pt) → Contains loops ps → (at : ℕ) × IsShown cells top (λ p. p) ps at
  pub out : (at : ℕ) → far ≡ Some at → (ps : List Pt) × IsShown cells top (λ p. p) ps at × HasFarPoint ps

-- the copies lead to structures that are there, and can be worked out
pub record AreKnown (reach : ℕ) (cells : List Cell) : Type 0 where
  pub targets : (k : ℕ) (c : Copies) → Contains (copies_at cells k) c → c.target < length cells
  pub ready : (k : ℕ) (c : Copies) → Contains (copies_at cells k) c → IsReady reach c
  pub within : (k : ℕ) → All (λ (o : Outline). ArePointsWithin (2 ^ 61) o.points) (outlines_at cells k)
