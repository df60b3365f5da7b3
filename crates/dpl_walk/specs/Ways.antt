-- Ways past structures that do no more than place one copy of another one.
use Rattle.std.specs.Prelude.{◌≡◌, ◌≢◌, ℕ, ◌-◌, ◌*◌, ◌^◌, ◌<◌, ◌≤◌, ◌↔◌, List, [], ◌∷◌, length, take, slice_get, Some}
use Rattle.std.specs.List.{All, Contains}
use Rattle.dpl_spec_split.specs.declared.Pt.{Pt}
use Rattle.dpl_spec_elements.specs.Motions.{image, IsComposed, IsMotionWithin}
use Rattle.dpl_walk.specs.declared.cells.Outline.{Outline}
use Rattle.dpl_walk.specs.declared.cells.Copies.{Copies}
use Rattle.dpl_walk.specs.declared.cells.Cell.{Cell}
use Rattle.dpl_walk.specs.declared.ways.Way.{Way}
use Rattle.dpl_walk.specs.Cells.{copy_motion}
use Rattle.dpl_walk.specs.Walk.{outlines_at, copies_at, IsShown, AreDeep}

-- a structure that draws nothing itself, and places the one copy c
pub record IsPassage (outlines : List Outline) (copies : List Copies) (c : Copies) : Type 0 where
  pub bare : outlines ≡ []
  pub alone : copies ≡ c ∷ []
  pub columns : c.columns ≡ 1
  pub rows : c.rows ≡ 1

abbrev pub HasPassage : List Cell → ℕ → Type 0
HasPassage cells k = (c : Copies) × IsPassage (outlines_at cells k) (copies_at cells k) c

-- What structure k shows is what the way's target shows, placed by the way's motion; the motion moves by at most 2 ^ 34 for each level that the way leads down.
pub record IsWay (cells : List Cell) (level : ℕ → ℕ) (k : ℕ) (w : Way) : Type 0 where
  pub known : w.target < length cells
  pub falls : level w.target ≤ level k
  pub moves : IsMotionWithin (2 ^ 34 * (level k - level w.target)) w.place
  pub shows : (f : Pt → Pt) (ps : List Pt) (at : ℕ) → IsShown cells k f ps at ↔ IsShown cells w.target (λ p. f (image w.place p)) ps at

-- a way for each structure
pub record AreWays (cells : List Cell) (level : ℕ → ℕ) (ways : List Way) : Type 0 where
  pub each : length ways ≡ length cells
  pub way : (k : ℕ) (w : Way) → slice_get ways k ≡ Some w → IsWay cells level k w

abbrev pub HasWays : List Cell → List Way → Type 0
HasWays cells ways = (d : AreDeep cells) × AreWays cells d.level ways

-- the way goes on as long as structures have passages
abbrev pub IsWhole : List Cell → Way → Type 0
IsWhole cells w = ¬ HasPassage cells w.target

-- the way of each of these structures goes on so
abbrev pub AreWhole : List Cell → List Way → List ℕ → Type 0
AreWhole cells ways ks = (k : ℕ) (w : Way) → Contains ks k → slice_get ways k ≡ Some w → IsWhole cells w

-- the way of every structure goes on as long as structures have passages
abbrev pub AreAllWhole : List Cell → List Way → Type 0
AreAllWhole cells ways = (k : ℕ) (w : Way) → slice_get ways k ≡ Some w → IsWhole cells w

-- each structure of the order stands behind those that it places
abbrev pub AreBehind : List Cell → List ℕ → Type 0
AreBehind cells order = (i k : ℕ) (c : Copies) → slice_get order i ≡ Some k → Contains (copies_at cells k) c → Contains (take i order) c.target

-- Structures, each behind those that it places. Each one that has a passage is among them.
pub record IsOrderOf (cells : List Cell) (order : List ℕ) : Type 0 where
  pub known : All (λ k. k < length cells) order
  pub behind : AreBehind cells order
  pub whole : (k : ℕ) → HasPassage cells k → Contains order k

-- no copies lead to a structure that has a passage
abbrev pub ArePassed : List Cell → Type 0
ArePassed cells = (k : ℕ) (c : Copies) → Contains (copies_at cells k) c → ¬ HasPassage cells c.target

-- each structure shows what it showed
abbrev pub ShowsSame : List Cell → List Cell → Type 0
ShowsSame old new = (k : ℕ) (f : Pt → Pt) (ps : List Pt) (at : ℕ) → IsShown old k f ps at ↔ IsShown new k f ps at

-- as many copies, as far apart, of the way's target, the first of which is where the first copy's way leads
pub record IsShort (c : Copies) (w : Way) (short : Copies) : Type 0 where
  pub target : short.target ≡ w.target
  pub first : IsComposed (copy_motion c 0 0) w.place (copy_motion short 0 0)
  pub across : short.across ≡ c.across
  pub up : short.up ≡ c.up
  pub columns : short.columns ≡ c.columns
  pub rows : short.rows ≡ c.rows

-- so by the way of the copies' target
abbrev pub IsShortBy : List Way → Copies → Copies → Type 0
IsShortBy ways c short = (w : Way) × (slice_get ways c.target ≡ Some w) × IsShort c w short

-- each of the copies was shortened
pub record AreShort (ways : List Way) (old new : List Copies) : Type 0 where
  pub each : length new ≡ length old
  pub kept : (c : Copies) → Contains old c → (short : Copies) × Contains new short × IsShortBy ways c short
  pub alone : (short : Copies) → Contains new short → (c : Copies) × Contains old c × IsShortBy ways c short

-- the copies of structure k were shortened, and nothing else was changed
pub record IsCellShort (ways : List Way) (k : ℕ) (old new : List Cell) : Type 0 where
  pub each : length new ≡ length old
  pub draws : (i : ℕ) → outlines_at new i ≡ outlines_at old i
  pub copies : AreShort ways (copies_at old k) (copies_at new k)
  pub others : (i : ℕ) → i ≢ k → copies_at new i ≡ copies_at old i

-- each structure draws what it drew, and its copies were shortened
pub record AreCellsShort (ways : List Way) (old new : List Cell) : Type 0 where
  pub each : length new ≡ length old
  pub draws : (k : ℕ) → outlines_at new k ≡ outlines_at old k
  pub copies : (k : ℕ) → AreShort ways (copies_at old k) (copies_at new k)
