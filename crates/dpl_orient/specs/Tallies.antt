-- How many zones between each component and others have sides that differ, and the components that gain by a flip.
use Rattle.std.specs.Prelude.{◌≡◌, ◌≢◌, ℕ, ◌+◌, ◌-◌, ◌^◌, ◌<◌, ◌≤◌, Bool, false, true, not, ◌&&◌, ◌==◌, List, length, count_by, slice_index_or, Option, Some}
use Rattle.std.specs.List.{All, Contains}
use Rattle.std.specs.Ordering.{nat_cmp}
use Rattle.std.specs.BinaryHeap.{IsHeap}
use Rattle.std.specs.declared.cmp.Reverse.{Reverse}
use Rattle.dpl_spec_split.specs.Colours.{differ}
use Rattle.dpl_orient.specs.declared.links.Link.{Link}
use Rattle.dpl_orient.specs.declared.tallies.Tally.{Tally}
use Rattle.dpl_orient.specs.Links.{differs_by, count_from}

-- of the component of root, where these components are flipped
abbrev pub tally_of : List Bool → List Link → ℕ → Tally
tally_of flips links root = record { differing = count_from flips root true links; agreeing = count_from flips root false links }

abbrev pub tally_at : List Tally → ℕ → Tally
tally_at tallies root = slice_index_or tallies root (record { differing = 0; agreeing = 0 })

-- of all components, by number of the root
pub record AreTallies (links : List Link) (flips : List Bool) (tallies : List Tally) : Type 0 where
  pub len : length tallies ≡ length flips
  pub each : (root : ℕ) → root < length flips → tally_at tallies root ≡ tally_of flips links root

-- with one zone more
abbrev pub more_by : Bool → Tally → Tally
more_by true t = record { differing = t.differing + 1; agreeing = t.agreeing }
more_by false t = record { differing = t.differing; agreeing = t.agreeing + 1 }

-- where the sides of one zone, which agreed, now differ, or the other way round
abbrev pub moved_by : Bool → Tally → Tally
moved_by true t = record { differing = t.differing + 1; agreeing = t.agreeing - 1 }
moved_by false t = record { differing = t.differing - 1; agreeing = t.agreeing + 1 }

-- where the component itself is flipped
abbrev pub exchanged : Tally → Tally
exchanged t = record { differing = t.agreeing; agreeing = t.differing }

-- more of the component's zones to others have sides that differ than sides that agree, and it may be flipped
pub record GainsAt (held : Option ℕ) (tallies : List Tally) (root : ℕ) : Type 0 where
  pub free : held ≢ Some root
  pub fewer : (tally_at tallies root).agreeing < (tally_at tallies root).differing

-- the least root comes first
abbrev pub IsQueue : List (Reverse ℕ) → Type 0
IsQueue waiting = IsHeap (λ (x y : Reverse ℕ). nat_cmp y.0 x.0) waiting

abbrev pub Waits : List (Reverse ℕ) → ℕ → Type 0
Waits waiting root = Contains waiting (record { 0 = root })

-- each component that gains waits
abbrev pub AllWait : Option ℕ → List Tally → List (Reverse ℕ) → Type 0
AllWait held tallies waiting = (root : ℕ) → GainsAt held tallies root → Waits waiting root

-- how many links to a component have sides that differ, or agree
abbrev pub count_to : List Bool → ℕ → Bool → List Link → ℕ
count_to flips root wanted links = count_by (λ l. l.to == root && not (differ wanted (differs_by flips l))) links

-- The tallies after the sides of the zones of these links, which agreed, differ, or the other way round; the flips say how it is afterwards.
pub record AreMoved (flips : List Bool) (links : List Link) (old new : List Tally) : Type 0 where
  pub len : length new ≡ length old
  pub differing : (root : ℕ) → (tally_at new root).differing + count_to flips root false links ≡
      (tally_at old root).differing + count_to flips root true links
  pub agreeing : (root : ℕ) → (tally_at new root).agreeing + count_to flips root true links ≡ (tally_at old root).agreeing + count_to flips root false links

-- the tallies count these zones, as they were before
pub record AreCounted (flips : List Bool) (links : List Link) (tallies : List Tally) : Type 0 where
  pub differing : (root : ℕ) → count_to flips root false links ≤ (tally_at tallies root).differing
  pub agreeing : (root : ℕ) → count_to flips root true links ≤ (tally_at tallies root).agreeing
  pub few : (root : ℕ) → (tally_at tallies root).differing + (tally_at tallies root).agreeing < 2 ^ 64

-- of each zone between two components there are both links
pub record AreMutual (links : List Link) : Type 0 where
  pub apart : All (λ (l : Link). l.from ≢ l.to) links
  pub both : (flips : List Bool) (p q : ℕ) (wanted : Bool)
      → count_by (λ l. (l.from == p && l.to == q) && not (differ wanted (differs_by flips l))) links ≡
      count_by (λ l. (l.from == q && l.to == p) && not (differ wanted (differs_by flips l))) links
