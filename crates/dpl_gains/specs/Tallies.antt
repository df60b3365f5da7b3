-- Tallies of components, and the gains that are listed by them.
use Rattle.std.specs.Prelude.{◌≡◌, ℕ, ◌+◌, ◌<◌, ◌==◌, Bool, true, false, cond, List, length, slice_index, slice_index_or}
use Rattle.dpl_spec_split.specs.Colours.{differ}
use Rattle.dpl_spec_fewer.specs.Fewer.{zones_out}
use Rattle.dpl_cert.specs.declared.cert.Gain.{Gain}
use Rattle.dpl_gains.specs.declared.tallies.Tally.{Tally}

-- the tally of a component; past the end it has no zones
abbrev pub tally_at : List Tally → ℕ → Tally
tally_at tallies root = slice_index_or tallies root (record { d = 0; s = 0 })

-- with one zone more
abbrev pub more_by : Bool → Tally → Tally
more_by true t = record { d = t.d + 1; s = t.s }
more_by false t = record { d = t.d; s = t.s + 1 }

-- with one zone more where it is between the component and another
abbrev pub counted : ℕ → ℕ → Bool → ℕ → Tally → Tally
counted first second differs root t = cond (differ (first == root) (second == root)) (more_by differs t) t

-- what the tally of a component is to be
abbrev pub tally_of : List ℕ → List Bool → List (ℕ × ℕ) → ℕ → Tally
tally_of roots colours sides root = record { d = zones_out roots colours root true sides; s = zones_out roots colours root false sides }

pub record AreTallies (roots : List ℕ) (colours : List Bool) (sides : List (ℕ × ℕ)) (tallies : List Tally) : Type 0 where
  pub len : length tallies ≡ length roots
  pub each : (root : ℕ) → root < length roots → tally_at tallies root ≡ tally_of roots colours sides root

-- the gain of a component that isn't held, by its tally
pub record IsListed (roots : List ℕ) (held : List Bool) (tallies : List Tally) (g : Gain) : Type 0 where
  pub within : g.piece < length roots
  pub least : slice_index roots g.piece ≡ g.piece
  pub free : slice_index_or held g.piece false ≡ false
  pub tally : (g.d ≡ (tally_at tallies g.piece).d) × (g.s ≡ (tally_at tallies g.piece).s)
  pub some : 0 < g.d + g.s
