-- On which masks features lie.
use Rattle.std.specs.Prelude.{◌≡◌, ℕ, ◌<◌, ◌⊎◌, Bool, List, length, slice_index, slice_index_or, if◌then◌else◌}
use Rattle.dpl_spec_split.specs.Colours.{colour_at, differ}
use Rattle.dpl_orient.specs.declared.mask.Mask.{Mask}
use Rattle.dpl_orient.specs.Masks.{is_second}
use Rattle.dpl_piece.specs.declared.piece.Whole.{Whole}
use Rattle.dpl_piece.specs.Wholes.{HasWhole}
use Rattle.dpl_masks.specs.declared.ink.Ink.{Ink}
use Rattle.dpl_masks.specs.declared.ink.Ink.TheVariants.{Uncut, Blank, One, Both}

-- one of feature number f, or that of an uncut one past the end
abbrev pub ink_at : List Ink → ℕ → Ink
ink_at inks f = slice_index_or inks f Uncut

-- with one more piece of a letter
abbrev pub ink_after : Ink → Mask → Ink
ink_after Uncut letter = Uncut
ink_after Blank letter = One letter
ink_after (One other) letter = if differ (is_second other) (is_second letter) then Both else One other
ink_after Both letter = Both

-- no zone cuts the feature
abbrev pub IsUncut : Ink → Type 0
IsUncut Uncut = Unit {0}
IsUncut Blank = ⊥
IsUncut (One letter) = ⊥
IsUncut Both = ⊥

-- all of its pieces lie on one mask
abbrev pub IsOne : Ink → Type 0
IsOne Uncut = ⊥
IsOne Blank = ⊥
IsOne (One letter) = Unit {0}
IsOne Both = ⊥

-- zones cut it, and its pieces don't all lie on one mask
abbrev pub IsMixed : Ink → Type 0
IsMixed Uncut = ⊥
IsMixed Blank = Unit {0}
IsMixed (One letter) = ⊥
IsMixed Both = Unit {0}

-- what the letter of feature f tells of the first n pieces
abbrev pub IsInk : ℕ → List ℕ → List Bool → List Whole → ℕ → Ink → Type 0
IsInk n owners colours wholes f Uncut = ¬ HasWhole wholes f
IsInk n owners colours wholes f Blank = HasWhole wholes f × ((k : ℕ) → k < n → slice_index owners k ≡ f → ⊥)
IsInk n owners colours wholes f (One letter) = HasWhole wholes f × ((k : ℕ) → k < n → slice_index owners k ≡ f → colour_at colours k ≡ is_second letter)
IsInk n owners colours wholes f Both = Unit {0}

-- one for each of so many features, by the first n pieces
pub record AreInksTo (n count : ℕ) (owners : List ℕ) (colours : List Bool) (wholes : List Whole) (inks : List Ink) : Type 0 where
  pub each : length inks ≡ count
  pub is : (f : ℕ) → f < count → IsInk n owners colours wholes f (ink_at inks f)

abbrev pub AreInks : ℕ → List ℕ → List Bool → List Whole → List Ink → Type 0
AreInks count owners colours wholes inks = AreInksTo (length owners) count owners colours wholes inks

-- features are noted of the first n that were cut
abbrev pub AreNotedTo : ℕ → List Whole → List Ink → Type 0
AreNotedTo n wholes inks = (f : ℕ) → f < length inks → ((ink_at inks f ≡ Blank) × HasWhole wholes f)
    ⊎ ((ink_at inks f ≡ Uncut) × ((k : ℕ) (w : Whole) → k < n → k < length wholes → slice_index_or wholes k w ≡ w → w.feature ≡ f → ⊥))
