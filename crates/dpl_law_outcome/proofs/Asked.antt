-- What words that ask for `split` give.
use Rattle.std.proofs.Common.{◌≡◌, ◌≤◌, ◌&&◌, Bool, not, nat_lt, true, false, List, Option, Some, None, refl, subst, codes}
use Rattle.std.specs.Prelude.{IfSome, if◌then◌else◌}
use Rattle.std.specs.Str.{bytes_eq}
use Rattle.clap.specs.Walk.{Row, Text}
use Rattle.clap.specs.Simple.{subcommand_of}
use Rattle.clap.proofs.WalkLemmas.{both}
use Rattle.dpl_words.specs.Definition.{dpl_app}
use Rattle.dpl_words.specs.Meaning.{AsksBatch, AsksCheck, AsksDemo, AsksEdit, AsksSplit, SplitValues, asked_of, batch_if_sound, batch_values, check_if_sound, check_values}
use Rattle.dpl_words.specs.Meaning.{demo_values, edit_if_sound, edit_values, is_apart, is_batch_apart, is_edit_apart, is_taken, request_of, split_if_sound, split_values}
use Rattle.dpl_words.specs.Ranges.{AreInRange, HasItsValues, IsApart}
use Rattle.dpl_words.proofs.Ranges.{in_range, not_above, taken_there}

abbrev IsFine : SplitValues → Type 0
IsFine v = AreInRange v × IsApart (AsksSplit v)

-- both masks and all files are apart, and the corner rule isn't above the rule
abbrev is_sound : SplitValues → Bool
is_sound w = is_apart w.a w.b w.input w.output w.certificate && not (nat_lt w.rule w.corner)

sound-split : (w v : SplitValues) (b : Bool) → is_sound w ≡ b → (w.corner ≤ w.rule → AreInRange w)
    → (if b then Some (AsksSplit w) else None) ≡ Some (AsksSplit v) → IsFine v
sound-split w v true is range e =
    let same : w ≡ v = cc in
    let (apart, corner) = both _ _ is in
    subst (λ (u : SplitValues). IsFine u) same (range (not_above _ _ corner), apart)
sound-split w v false is range e = absurd (cc)

not-check : (rows : List Row) (v : SplitValues) (b : Bool) → (if b then Some (AsksCheck (check_values rows)) else None) ≡ Some (AsksSplit v) → IsFine v
not-check rows v true e = absurd (cc)
not-check rows v false e = absurd (cc)

not-batch : (rows : List Row) (v : SplitValues) (b : Bool) → (if b then Some (AsksBatch (batch_values rows)) else None) ≡ Some (AsksSplit v) → IsFine v
not-batch rows v true e = absurd (cc)
not-batch rows v false e = absurd (cc)

not-edit : (rows : List Row) (v : SplitValues) (b : Bool) → (if b then Some (AsksEdit (edit_values rows)) else None) ≡ Some (AsksSplit v) → IsFine v
not-edit rows v true e = absurd (cc)
not-edit rows v false e = absurd (cc)

by-name : (name : Text) (rows : List Row) (v : SplitValues) (b c d f g : Bool) → bytes_eq name (codes "split") ≡ b → HasItsValues (name, rows)
    → (if b then split_if_sound (split_values rows) else (if c then check_if_sound (check_values rows) else
    (if d then Some (AsksDemo (demo_values rows)) else
    (if f then batch_if_sound (batch_values rows) else
    (if g then edit_if_sound (edit_values rows) else None))))) ≡ Some (AsksSplit v) → IsFine v
by-name name rows v true c d f g is has e = (let w = split_values rows in sound-split w v (is_sound w) refl (in_range rows (has.split is)) e)
by-name name rows v false true d f g is has e = (let w = check_values rows in not-check rows v (is_apart w.a w.b w.input w.output w.certificate && not (nat_lt w.rule w.corner)) e)
by-name name rows v false false true f g is has e = absurd (cc)
by-name name rows v false false false true g is has e = (let w = batch_values rows in not-batch rows v (is_batch_apart w && not (nat_lt w.rule w.corner)) e)
by-name name rows v false false false false true is has e = (let w = edit_values rows in not-edit rows v (is_edit_apart w && not (nat_lt w.rule w.corner)) e)
by-name name rows v false false false false false is has e = absurd (cc)

by-subcommand : (v : SplitValues) (m : Option (Text × List Row)) → IfSome m HasItsValues → asked_of m ≡ Some (AsksSplit v) → IsFine v
by-subcommand v None has e = absurd (cc)
by-subcommand v (Some (name, rows)) has e =
    by-name name rows v (bytes_eq name (codes "split")) (bytes_eq name (codes "check")) (bytes_eq name (codes "demo")) (bytes_eq name (codes "batch"))
    (bytes_eq name (codes "edit")) refl has e

by-taken : (words : List Text) (v : SplitValues) (b : Bool) → is_taken words ≡ b → (if b then asked_of (subcommand_of dpl_app words) else None) ≡ Some (AsksSplit v) → IsFine v
by-taken words v true is e = by-subcommand v (subcommand_of dpl_app words) (taken_there words is) e
by-taken words v false is e = absurd (cc)

pub asked-split : (words : List Text) (v : SplitValues) → request_of words ≡ Some (AsksSplit v) → AreInRange v × IsApart (AsksSplit v)
unfolding request_of
asked-split words v e = by-taken words v (is_taken words) refl e
