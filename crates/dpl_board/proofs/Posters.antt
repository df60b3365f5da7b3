-- Who posted a tile, with one entry more.
use Rattle.std.proofs.Common.{rules, ◌≡◌, ◌≢◌, ℕ, ◌<◌, ◌≤◌, List, [], ◌∷◌, ◌++◌, length, get_or, set, replicate, suc, sym, refl, ap, ◌∙◌, inl, inr, arith}
use Rattle.std.specs.Prelude.{◌==◌, ◌⊎◌, true, false, Option, Some, None, is_some, option_map}
use Rattle.std.specs.Option.{option_or}
use Rattle.std.specs.List.{All, Contains, find}
use Rattle.std.proofs.lemmas.Bool.{cases_eq, true≢false, false≢true}
use Rattle.std.proofs.lemmas.Grind.{common_steps}
use Rattle.std.proofs.lemmas.List.{length-set, get_or-set_same, get_or-set_other, length-replicate, get_or-replicate, get_or_default}
use Rattle.std.proofs.lemmas.List.Elements.{All-nil, All-cons, All-head, All-tail, All-push}
use Rattle.std.proofs.lemmas.List.Quantifiers.{all_pairs_push}
use Rattle.std.proofs.lemmas.List.Folds.{find-append}
use Rattle.dpl_board.specs.declared.entry.Entry.{Entry}
use Rattle.dpl_board.specs.Sheets.{AreWorkers, IsPosted, entry, poster_in}
use Rattle.dpl_board.specs.Boards.{ArePosters}

pub poster-other : (t : ℕ) (e : Entry) (es : List Entry) → e.tile ≢ t → poster_in t (e ∷ es) ≡ poster_in t es
poster-other t e es other = grind (arith, common_steps)

pub poster-here : (t : ℕ) (e : Entry) (es : List Entry) → e.tile ≡ t → poster_in t (e ∷ es) ≡ Some e.worker
poster-here t e es same = grind (arith, common_steps)

map-or : {X Y : Type 0} (f : X → Y) (a b : Option X) → option_map f (option_or a b) ≡ option_or (option_map f a) (option_map f b)
map-or f None b = refl
map-or f (Some x) b = refl

-- the poster among the first ones, or else among the others
pub poster-append : (t : ℕ) (es fs : List Entry) → poster_in t (es ++ fs) ≡ option_or (poster_in t es) (poster_in t fs)
poster-append t es fs = ap (option_map (λ (e : Entry). e.worker)) (find-append (λ (e : Entry). e.tile == t) es fs)
    ∙ map-or (λ (e : Entry). e.worker) (find (λ (e : Entry). e.tile == t) es) (find (λ (e : Entry). e.tile == t) fs)

pub poster-first : (t w : ℕ) (es fs : List Entry) → poster_in t es ≡ Some w → poster_in t (es ++ fs) ≡ Some w
poster-first t w es fs is = poster-append t es fs ∙ ap (λ o. option_or o (poster_in t fs)) is

pub poster-later : (t : ℕ) (es fs : List Entry) → poster_in t es ≡ None → poster_in t (es ++ fs) ≡ poster_in t fs
poster-later t es fs none = poster-append t es fs ∙ ap (λ o. option_or o (poster_in t fs)) none

or-none : {X : Type 0} (o : Option X) → option_or o None ≡ o
or-none None = refl
or-none (Some x) = refl

-- an entry of another tile more
pub poster-same : (t : ℕ) (es : List Entry) (e : Entry) → e.tile ≢ t → poster_in t (es ++ e ∷ []) ≡ poster_in t es
poster-same t es e other = poster-append t es (e ∷ []) ∙ (ap (λ o. option_or (poster_in t es) o) (poster-other t e [] other) ∙ or-none (poster_in t es))

-- an entry of a tile without one more
pub poster-new : (es : List Entry) (e : Entry) → poster_in e.tile es ≡ None → poster_in e.tile (es ++ e ∷ []) ≡ Some e.worker
poster-new es e none = poster-later e.tile es (e ∷ []) none ∙ poster-here e.tile e [] refl

pub not-none : {X : Type 0} (x : X) → Some x ≡ None → ⊥
not-none x h = search rules

pub same-some : (x y : ℕ) → Some x ≡ Some y → x ≡ y
same-some x y h = ap (λ o. elim o as (λ _. ℕ) [ None ↦ x | Some z ↦ z ]) h

-- a tile that nobody posted is in no entry
pub none-differs : (t : ℕ) (es : List Entry) → poster_in t es ≡ None → All (λ (d : Entry). d.tile ≢ t) es
none-differs t [] none = All-nil (λ (d : Entry). d.tile ≢ t)
none-differs t (e ∷ es) none = elim (cases_eq e.tile t) [
  | inl same ↦ absurd (not-none e.worker (sym (poster-here t e es same) ∙ none))
  | inr other ↦ All-cons (λ (d : Entry). d.tile ≢ t) e es other (none-differs t es (sym (poster-other t e es other) ∙ none))
]

-- a tile that is in no entry has no poster
pub differs-none : (t : ℕ) (es : List Entry) → All (λ (d : Entry). d.tile ≢ t) es → poster_in t es ≡ None
differs-none t [] all = refl
differs-none t (e ∷ es) all = poster-other t e es (All-head (λ (d : Entry). d.tile ≢ t) e es all) ∙ differs-none t es (All-tail (λ (d : Entry). d.tile ≢ t) e es all)

-- a tile beyond all entries has no poster
pub none-beyond : (n t : ℕ) (es : List Entry) → All (λ (d : Entry). d.tile < n) es → n ≤ t → poster_in t es ≡ None
none-beyond n t es below past = differs-none t es (λ k d l. (let h = below k d l in λ same. omega (arith, h, same)))

-- a worker for a tile without one
pub workers-more : (n : ℕ) (ps : List (Option ℕ)) (es : List Entry) (e : Entry) → AreWorkers n es ps → e.tile < n
    → get_or ps e.tile None ≡ None → AreWorkers n (es ++ e ∷ []) (set ps e.tile (Some e.worker))
workers-more n ps es e old below none = record {
  len = length-set ps e.tile (Some e.worker) ∙ old.len;
  each = λ t l. elim (cases_eq e.tile t) [
    | inl same ↦ rw (← same) (get_or-set_same ps e.tile (Some e.worker) None (rw old.len below) ∙ sym (poster-new es e (sym (old.each e.tile below) ∙ none)))
    | inr other ↦ get_or-set_other ps e.tile t (Some e.worker) None (λ h. other (sym h)) ∙ (old.each t l ∙ sym (poster-same t es e other))
  ];
}

-- a worker for a tile that has one
pub workers-known : (n w : ℕ) (ps : List (Option ℕ)) (es : List Entry) (e : Entry) → AreWorkers n es ps → e.tile < n
    → get_or ps e.tile None ≡ Some w → AreWorkers n (es ++ e ∷ []) ps
workers-known n w ps es e old below some = record {
  len = old.len;
  each = λ t l. elim (cases_eq e.tile t) [
    | inl same ↦ rw (← same) (some ∙ sym (poster-first e.tile w es (e ∷ []) (sym (old.each e.tile below) ∙ some)))
    | inr other ↦ old.each t l ∙ sym (poster-same t es e other)
  ];
}

-- a worker for a tile that isn't there
pub workers-past : (n : ℕ) (ps : List (Option ℕ)) (es : List Entry) (e : Entry) → AreWorkers n es ps → n ≤ e.tile → AreWorkers n (es ++ e ∷ []) ps
workers-past n ps es e old past = record {
  len = old.len;
  each = λ t l. old.each t l ∙ sym (poster-same t es e (λ same. omega (arith, same, l, past)));
}

pub workers-none : (n : ℕ) (ps : List (Option ℕ)) → ps ≡ replicate n None → AreWorkers n [] ps
workers-none n ps is = record { len = ap length is ∙ length-replicate n None; each = λ t l. rw is (get_or-replicate n t None None l) }

-- one post more
pub posters-more : (n : ℕ) (ps : List (Option ℕ)) (es : List Entry) (e : Entry) → ArePosters n ps es → e.tile < n
    → get_or ps e.tile None ≡ None → ArePosters n (set ps e.tile (Some e.worker)) (es ++ e ∷ [])
posters-more n ps es e old below none = record {
  workers = workers-more n ps es e old.workers below none;
  below = All-push (λ (d : Entry). d.tile < n) es e old.below below;
  apart = all_pairs_push (λ (d e : Entry). d.tile ≢ e.tile) es e old.apart (λ k d l. none-differs e.tile es (sym (old.workers.each e.tile below) ∙ none) k d l);
}

-- a tile with a poster
pub posted-at : (n : ℕ) (ps : List (Option ℕ)) (es : List Entry) → ArePosters n ps es → (t w : ℕ) → t < n → get_or ps t None ≡ Some w → IsPosted t es
posted-at n ps es old t w l is = (w, sym (old.workers.each t l) ∙ is)

-- who posted a tile has an entry
pub posted-entry : (t w : ℕ) (es : List Entry) → poster_in t es ≡ Some w → Contains es (entry w t)
posted-entry t w [] is = absurd (not-none w (sym is))
posted-entry t w (e ∷ es) is = elim (cases_eq e.tile t) [
  | inl same ↦ (0, omega arith, ap (λ (v : ℕ). entry v e.tile) (same-some e.worker w (sym (poster-here t e es same) ∙ is)) ∙ ap (λ (u : ℕ). entry w u) same)
  | inr other ↦ (let (k, l, at) = posted-entry t w es (sym (poster-other t e es other) ∙ is) in (suc k, omega (arith, l), at))
]

pub cases-option : {X : Type 0} (o : Option X) → (o ≡ None) ⊎ ((x : X) × (o ≡ Some x))
cases-option None = inl refl
cases-option (Some x) = inr (x, refl)

pub some-from : {X : Type 0} (o : Option X) → is_some o ≡ true → (x : X) × (o ≡ Some x)
some-from None h = absurd (false≢true h)
some-from (Some x) h = (x, refl)

pub none-from : {X : Type 0} (o : Option X) → is_some o ≡ false → o ≡ None
none-from None h = refl
none-from (Some x) h = absurd (true≢false h)

pub none-otherwise : {X : Type 0} (o : Option X) → ((x : X) → o ≡ Some x → ⊥) → o ≡ None
none-otherwise None not = refl
none-otherwise (Some x) not = absurd (not x refl)

-- what was read at a place
pub read-at : (ps : List (Option ℕ)) (t : ℕ) (o : Option ℕ) → t < length ps → o ≡ get_or ps t o → get_or ps t None ≡ o
read-at ps t o l is = get_or_default ps t None o l ∙ sym is
