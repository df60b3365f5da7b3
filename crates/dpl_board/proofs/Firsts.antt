-- The first entries of their tiles, with one entry more.
use Rattle.std.proofs.Common.{◌≡◌, ◌≢◌, ℕ, ◌<◌, ◌≤◌, List, [], ◌∷◌, ◌++◌, Bool, true, false, cond, sym, refl, ap, ◌∙◌, inl, inr, eq-eqb}
use Rattle.std.specs.Prelude.{◌==◌, not, nat_lt, Some, None}
use Rattle.std.specs.List.{filter}
use Rattle.std.proofs.lemmas.Bool.{cases_eq, ne_eqb, lt-ltb, le-ltb}
use Rattle.std.proofs.lemmas.List.{append-nil}
use Rattle.std.proofs.lemmas.List.Elements.{filter-append}
use Rattle.dpl_board.specs.declared.entry.Entry.{Entry}
use Rattle.dpl_board.specs.Sheets.{poster_in}
use Rattle.dpl_board.specs.Cores.{firsts, within}
use Rattle.dpl_board.proofs.Posters.{cases-option, not-none, poster-here, poster-other}

kept : {X : Type 0} (p : X → Bool) (x : X) (xs : List X) → p x ≡ true → filter p (x ∷ xs) ≡ x ∷ filter p xs
kept p x xs h = ap (λ b. cond b (x ∷ filter p xs) (filter p xs)) h

dropped : {X : Type 0} (p : X → Bool) (x : X) (xs : List X) → p x ≡ false → filter p (x ∷ xs) ≡ filter p xs
dropped p x xs h = ap (λ b. cond b (x ∷ filter p xs) (filter p xs)) h

-- whether an entry is of another tile
abbrev off : ℕ → Entry → Bool
off t d = not (d.tile == t)

off-true : (t : ℕ) (d : Entry) → d.tile ≢ t → off t d ≡ true
off-true t d other = ap not (ne_eqb d.tile t other)

off-false : (t : ℕ) (d : Entry) → d.tile ≡ t → off t d ≡ false
off-false t d same = ap not (eq-eqb d.tile t same)

poster-off : (t u : ℕ) (es : List Entry) → u ≢ t → poster_in t (filter (off u) es) ≡ poster_in t es
poster-off t u [] other = refl
poster-off t u (e ∷ es) other = elim (cases_eq e.tile u) [
  | inl same ↦ ap (poster_in t) (dropped (off u) e es (off-false u e same)) ∙ (poster-off t u es other ∙ sym (poster-other t e es (λ h. other (sym same ∙ h))))
  | inr apart ↦ ap (poster_in t) (kept (off u) e es (off-true u e apart)) ∙ elim (cases_eq e.tile t) [
    | inl here ↦ poster-here t e (filter (off u) es) here ∙ sym (poster-here t e es here)
    | inr away ↦ poster-other t e (filter (off u) es) away ∙ (poster-off t u es other ∙ sym (poster-other t e es away))
  ]
]

abbrev More : Entry → List Entry → Type 0
More e es = ((w : ℕ) → poster_in e.tile (firsts es) ≡ Some w → firsts (es ++ e ∷ []) ≡ firsts es) × (poster_in e.tile (firsts es) ≡ None
    → firsts (es ++ e ∷ []) ≡ firsts es ++ e ∷ [])

-- where the first is of the same tile, one more changes nothing
same-tile : (e x : Entry) (es : List Entry) → e.tile ≡ x.tile → More e es → filter (off x.tile) (firsts (es ++ e ∷ [])) ≡ filter (off x.tile) (firsts es)
same-tile e x es same more = elim (cases-option (poster_in e.tile (firsts es))) [
  | inl none ↦ ap (filter (off x.tile)) (more.1 none) ∙ (filter-append (off x.tile) (firsts es) (e ∷ [])
      ∙ (ap (λ ys. filter (off x.tile) (firsts es) ++ ys) (dropped (off x.tile) e [] (off-false x.tile e same))
      ∙ append-nil (filter (off x.tile) (firsts es))))
  | inr some ↦ ap (filter (off x.tile)) (more.0 some.0 some.1)
]

firsts-more : (e : Entry) (es : List Entry) → More e es
firsts-more e [] = (λ w is. absurd (not-none w (sym is)), λ none. refl)
firsts-more e (x ∷ es) = elim (cases_eq x.tile e.tile) [
  | inl same ↦ (
    λ w is. ap (λ ys. x ∷ ys) (same-tile e x es (sym same) (firsts-more e es)),
    λ none. absurd (not-none x.worker (sym (poster-here e.tile x (filter (off x.tile) (firsts es)) same) ∙ none)),
  )
  | inr other ↦ (
      let rest : poster_in e.tile (firsts (x ∷ es)) ≡ poster_in e.tile (firsts es) = poster-other e.tile x
      (filter (off x.tile) (firsts es)) other ∙ poster-off e.tile x.tile (firsts es) other in
      let more = firsts-more e es in (
        λ w is. ap (λ ys. x ∷ filter (off x.tile) ys) (more.0 w (sym rest ∙ is)),
        λ none. ap (λ ys. x ∷ ys) (ap (filter (off x.tile)) (more.1 (sym rest ∙ none)) ∙ (filter-append (off x.tile) (firsts es) (e ∷ [])
            ∙ ap (λ ys. filter (off x.tile) (firsts es) ++ ys) (kept (off x.tile) e [] (off-true x.tile e (λ h. other (sym h)))))),
      )
      )
]

-- an entry of a tile that has one
pub firsts-known : (e : Entry) (w : ℕ) (es : List Entry) → poster_in e.tile (firsts es) ≡ Some w → firsts (es ++ e ∷ []) ≡ firsts es
firsts-known e w es is = (firsts-more e es).0 w is

-- an entry of a tile that has none
pub firsts-new : (e : Entry) (es : List Entry) → poster_in e.tile (firsts es) ≡ None → firsts (es ++ e ∷ []) ≡ firsts es ++ e ∷ []
firsts-new e es none = (firsts-more e es).1 none

pub within-more : (n : ℕ) (e : Entry) (es : List Entry) → e.tile < n → within n (es ++ e ∷ []) ≡ within n es ++ e ∷ []
within-more n e es l = filter-append (λ (d : Entry). nat_lt d.tile n) es (e ∷ []) ∙ ap (λ ys. within n es ++ ys) (kept (λ (d : Entry). nat_lt d.tile n) e [] (lt-ltb e.tile n l))

pub within-past : (n : ℕ) (e : Entry) (es : List Entry) → n ≤ e.tile → within n (es ++ e ∷ []) ≡ within n es
within-past n e es past = filter-append (λ (d : Entry). nat_lt d.tile n) es (e ∷ [])
    ∙ (ap (λ ys. within n es ++ ys) (dropped (λ (d : Entry). nat_lt d.tile n) e [] (le-ltb e.tile n past)) ∙ append-nil (within n es))
