-- One more element of a list that is gone through.
use Rattle.std.proofs.Common.{◌≡◌, ℕ, ◌+◌, ◌<◌, ◌⊎◌, inl, inr, ⊎_elim, List, [], ◌∷◌, length, get_or, take, sym}
use Rattle.std.proofs.lemmas.List.{take_more}
use Rattle.std.proofs.lemmas.List.Elements.{Contains-append_left, Contains-push, Contains-push_cases}
use Rattle.std.specs.List.{Contains}

pub Contains-take_more : {X : Type 0} (xs : List X) (i : ℕ) (d x : X) → i < length xs → Contains (take (i + 1) xs) x → Contains (take i xs) x ⊎ (x ≡ get_or xs i d)
Contains-take_more xs i d x h c =
    ⊎_elim (λ a. inl a) (λ (e : get_or xs i d ≡ x). inr (sym e)) (Contains-push_cases (take i xs) (get_or xs i d) x (rw (take_more xs i d h) at c))

pub Contains-take_keeps : {X : Type 0} (xs : List X) (i : ℕ) (d x : X) → i < length xs → Contains (take i xs) x → Contains (take (i + 1) xs) x
Contains-take_keeps xs i d x h c = rw (take_more xs i d h) (Contains-append_left (take i xs) (get_or xs i d ∷ []) x c)

pub Contains-take_last : {X : Type 0} (xs : List X) (i : ℕ) (d x : X) → i < length xs → x ≡ get_or xs i d → Contains (take (i + 1) xs) x
Contains-take_last xs i d x h e = rw (take_more xs i d h, e) (Contains-push (take i xs) (get_or xs i d))
