-- Lists that are reversed and emptied from the end, and lists of what an index gives.
use Rattle.std.proofs.Common.{◌≡◌, ◌+◌, ◌<◌, ℕ, List, [], ◌∷◌, ◌++◌, ap, sym, ◌∙◌, reverse, map, length, get_or, take, arith, append-nil}
use Rattle.std.proofs.lemmas.List.{append_assoc, map_push, reverse-append, take_more}

-- one more from the end of those that are reversed
pub taken-next : {X A : Type 0} (f : X → A) (done all : List A) (left rest : List X) (x : X) → done ++ map f (reverse left) ≡ all
    → left ≡ rest ++ x ∷ [] → (done ++ f x ∷ []) ++ map f (reverse rest) ≡ all
taken-next f done all left rest x same is =
    append_assoc done (f x ∷ []) (map f (reverse rest)) ∙ ap (λ l. done ++ map f l) (sym (reverse-append rest (x ∷ [])) ∙ ap reverse (sym is)) ∙ same

pub taken-all : {X A : Type 0} (f : X → A) (done all : List A) (left : List X) → done ++ map f (reverse left) ≡ all → length left ≡ 0 → done ≡ all
taken-all f done all [] same none = sym (append-nil done) ∙ same
taken-all f done all (x ∷ left) same none = absurd (omega (arith, none))

-- one more for the next element
pub one-more : {X A : Type 0} (f : X → A) (old new : List A) (y : A) (xs : List X) (i : ℕ) (d : X) → i < length xs → new ≡ old ++ y ∷ [] → y ≡ f (get_or xs i d)
    → old ≡ map f (take i xs) → new ≡ map f (take (i + 1) xs)
one-more f old new y xs i d i_in new_is is h =
    new_is ∙ ap (λ l. l ++ y ∷ []) h ∙ ap (λ z. map f (take i xs) ++ z ∷ []) is ∙ sym (ap (map f) (take_more xs i d i_in) ∙ map_push f (take i xs) (get_or xs i d))
