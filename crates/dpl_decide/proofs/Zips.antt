-- Two lists, place by place.
use Rattle.std.proofs.Common.{◌≡◌, ◌++◌, ◌<◌, ◌∷◌, [], List, ℕ, ap, arith, length, length-append, refl}
use Rattle.std.specs.List.{AllZip, zip}

-- one more place
pub zip_next : {A B : Type 0} (R : A → B → Type 0) (xs : List A) (ys : List B) (x : A) (y : B) → AllZip R xs ys → R x y → AllZip R (xs ++ x ∷ []) (ys ++ y ∷ [])
zip_next R [] [] x y all one = (one, tt)
zip_next R [] (b ∷ ys) x y all one = absurd all
zip_next R (a ∷ xs) [] x y all one = absurd all
zip_next R (a ∷ xs) (b ∷ ys) x y all one = (all.0, zip_next R xs ys x y all.1 one)

pub zip_more : {A B : Type 0} (xs : List A) (ys : List B) (x : A) (y : B) → length xs ≡ length ys → zip (xs ++ x ∷ []) (ys ++ y ∷ []) ≡ zip xs ys ++ (x, y) ∷ []
zip_more [] [] x y same = refl
zip_more [] (b ∷ ys) x y same = absurd (cc)
zip_more (a ∷ xs) [] x y same = absurd (cc)
zip_more (a ∷ xs) (b ∷ ys) x y same = ap (λ ps. (a, b) ∷ ps) (zip_more xs ys x y (cc))

-- from the first list over the second to the third
pub zip_through : {A B C : Type 0} (P : A → B → Type 0) (Q : B → C → Type 0) (R : A → C → Type 0) (xs : List A) (ys : List B) (zs : List C)
    → ((x : A) (y : B) (z : C) → P x y → Q y z → R x z) → AllZip P xs ys → AllZip Q ys zs → AllZip R xs zs
zip_through P Q R [] [] [] go p q = tt
zip_through P Q R [] [] (z ∷ zs) go p q = absurd q
zip_through P Q R [] (y ∷ ys) zs go p q = absurd p
zip_through P Q R (x ∷ xs) [] zs go p q = absurd p
zip_through P Q R (x ∷ xs) (y ∷ ys) [] go p q = absurd q
zip_through P Q R (x ∷ xs) (y ∷ ys) (z ∷ zs) go p q = (go x y z p.0 q.0, zip_through P Q R xs ys zs go p.1 q.1)

-- what follows at each place
pub zip_weaker : {A B : Type 0} (P R : A → B → Type 0) (xs : List A) (ys : List B) → ((x : A) (y : B) → P x y → R x y) → AllZip P xs ys → AllZip R xs ys
zip_weaker P R [] [] go p = tt
zip_weaker P R [] (y ∷ ys) go p = absurd p
zip_weaker P R (x ∷ xs) [] go p = absurd p
zip_weaker P R (x ∷ xs) (y ∷ ys) go p = (go x y p.0, zip_weaker P R xs ys go p.1)

-- both have as many places
pub zip_length : {A B : Type 0} (R : A → B → Type 0) (xs : List A) (ys : List B) → AllZip R xs ys → length ys ≡ length xs
zip_length R [] [] all = refl
zip_length R [] (y ∷ ys) all = absurd all
zip_length R (x ∷ xs) [] all = absurd all
zip_length R (x ∷ xs) (y ∷ ys) all = (let same = zip_length R xs ys all.1 in cc)

pub none_of : {A : Type 0} (xs : List A) → length xs ≡ 0 → xs ≡ []
none_of [] none = refl
none_of (x ∷ xs) none = cc

-- the next place of a list of which some were met
pub place_within : {A : Type 0} (met rest all : List A) (d : A) (n : ℕ) → met ++ d ∷ rest ≡ all → length all ≡ n → length met < n
place_within met rest all d n is many = omega (arith, ap length is, length-append met (d ∷ rest))
