-- Corners of parts, and lists place by place.
use Rattle.std.proofs.Common.{◌≡◌, ℕ, zero, suc, ◌+◌, ◌<◌, List, [], ◌∷◌, ◌++◌, length, get_or, take, refl, sym, ap, ◌∙◌, subst, arith}
use Rattle.std.specs.Prelude.{ℤ}
use Rattle.std.specs.List.{All, AllZip}
use Rattle.std.proofs.Math.Seq.{take-suc}
use Rattle.dpl_spec_split.specs.declared.Rect.{Rect}
use Rattle.dpl_sides.specs.declared.corner.Kind.{Kind}
use Rattle.dpl_sides.specs.Corners.{corner_at, IsCornerOf}
use Rattle.dpl_sides.proofs.CornerLaws.{number-is}

-- a part with a corner is one of the parts
pub corner-known : (kind : Kind) (parts : List (List Rect)) (x y : ℤ) (k : ℕ) → IsCornerOf kind parts (corner_at x y k) → k < length parts
corner-known kind parts x y k (i, r, i_in, r_in, is) = subst (λ n. n < length parts) (number-is kind i k r x y is) i_in

-- lists place by place
pub zip-push : {A B : Type 0} (R : A → B → Type 0) (xs : List A) (ys : List B) (x : A) (y : B) → AllZip R xs ys → R x y → AllZip R (xs ++ x ∷ []) (ys ++ y ∷ [])
zip-push R [] [] x y h r = (r, tt)
zip-push R [] (b ∷ ys) x y h r = absurd h
zip-push R (a ∷ xs) [] x y h r = absurd h
zip-push R (a ∷ xs) (b ∷ ys) x y h r = (h.0, zip-push R xs ys x y h.1 r)

pub zip-next : {A B : Type 0} (R : A → B → Type 0) (xs : List A) (ys : List B) (n : ℕ) (x : A) (y : B) → n < length xs → x ≡ get_or xs n x
    → AllZip R (take n xs) ys → R x y → AllZip R (take (n + 1) xs) (ys ++ y ∷ [])
zip-next R xs ys n x y n_in x_is h r =
    let one : n + 1 ≡ suc n = omega arith in
    let step : take (n + 1) xs ≡ take n xs ++ x ∷ [] = ap (λ k. take k xs) one ∙ (take-suc xs n x n_in ∙ ap (λ s. take n xs ++ s ∷ []) (sym x_is)) in
    rw step (zip-push R (take n xs) ys x y h r)

pub zip-length : {A B : Type 0} (R : A → B → Type 0) (xs : List A) (ys : List B) → AllZip R xs ys → length xs ≡ length ys
zip-length R [] [] h = refl
zip-length R [] (y ∷ ys) h = absurd h
zip-length R (x ∷ xs) [] h = absurd h
zip-length R (x ∷ xs) (y ∷ ys) h = ap suc (zip-length R xs ys h.1)

pub zip-at : {A B : Type 0} (R : A → B → Type 0) (xs : List A) (ys : List B) (k : ℕ) (d : A) (e : B) → AllZip R xs ys → k < length xs → R (get_or xs k d) (get_or ys k e)
zip-at R [] ys k d e h l = absurd (omega (arith, l))
zip-at R (x ∷ xs) [] k d e h l = absurd h
zip-at R (x ∷ xs) (y ∷ ys) zero d e h l = h.0
zip-at R (x ∷ xs) (y ∷ ys) (suc k) d e h l = zip-at R xs ys k d e h.1 (omega (arith, l))

pub zip-from : {A B : Type 0} (R : A → B → Type 0) (xs : List A) (ys : List B) → length xs ≡ length ys
    → ((k : ℕ) (d : A) (e : B) → k < length xs → R (get_or xs k d) (get_or ys k e)) → AllZip R xs ys
zip-from R [] [] same h = tt
zip-from R [] (y ∷ ys) same h = absurd (omega (arith, same))
zip-from R (x ∷ xs) [] same h = absurd (omega (arith, same))
zip-from R (x ∷ xs) (y ∷ ys) same h = (h 0 x y (omega arith), zip-from R xs ys (omega (arith, same)) (λ k d e l. h (suc k) d e (omega (arith, l))))

-- each of one list has one of the other
pub zip-some : {A B : Type 0} (R : A → B → Type 0) (xs : List A) (ys : List B) → AllZip R xs ys → All (λ x. (y : B) × R x y) xs
zip-some R [] ys h k d k_in = absurd (omega (arith, k_in))
zip-some R (x ∷ xs) [] h k d k_in = absurd h
zip-some R (x ∷ xs) (y ∷ ys) h zero d k_in = (y, h.0)
zip-some R (x ∷ xs) (y ∷ ys) h (suc k) d k_in = zip-some R xs ys h.1 k d (omega (arith, k_in))
