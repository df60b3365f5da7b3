-- One line more.
use Rattle.std.proofs.Common.{◌≡◌, ◌∙◌, ◌<◌, ◌+◌, ℕ, zero, suc, List, [], ◌∷◌, ◌++◌, length, map, take, get_or, ap, sym, refl, arith, add-one}
use Rattle.std.proofs.Common.{ℤ, ◌≤◌, unsigned_abs}
use Rattle.std.proofs.lemmas.Int.{ints}
use Rattle.std.specs.Prelude.{pos}
use Rattle.dpl_spec_split.specs.declared.Pt.{Pt}
use Rattle.dpl_spec_split.specs.declared.Rect.{Rect}
use Rattle.dpl_spec_split.specs.Zones.{at}
use Rattle.dpl_spec_split.specs.Squares.{IsSolidWithin}
use Rattle.dpl_spec_split.specs.Loops.{farthest}
use Rattle.dpl_cert.specs.Grammar.{IsCoordinate, IsPoint, IsRect}
use Rattle.std.specs.List.{AllByRecursion, Contains, zip}
use Rattle.std.proofs.lemmas.List.{take_more, map-append}

pub fits_push : {A : Type 0} (P : A → Type 0) (xs : List A) (x : A) → AllByRecursion P xs → P x → AllByRecursion P (xs ++ (x ∷ []))
fits_push P [] x h k = (k, tt)
fits_push P (y ∷ xs) x h k = (h.0, fits_push P xs x h.1 k)

-- the image of one element more
pub map_more : {A B : Type 0} (f : A → B) (xs : List A) (i : ℕ) (d : A) (ys zs : List B) → i < length xs → ys ≡ map f (take i xs)
    → zs ≡ ys ++ f (get_or xs i d) ∷ [] → zs ≡ map f (take (i + 1) xs)
map_more f xs i d ys zs h e p = p ∙ (ap (λ x. x ++ f (get_or xs i d) ∷ []) e ∙ rw (take_more xs i d h, map-append) refl)

zip_suc : {A B : Type 0} (xs : List A) (ys : List B) (i : ℕ) (d : A) (e : B) → i < length xs → i < length ys
    → zip (take (suc i) xs) ys ≡ zip (take i xs) ys ++ (get_or xs i d, get_or ys i e) ∷ []
zip_suc [] ys i d e h k = absurd (omega arith)
zip_suc (a ∷ xs) [] i d e h k = absurd (omega arith)
zip_suc (a ∷ xs) (b ∷ ys) zero d e h k = refl
zip_suc (a ∷ xs) (b ∷ ys) (suc i) d e h k = ap (λ t. (a, b) ∷ t) (zip_suc xs ys i d e (omega arith) (omega arith))

-- the image of one pair more
pub zip_more : {A B C : Type 0} (f : A × B → C) (xs : List A) (ys : List B) (i : ℕ) (x : A) (y : B) (vs zs : List C) → i < length xs
    → i < length ys → get_or xs i x ≡ x → get_or ys i y ≡ y
    → vs ≡ map f (zip (take i xs) ys) → zs ≡ vs ++ f (x, y) ∷ [] → zs ≡ map f (zip (take (i + 1) xs) ys)
zip_more f xs ys i x y vs zs h k x_is y_is was put =
    let one = zip_suc xs ys i x y h k in
    put ∙ (ap (λ v. v ++ f (x, y) ∷ []) was ∙ rw (add-one, one, map-append, x_is, y_is) refl)

-- A key that is the same whatever stands for those that aren't there is there.
pub key_there : (keys : List Pt) (k : ℕ) (key : Pt) → ((d : Pt) → get_or keys k d ≡ key) → k < length keys
key_there [] k key is = absurd (omega (arith, ap (λ (p : Pt). unsigned_abs p.x) (is (at (pos 0) (pos 0)) ∙ sym (is (at (pos 1) (pos 0))))))
key_there (p ∷ keys) zero key is = omega arith
key_there (p ∷ keys) (suc k) key is = let less = key_there keys k key is in omega (arith, less)

-- such a key is a point, where all of them are
pub key_within : (keys : List Pt) → ((p : Pt) → Contains keys p → IsPoint p) → (k : ℕ) (key : Pt) → ((d : Pt) → get_or keys k d ≡ key) → IsPoint key
key_within keys within k key is = within key (k, key_there keys k key is, is key)

coordinate : (z : ℤ) → unsigned_abs z ≤ farthest → IsCoordinate z
coordinate z h = (omega (arith, ints), omega (arith, ints))

pub rect_fits : (r : Rect) → IsSolidWithin farthest r → IsRect r
rect_fits r s = record { x0 = coordinate r.x0 s.left; y0 = coordinate r.y0 s.low; x1 = coordinate r.x1 s.right; y1 = coordinate r.y1 s.high; wide = s.wide; high = s.tall }
