-- Members of lists.
use Rattle.std.proofs.Common.{◌≡◌, ℕ, ◌+◌, ◌*◌, ◌<◌, ◌≤◌, ⊎_elim, List, [], ◌∷◌, ◌++◌, Option, Some, None, map, length, get_or, take, refl, ap, ◌∙◌, append_assoc, arith}
use Rattle.std.proofs.Math.Nat.{mul-le-mul_left}
use Rattle.std.proofs.lemmas.List.{map_more}
use Rattle.std.specs.List.{Contains}
use Rattle.std.specs.Option.{option_to_list}
use Rattle.dpl_spec_split.proofs.Ordered.{Contains-head, Contains-later, Contains-cases, Contains-nil}

pub Contains-map : {X Y : Type 0} (f : X → Y) (xs : List X) (x : X) → Contains xs x → Contains (map f xs) (f x)
Contains-map f [] x c = absurd (Contains-nil x c)
Contains-map f (y ∷ xs) x c =
    ⊎_elim (λ (e : y ≡ x). rw (← ap f e) (Contains-head (f y) (map f xs))) (λ h. Contains-later (f y) (f x) (map f xs) (Contains-map f xs x h)) (Contains-cases y x xs c)

pub Contains-map_cases : {X Y : Type 0} (f : X → Y) (xs : List X) (y : Y) → Contains (map f xs) y → (x : X) × Contains xs x × (f x ≡ y)
Contains-map_cases f [] y c = absurd (Contains-nil y c)
Contains-map_cases f (x ∷ xs) y c =
    ⊎_elim (λ (e : f x ≡ y). (x, Contains-head x xs, e)) (λ h. let m = Contains-map_cases f xs y h in (m.0, Contains-later x m.0 xs m.1, m.2)) (Contains-cases (f x) y (map f xs) c)

pub Contains-option : {X : Type 0} (o : Option X) (x : X) → Contains (option_to_list o) x → o ≡ Some x
Contains-option None x c = absurd (Contains-nil x c)
Contains-option (Some y) x c = ⊎_elim (λ (e : y ≡ x). ap Some e) (λ h. absurd (Contains-nil x h)) (Contains-cases y x [] c)

pub Contains-the_option : {X : Type 0} (o : Option X) (x : X) → o ≡ Some x → Contains (option_to_list o) x
Contains-the_option o x e = rw e (Contains-head x [])

-- one more of the images is put behind the others
pub pushed : {X Y : Type 0} (f : X → Y) (xs : List X) (i : ℕ) (d : X) (start ys zs : List Y) → i < length xs → ys ≡ start ++ map f (take i xs)
    → zs ≡ ys ++ f (get_or xs i d) ∷ [] → zs ≡ start ++ map f (take (i + 1) xs)
pushed f xs i d start ys zs h e p = p ∙ rw (e, append_assoc, map_more f xs i d h) refl

-- fewer steps lead no farther
pub steps : (i n s b : ℕ) → i < n → n * s ≤ b → i * s ≤ b
steps i n s b h l =
    let e = mul-le-mul_left s (let k : i ≤ n = omega (arith, h) in k) in
    let x : s * i ≡ i * s = omega arith in
    let y : s * n ≡ n * s = omega arith in
    omega (arith, e, x, y, l)
