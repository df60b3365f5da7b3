-- What is in lists that are put together.
use Rattle.std.proofs.Common.{List, [], ◌∷◌, inl, inr, zero, suc, refl, arith}
use Rattle.std.specs.List.{Contains, flat_map}
use Rattle.std.proofs.lemmas.List.Elements.{Contains-append_left, Contains-append_right, Contains-append_cases}

pub in-flat : {X Y : Type 0} (f : X → List Y) (xs : List X) (x : X) (y : Y) → Contains xs x → Contains (f x) y → Contains (flat_map f xs) y
in-flat f [] x y (k, l, is) there = absurd (omega (arith, l))
in-flat f (z ∷ xs) x y (zero, l, is) there = Contains-append_left (f z) (flat_map f xs) y (rw is there)
in-flat f (z ∷ xs) x y (suc k, l, is) there = Contains-append_right (f z) (flat_map f xs) y (in-flat f xs x y (k, omega (arith, l), is) there)

pub from-flat : {X Y : Type 0} (f : X → List Y) (xs : List X) (y : Y) → Contains (flat_map f xs) y → (x : X) × Contains xs x × Contains (f x) y
from-flat f [] y (k, l, is) = absurd (omega (arith, l))
from-flat f (z ∷ xs) y there = elim (Contains-append_cases (f z) (flat_map f xs) y there) [
  | inl here ↦ (z, (0, omega arith, refl), here)
  | inr later ↦ (let (x, (k, l, is), in_x) = from-flat f xs y later in (x, (suc k, omega (arith, l), is), in_x))
]
