-- The first word of a line and the words after it.
use Rattle.std.proofs.Common.{◌≡◌, List, ℕ, ◌∷◌}

pub after : {w a t : List (List ℕ)} {x y : List ℕ} → w ≡ x ∷ a → w ≡ y ∷ t → a ≡ t
after p q = cc

pub before : {w a t : List (List ℕ)} {x y : List ℕ} → w ≡ x ∷ a → w ≡ y ∷ t → x ≡ y
before p q = cc
