-- A place in a list, and in a list made of it.
use Rattle.std.proofs.Common.{◌≡◌, ℕ, ◌+◌, Bool, not, cond, Some, None, ltb, List, [], ◌∷◌, map, length, position, refl, sym, ap, ◌∙◌}
use Rattle.std.specs.List.{prefix_len}
use Rattle.std.proofs.lemmas.List.{length-map}

module _ {X K M N : Type 0} (f : X → K) (g : X → M) (n : M → N) (p : K → Bool) (q : N → Bool) (same : (x : X) → p (f x) ≡ q (n (g x))) where
  same_prefix : (xs : List X) → prefix_len (λ k. not (p k)) (map f xs) ≡ prefix_len (λ m. not (q m)) (map n (map g xs))
  same_prefix [] = refl
  same_prefix (x ∷ xs) =
      ap (λ (b : Bool). cond (not b) (1 + prefix_len (λ k. not (p k)) (map f xs)) 0) (same x)
      ∙ ap (λ (i : ℕ). cond (not (q (n (g x)))) (1 + i) 0) (same_prefix xs)

  same_length : (xs : List X) → length (map f xs) ≡ length (map n (map g xs))
  same_length xs = length-map xs f ∙ sym (length-map (map g xs) n ∙ length-map xs g)

  pub same_position : (xs : List X) → position p (map f xs) ≡ position q (map n (map g xs))
  same_position xs =
      ap (λ (i : ℕ). cond (ltb i (length (map f xs))) (Some i) None) (same_prefix xs)
      ∙ ap (λ (l : ℕ). cond (ltb (prefix_len (λ m. not (q m)) (map n (map g xs))) l) (Some (prefix_len (λ m. not (q m)) (map n (map g xs)))) None) (same_length xs)
