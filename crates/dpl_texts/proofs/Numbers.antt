-- Numbers in a line.
use Rattle.std.proofs.Common.{◌≡◌, ◌∙◌, ℕ, List, [], ◌∷◌, ◌++◌, ap, append_assoc}

two_parts : (a b : List ℕ) → a ++ (32 ∷ (b ++ (10 ∷ []))) ≡ (a ++ (32 ∷ b)) ++ (10 ∷ [])
two_parts a b = simp append_assoc

pub two_numbers : (s pre a b : List ℕ) → s ≡ pre ++ (a ++ (32 ∷ (b ++ (10 ∷ [])))) → s ≡ pre ++ ((a ++ (32 ∷ b)) ++ (10 ∷ []))
two_numbers s pre a b h = h ∙ ap (λ x. pre ++ x) (two_parts a b)

three_parts : (a b c : List ℕ) → a ++ (32 ∷ (b ++ (32 ∷ (c ++ (10 ∷ []))))) ≡ (a ++ (32 ∷ (b ++ (32 ∷ c)))) ++ (10 ∷ [])
three_parts a b c = simp append_assoc

pub three_numbers : (s pre a b c : List ℕ) → s ≡ pre ++ (a ++ (32 ∷ (b ++ (32 ∷ (c ++ (10 ∷ [])))))) → s ≡ pre ++ ((a ++ (32 ∷ (b ++ (32 ∷ c)))) ++ (10 ∷ []))
three_numbers s pre a b c h = h ∙ ap (λ x. pre ++ x) (three_parts a b c)

four_parts : (a b c d : List ℕ) → a ++ (32 ∷ (b ++ (32 ∷ (c ++ (32 ∷ (d ++ (10 ∷ []))))))) ≡ (a ++ (32 ∷ (b ++ (32 ∷ (c ++ (32 ∷ d)))))) ++ (10 ∷ [])
four_parts a b c d = simp append_assoc

pub four_numbers : (s pre a b c d : List ℕ) → s ≡ pre ++ (a ++ (32 ∷ (b ++ (32 ∷ (c ++ (32 ∷ (d ++ (10 ∷ []))))))))
    → s ≡ pre ++ ((a ++ (32 ∷ (b ++ (32 ∷ (c ++ (32 ∷ d)))))) ++ (10 ∷ []))
four_numbers s pre a b c d h = h ∙ ap (λ x. pre ++ x) (four_parts a b c d)
