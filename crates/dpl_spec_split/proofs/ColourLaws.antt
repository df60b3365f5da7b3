-- One colouring follows the rules: by induction on roots.
use Rattle.std.proofs.Common.{◌≡◌, ℕ, zero, suc, ◌<◌, inl, inr, Bool, true, false, not, ◌&&◌, ◌||◌, eqb, ltb, List, length, get_or, sym, refl, ap, ◌∙◌, arith}
use Rattle.std.specs.Prelude.{count_by}
use Rattle.std.proofs.lemmas.List.{same_lists, get_or_past, get_or_default}
use Rattle.std.proofs.lemmas.Bool.{cases_lt, ltb-true}
use Rattle.dpl_spec_split.specs.Colours.{differ, crosses, zones_across, is_flipped, AreColours}

-- two tests that agree count alike
count-agree : (p q : ℕ × ℕ → Bool) → ((x : ℕ × ℕ) → p x ≡ q x) → (xs : List (ℕ × ℕ)) → count_by p xs ≡ count_by q xs
count-agree p q same xs = let e : p ≡ q = λ i x. same x i in ap (λ t. count_by t xs) e

-- a test need agree only where the first two hold
agree-within : (x l f g : Bool) → (l ≡ true → f ≡ g) → (x && l && f) ≡ (x && l && g)
agree-within false l f g h = refl
agree-within true false f g h = refl
agree-within true true f g h = h refl

module _ (roots : List ℕ) (odds : List Bool) (sides : List (ℕ × ℕ)) (cs ds : List Bool) (a : AreColours roots odds sides cs) (b : AreColours roots odds sides ds) where
  -- colours agree at each vertex whose root is below n
  abbrev Agree : ℕ → Type 0
  Agree n = (v : ℕ) → get_or roots v 0 < n → get_or cs v false ≡ get_or ds v false

  one-way : (root u v : ℕ) (wanted : Bool) → Agree root →
      (crosses roots root u v && not (differ wanted (differ (get_or odds u false) (get_or cs v false)))) ≡ (crosses roots root u v && not
      (differ wanted (differ (get_or odds u false) (get_or ds v false))))
  one-way root u v wanted agree =
      agree-within (eqb (get_or roots u 0) root) (ltb (get_or roots v 0) root) _ _
      (λ l. ap (λ c. not (differ wanted (differ (get_or odds u false) c))) (agree v (ltb-true _ _ l)))

  across-agree : (root : ℕ) (wanted : Bool) → Agree root → zones_across roots odds cs root wanted sides ≡ zones_across roots odds ds root wanted sides
  across-agree root wanted agree =
      count-agree _ _ (λ side.
      ap (λ x. x || (crosses roots root side.1 side.0 && not (differ wanted (differ (get_or odds side.1 false) (get_or cs side.0 false)))))
      (one-way root side.0 side.1 wanted agree)
      ∙ ap (λ y. (crosses roots root side.0 side.1 && not (differ wanted (differ (get_or odds side.0 false) (get_or ds side.1 false)))) ||
      y) (one-way root side.1 side.0 wanted agree)) sides

  flips-agree : (root : ℕ) → Agree root → is_flipped roots odds cs sides root ≡ is_flipped roots odds ds sides root
  flips-agree root agree = rw (across-agree root false agree, across-agree root true agree) refl

  agree-at : (v : ℕ) → Agree (get_or roots v 0) → get_or cs v false ≡ get_or ds v false
  agree-at v agree = elim (cases_lt v (length roots)) [
    | inl within ↦ a.colour v within ∙ (ap (differ (get_or odds v false)) (flips-agree (get_or roots v 0) agree) ∙ sym (b.colour v within))
    | inr past ↦ get_or_past cs v false (omega (arith, past, a.each)) ∙ sym (get_or_past ds v false (omega (arith, past, b.each)))
  ]

  agree-all : (n : ℕ) → Agree n
  agree-all zero v l = absurd (omega (arith, l))
  agree-all (suc n) v l = agree-at v (λ w m. agree-all n w (omega (arith, l, m)))

  pub colours-unique : cs ≡ ds
  colours-unique = same_lists cs ds (a.each ∙ sym b.each) (λ k d l.
      get_or_default cs k d false l ∙ (agree-at k (agree-all (get_or roots k 0)) ∙ get_or_default ds k false d (omega (arith, l, a.each, b.each))))
