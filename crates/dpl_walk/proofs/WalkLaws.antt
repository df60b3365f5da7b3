-- A walk over placements.
use Rattle.std.proofs.Common.{◌≡◌, ℕ, ◌+◌, ◌<◌, ◌≤◌, ◌⊎◌, inl, inr, ⊎_elim, min, Bool, true, false, not, cond, List, [], ◌∷◌, ◌++◌, Option}
use Rattle.std.proofs.Common.{Some, None, map, length, get_or, take, refl, sym, ap, ◌∙◌, arith}
use Rattle.std.proofs.lemmas.Bool.{cases_lt}
use Rattle.std.proofs.lemmas.List.Elements.{Contains-append_left, Contains-push, Contains-push_cases}
use Rattle.dpl_spec_split.specs.declared.Pt.{Pt}
use Rattle.dpl_spec_split.specs.Loops.{ArePointsWithin, farthest}
use Rattle.dpl_spec_split.proofs.Ordered.{Contains-head, Contains-cases, Contains-nil}
use Rattle.dpl_links.proofs.TakeLaws.{Contains-take_more, Contains-take_keeps, Contains-take_last}
use Rattle.dpl_walk.specs.Least.{IsAtMost, earlier}
use Rattle.dpl_walk.specs.declared.cells.Outline.{Outline}
use Rattle.dpl_walk.specs.Walk.{Draws, Gathers, HasFarPoint}

at_most_earlier : (a b : Option ℕ) (n : ℕ) → IsAtMost a n → IsAtMost (earlier a b) n
at_most_earlier None b n h = absurd h
at_most_earlier (Some a) None n h = h
at_most_earlier (Some a) (Some b) n h = omega (arith, h)

at_most_itself : (a : Option ℕ) (n : ℕ) → IsAtMost (earlier a (Some n)) n
at_most_itself None n = omega arith
at_most_itself (Some a) n = omega arith

earlier_is : (a : Option ℕ) (n m : ℕ) → earlier a (Some n) ≡ Some m → (a ≡ Some m) ⊎ (n ≡ m)
earlier_is None n m e = inr (let f : Some n ≡ Some m = e in cc)
earlier_is (Some a) n m e =
    ⊎_elim (λ (l : a < n). let w : min a n ≡ a = omega arith in let f : Some (min a n) ≡ Some m = e in
    inl (sym (ap Some w) ∙ f)) (λ (l : n ≤ a). let w : min a n ≡ n = omega arith in let f : Some (min a n) ≡ Some m = e in
    let g : Some n ≡ Some m = sym (ap Some w) ∙ f in inr cc) (cases_lt a n)

-- one more outline, whose points were moved
pub gathers_one : (o : Outline) (f : Pt → Pt) (old new : List (List Pt)) (before after : Option ℕ) (ps : List Pt) (in_range : Bool)
    → ps ≡ map f o.points → (in_range ≡ true → ArePointsWithin farthest ps) → (in_range ≡ false → HasFarPoint ps) → new ≡ old ++ ps ∷ []
    → after ≡ cond (not in_range) (earlier before (Some o.at)) before → Gathers (o ∷ []) f old new before after
gathers_one o f old new before after ps true is says miss n a = rw (n, a) (record {
  keeps = λ qs at g. (Contains-append_left old (ps ∷ []) qs g.0, g.1);
  gathers = λ qs at d. let w = one qs at d in (rw w.0 (Contains-push old ps), inl (rw w.0 (says refl)));
  alone = λ qs c. ⊎_elim (λ x. inl x) (λ (w : ps ≡ qs). inr (o.at, (o, Contains-head o [], sym w ∙ is, refl))) (Contains-push_cases old ps qs c);
  far = λ at e. inl e;
})
  where
    one : (qs : List Pt) (at : ℕ) → Draws (o ∷ []) f qs at → (qs ≡ ps) × (at ≡ o.at)
    one qs at d = ⊎_elim (λ (w : o ≡ d.0). (
      d.2 ∙ (ap (λ (x : Outline). map f x.points) (sym w) ∙ sym is),
      d.3 ∙ ap (λ (x : Outline). x.at)
          (sym w),
    )) (λ x. absurd (Contains-nil d.0 x)) (Contains-cases o d.0 [] d.1)
gathers_one o f old new before after ps false is says miss n a = rw (n, a) (record {
  keeps = λ qs at g. (Contains-append_left old (ps ∷ []) qs g.0, ⊎_elim (λ x. inl x) (λ x. inr (at_most_earlier before (Some o.at) at x)) g.1);
  gathers = λ qs at d. let w = one qs at d in (rw w.0 (Contains-push old ps), inr (rw w.1 (at_most_itself before o.at)));
  alone = λ qs c. ⊎_elim (λ x. inl x) (λ (w : ps ≡ qs). inr (o.at, (o, Contains-head o [], sym w ∙ is, refl))) (Contains-push_cases old ps qs c);
  far = λ at e. ⊎_elim (λ x. inl x) (λ (w : o.at ≡ at). inr (ps, (o, Contains-head o [], is, sym w), miss refl)) (earlier_is before o.at at e);
})
  where
    one : (qs : List Pt) (at : ℕ) → Draws (o ∷ []) f qs at → (qs ≡ ps) × (at ≡ o.at)
    one qs at d = ⊎_elim (λ (w : o ≡ d.0). (
      d.2 ∙ (ap (λ (x : Outline). map f x.points) (sym w) ∙ sym is),
      d.3 ∙ ap (λ (x : Outline). x.at)
          (sym w),
    )) (λ x. absurd (Contains-nil d.0 x)) (Contains-cases o d.0 [] d.1)

pub gathers_none : (f : Pt → Pt) (loops : List (List Pt)) (far : Option ℕ) → Gathers [] f loops loops far far
gathers_none f loops far = record {
  keeps = λ ps at g. g;
  gathers = λ ps at d. absurd (Contains-nil d.0 d.1);
  alone = λ ps c. inl c;
  far = λ at e. inl e;
}

pub gathers_more : (os : List Outline) (i : ℕ) (d : Outline) (f : Pt → Pt) (a b c : List (List Pt)) (x y z : Option ℕ) → i < length os
    → Gathers (take i os) f a b x y → Gathers (get_or os i d ∷ []) f b c y z → Gathers (take (i + 1) os) f a c x z
gathers_more os i d f a b c x y z h first one = record {
  keeps = λ ps at g. one.keeps ps at (first.keeps ps at g);
  gathers = λ ps at w. ⊎_elim (λ k. one.keeps ps at (first.gathers ps at (w.0, k, w.2, w.3)))
      (λ (e : w.0 ≡ get_or os i d). one.gathers ps at (w.0, rw e (Contains-head (get_or os i d) []), w.2, w.3))
      (Contains-take_more os i d w.0 h w.1);
  alone = λ ps k. ⊎_elim (λ m. ⊎_elim (λ n. inl n) (λ n. inr (n.0, (n.1.0, Contains-take_keeps os i d n.1.0 h n.1.1, n.1.2, n.1.3)))
      (first.alone ps m)) (λ n. inr (n.0, last ps n.0 n.1)) (one.alone ps k);
  far = λ at e. ⊎_elim (λ m. ⊎_elim (λ n. inl n) (λ n. inr (n.0, (n.1.0, Contains-take_keeps os i d n.1.0 h n.1.1, n.1.2, n.1.3), n.2))
      (first.far at m)) (λ n. inr (n.0, last n.0 at n.1, n.2)) (one.far at e);
}
  where
    last : (ps : List Pt) (at : ℕ) → Draws (get_or os i d ∷ []) f ps at → Draws (take (i + 1) os) f ps at
    last ps at w = ⊎_elim (λ (e : get_or os i d ≡ w.0). (w.0, Contains-take_last os i d w.0 h (sym e), w.2, w.3))
        (λ n. absurd (Contains-nil w.0 n)) (Contains-cases (get_or os i d) w.0 [] w.1)
