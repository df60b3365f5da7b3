-- What a change of one grip does to a hand's lists.
use Rattle.std.proofs.Common.{◌≡◌, ◌∙◌, ◌+◌, ◌<◌, ℕ, zero, suc, List, [], ◌∷◌, ◌++◌, length, map, set, get_or, refl, sym, ap, arith, Option, Some, None}
use Rattle.std.specs.Prelude.{IfSome, IfNone, is_some, false, true}
use Rattle.std.proofs.lemmas.Bool.{cases_lt}
use Rattle.dpl_deal.specs.declared.grip.Grip.{Grip}
use Rattle.dpl_deal.specs.Rule.{times}
use Rattle.dpl_deal.specs.Grips.{EndedBelow, Tried, grip_view, took_by}
use Rattle.std.proofs.Common.{subst, ◌≢◌, ◌≤◌, ⊎_elim}
use Rattle.std.specs.Prelude.{All}
use Rattle.std.proofs.lemmas.List.{get_or-set_same, get_or-set_other, length-set}
use mathlib.Core.Logic.{dite}
use native.Mathlib.Decide.{ℕ_discrete}
use Rattle.dpl_deal.proofs.Moves.{times-append}

pub map_put : {A B : Type 0} (f : A → B) (xs : List A) (i : ℕ) (old new : A) → i < length xs → old ≡ get_or xs i old → f new ≡ f old → map f (set xs i new) ≡ map f xs
map_put f [] i old new lt is same = refl
map_put f (x ∷ xs) zero old new lt is same = ap (λ b. b ∷ map f xs) (same ∙ ap f is)
map_put f (x ∷ xs) (suc i) old new lt is same = ap (λ l. f x ∷ l) (map_put f xs i old new (omega arith) is same)

pub took_put : (x : ℕ) (gs : List Grip) (i : ℕ) (old new : Grip) → i < length gs → old ≡ get_or gs i old
    → times x (took_by (set gs i new)) + times x (grip_view old).took ≡ times x (took_by gs) + times x (grip_view new).took
took_put x [] i old new lt is = absurd (omega arith)
took_put x (g ∷ gs) zero old new lt is =
    let same : times x (grip_view old).took ≡ times x (grip_view g).took = ap (λ (h : Grip). times x (grip_view h).took) is in
    omega (arith, times-append x (grip_view new).took (took_by gs), times-append x (grip_view g).took (took_by gs))
took_put x (g ∷ gs) (suc i) old new lt is =
    let r = took_put x gs i old new (omega arith) is in
    omega (arith, times-append x (grip_view g).took (took_by gs), times-append x (grip_view g).took (took_by (set gs i new)))

pub took_more : (gs : List Grip) (i : ℕ) (old new : Grip) (t : Option ℕ) → i < length gs → old ≡ get_or gs i old
    → IfSome t (λ u. (grip_view new).took ≡ (grip_view old).took ++ u ∷ [])
    → IfSome t (λ u. (x : ℕ) → times x (took_by (set gs i new)) ≡ times x (took_by gs) + times x (u ∷ []))
took_more gs i old new None lt is more = tt
took_more gs i old new (Some u) lt is more = λ x.
    let p = took_put x gs i old new lt is in
    let m : times x (grip_view new).took ≡ times x ((grip_view old).took ++ u ∷ []) = ap (times x) more in
    omega (arith, times-append x (grip_view old).took (u ∷ []))

pub took_same : (gs : List Grip) (i : ℕ) (old new : Grip) → i < length gs → old ≡ get_or gs i old
    → (grip_view new).took ≡ (grip_view old).took → took_by (set gs i new) ≡ took_by gs
took_same [] i old new lt is same = refl
took_same (g ∷ gs) zero old new lt is same = ap (λ l. l ++ took_by gs) (same ∙ ap (λ (h : Grip). (grip_view h).took) is)
took_same (g ∷ gs) (suc i) old new lt is same = ap (λ l. (grip_view g).took ++ l) (took_same gs i old new (omega arith) is same)

pub if_none : {A : Type 0} {P Q : Type 0} (t : Option A) → (P → Q) → IfNone t P → IfNone t Q
if_none None f p = f p
if_none (Some u) f p = tt

pub if_some : {A : Type 0} {P Q : A → Type 0} (t : Option A) → ((u : A) → P u → Q u) → IfSome t P → IfSome t Q
if_some None f p = tt
if_some (Some u) f p = f u p

pub of_any : {A : Type 0} {P : A → Type 0} (t : Option A) → ((u : A) → P u) → IfSome t P
of_any None f = tt
of_any (Some u) f = f u

pub still : (gs : List Grip) → Tried gs None gs
still gs = record { deques = refl; within = λ tiles h. h; below = tt; some = tt; none = refl; ended = λ n h. h }

-- a try that took none, and another behind it
pub after_none : (a b c : List Grip) (t : Option ℕ) → Tried a None b → Tried b t c → Tried a t c
after_none a b c None f s = record {
  deques = s.deques ∙ f.deques;
  within = λ tiles h. s.within tiles (f.within tiles h);
  below = tt;
  some = tt;
  none = s.none ∙ f.none;
  ended = λ n h. s.ended n (f.ended n h);
}
after_none a b c (Some u) f s = record {
  deques = s.deques ∙ f.deques;
  within = λ tiles h. s.within tiles (f.within tiles h);
  below = λ tiles h. s.below tiles (f.within tiles h);
  some = λ x. s.some x ∙ ap (λ (l : List ℕ). times x l + times x (u ∷ [])) f.none;
  none = tt;
  ended = λ n h. s.ended n (f.ended n h);
}

pub was_none : (a b : List Grip) (t : Option ℕ) → is_some t ≡ false → Tried a t b → Tried a None b
was_none a b None e h = h
was_none a b (Some u) e h = absurd (cc)

pub none_where : (P : Type 0) (t : Option ℕ) → is_some t ≡ true → IfNone t P
none_where P None e = absurd (cc)
none_where P (Some u) e = tt

pub where_none : {P : Type 0} (t : Option ℕ) → is_some t ≡ false → IfNone t P → P
where_none None e p = p
where_none (Some u) e p = absurd (cc)

pub all_here : {A : Type 0} (P : A → Type 0) (xs : List A) (i : ℕ) (x : A) → i < length xs → x ≡ get_or xs i x → All P xs → P x
all_here P xs i x lt is h = subst P (sym is) (h i x lt)

pub all_put : {A : Type 0} (P : A → Type 0) (xs : List A) (i : ℕ) (old new : A) → i < length xs → old ≡ get_or xs i old → All P xs → (P old → P new) → All P (set xs i new)
all_put P xs i old new lt is h f k d klt = dite (ℕ_discrete k i)
    (λ (e : k ≡ i). subst P (sym (ap (λ (n : ℕ). get_or (set xs i new) n d) e ∙ get_or-set_same xs i new d lt)) (f (all_here P xs i old lt is h)))
    (λ (ne : k ≢ i). subst P (sym (get_or-set_other xs i k new d ne)) (h k d (omega (arith, klt, length-set xs i new))))

pub ended_put : (gs : List Grip) (i : ℕ) (old new : Grip) → i < length gs → old ≡ get_or gs i old → ((grip_view old).ended ≡ true → (grip_view new).ended ≡ true)
    → (n : ℕ) → EndedBelow n gs → EndedBelow n (set gs i new)
ended_put gs i old new lt is f n h j d jlt = dite (ℕ_discrete j i)
    (λ (e : j ≡ i). subst (λ (g : Grip). (grip_view g).ended ≡ true) (sym (ap (λ (k : ℕ). get_or (set gs i new) k d) e ∙ get_or-set_same gs i new d lt))
    (f (subst (λ (g : Grip). (grip_view g).ended ≡ true) (sym is) (h i old (subst (λ (k : ℕ). k < n) e jlt)))))
    (λ (ne : j ≢ i). subst (λ (g : Grip). (grip_view g).ended ≡ true) (sym (get_or-set_other gs i j new d ne)) (h j d jlt))

pub ended_next : (gs : List Grip) (i : ℕ) (old new : Grip) → i < length gs → old ≡ get_or gs i old → (grip_view new).ended ≡ true
    → EndedBelow i gs → EndedBelow (i + 1) (set gs i new)
ended_next gs i old new lt is e h j d jlt = dite (ℕ_discrete j i)
    (λ (s : j ≡ i). subst (λ (g : Grip). (grip_view g).ended ≡ true) (sym (ap (λ (k : ℕ). get_or (set gs i new) k d) s ∙ get_or-set_same gs i new d lt)) e)
    (λ (ne : j ≢ i). subst (λ (g : Grip). (grip_view g).ended ≡ true) (sym (get_or-set_other gs i j new d ne)) (h j d (below j i jlt ne)))
  where
    below : (j i : ℕ) → j < i + 1 → j ≢ i → j < i
    below j i lt ne = ⊎_elim (λ (a : j < i). a) (λ (b : i ≤ j). absurd (ne (omega arith))) (cases_lt j i)
