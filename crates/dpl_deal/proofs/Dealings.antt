-- Lists of views, while hands are given out and joined.
use Rattle.std.proofs.Common.{◌≡◌, ◌≢◌, ◌∙◌, ◌+◌, ◌-◌, ◌<◌, ◌≤◌, ◌==◌, ℕ, zero, suc, true, false, Bool, List, [], ◌∷◌, ◌++◌, length, map}
use Rattle.std.proofs.Common.{set, get_or, take, replicate, refl, sym, ap, subst, arith, ⊎_elim, ◌||◌, length-append, rules}
use Rattle.std.specs.Prelude.{All}
use Rattle.std.specs.List.{AllByRecursion as Each}
use Rattle.std.proofs.lemmas.List.{get_or-set_same, get_or-set_other, length-set, length-map, map-set, map-append, get_or-map, get_or_default, take_more}
use Rattle.std.proofs.lemmas.Bool.{cases_lt}
use Rattle.std.proofs.lemmas.List.Elements.{All-append, All-cons, All-nil, All-from_recursion, recursion_from_All}
use Rattle.std.proofs.lemmas.Bool.Decides.{nat_tests}
use mathlib.Core.Logic.{dite}
use native.Mathlib.Decide.{ℕ_discrete}
use Rattle.dpl_deal.specs.declared.view.PassView.{PassView}
use Rattle.dpl_deal.specs.declared.grip.Grip.{Grip}
use Rattle.dpl_deal.specs.declared.hand.Hand.{Hand}
use Rattle.dpl_deal.specs.Rule.{after_grip, after_join, cut_off, once_below, times, total}
use Rattle.dpl_deal.specs.Grips.{AreWithin, grip_view, joined, took_by}
use Rattle.dpl_deal.specs.Hands.{all_taken, dealt_times, gripped, joined_all, own_view, row_of, took_times, views_of}
use Rattle.dpl_deal.proofs.Moves.{times-append}

pub total_put : (f : PassView → ℕ) (vs : List PassView) (i : ℕ) (d w : PassView) → i < length vs → total f (set vs i w) + f (get_or vs i d) ≡ total f vs + f w
total_put f [] i d w lt = absurd (omega arith)
total_put f (x ∷ xs) zero d w lt = omega arith
total_put f (x ∷ xs) (suc i) d w lt = let r = total_put f xs i d w (omega arith) in omega arith

-- the view of an owner that was read
pub view_here : (os : List Hand) (i : ℕ) (o : Hand) (d : PassView) → i < length os → o ≡ get_or os i o → own_view o ≡ get_or (views_of os) i d
view_here os i o d lt is = ap own_view is ∙ sym (get_or-map own_view os i o d lt)

pub all_step : {A : Type 0} (P Q : A → Type 0) (xs : List A) (i : ℕ) (new : A) → i < length xs → All P xs → ((x : A) → P x → Q x) → Q new → All Q (set xs i new)
all_step P Q xs i new lt h f q k d klt = dite (ℕ_discrete k i)
    (λ (e : k ≡ i). subst Q (sym (ap (λ (n : ℕ). get_or (set xs i new) n d) e ∙ get_or-set_same xs i new d lt)) q)
    (λ (ne : k ≢ i). subst Q (sym (get_or-set_other xs i k new d ne)) (f _ (h k d (omega (arith, klt, length-set xs i new)))))

pub once_more : (n x : ℕ) → once_below (n + 1) x ≡ once_below n x + times x (n ∷ [])
once_more n x = grind (arith, nat_tests)

pub gripped_here : (n : ℕ) (vs : List PassView) (d : PassView) → get_or (gripped n vs) n d ≡ get_or vs n d
gripped_here zero vs d = refl
gripped_here (suc n) [] d = refl
gripped_here (suc n) (v ∷ vs) d = gripped_here n vs d

pub gripped_more : (n : ℕ) (vs : List PassView) (d : PassView) → n < length vs → set (gripped n vs) n (after_grip (get_or vs n d)) ≡ gripped (suc n) vs
gripped_more zero [] d lt = absurd (omega arith)
gripped_more zero (v ∷ vs) d lt = refl
gripped_more (suc n) [] d lt = absurd (omega arith)
gripped_more (suc n) (v ∷ vs) d lt = ap (λ l. after_grip v ∷ l) (gripped_more n vs d (omega arith))

pub gripped_all : (n : ℕ) (vs : List PassView) → length vs ≤ n → gripped n vs ≡ map after_grip vs
gripped_all zero [] le = refl
gripped_all zero (v ∷ vs) le = absurd (omega arith)
gripped_all (suc n) [] le = refl
gripped_all (suc n) (v ∷ vs) le = ap (λ l. after_grip v ∷ l) (gripped_all n vs (omega arith))

each_map : {A B : Type 0} (f : A → B) (P : A → Type 0) (Q : B → Type 0) (xs : List A) → ((x : A) → P x → Q (f x)) → Each P xs → Each Q (map f xs)
each_map f P Q [] g h = tt
each_map f P Q (x ∷ xs) g h = (g x h.0, each_map f P Q xs g h.1)

pub all_map : {A B : Type 0} (f : A → B) (P : A → Type 0) (Q : B → Type 0) (xs : List A) → ((x : A) → P x → Q (f x)) → All P xs → All Q (map f xs)
all_map f P Q xs g h = All-from_recursion Q (map f xs) (each_map f P Q xs g (recursion_from_All P xs h))

pub all_of_map : {A B : Type 0} (f : A → B) (Q : B → Type 0) (xs : List A) → All Q (map f xs) → All (λ x. Q (f x)) xs
all_of_map f Q xs h = All-from_recursion (λ x. Q (f x)) xs (go xs (recursion_from_All Q (map f xs) h))
  where
    go : (xs : List _) → Each Q (map f xs) → Each (λ x. Q (f x)) xs
    go [] h = tt
    go (x ∷ xs) h = (h.0, go xs h.1)

pub all_as : {A : Type 0} (P Q : A → Type 0) (xs : List A) → ((x : A) → P x → Q x) → All P xs → All Q xs
all_as P Q xs f h k d lt = f _ (h k d lt)

pub dealt_gripped : (x : ℕ) (vs : List PassView) → dealt_times x (map after_grip vs) ≡ dealt_times x vs
dealt_gripped x [] = refl
dealt_gripped x (v ∷ vs) = ap (λ (n : ℕ). times x v.dealt + n) (dealt_gripped x vs)

head_same : {A : Type 0} (x y : A) (xs ys : List A) → x ∷ xs ≡ y ∷ ys → x ≡ y
head_same x y xs ys e = ap (λ l. get_or l 0 x) e

pub took_nothing : (gs : List Grip) (vs : List PassView) → map grip_view gs ≡ map cut_off vs → took_by gs ≡ []
took_nothing [] vs e = refl
took_nothing (g ∷ gs) [] e = absurd (cc)
took_nothing (g ∷ gs) (v ∷ vs) e =
    let h : (grip_view g).took ≡ [] = ap (λ (u : PassView). u.took) (head_same (grip_view g) (cut_off v) (map grip_view gs) (map cut_off vs) e) in
    ap (λ l. l ++ took_by gs) h ∙ took_nothing gs vs (ap (λ l. Rattle.std.proofs.Common.drop 1 l) e)

pub within_cut : (tiles : ℕ) (gs : List Grip) (vs : List PassView) → map grip_view gs ≡ map cut_off vs → All (λ v. v.limit ≤ tiles) vs → AreWithin tiles gs
within_cut tiles gs vs e h = all_of_map grip_view (λ v. v.limit ≤ tiles) gs
    (subst (All (λ v. v.limit ≤ tiles)) (sym e) (all_map cut_off (λ v. v.limit ≤ tiles) (λ v. v.limit ≤ tiles) vs (λ v p. p) h))

-- joining

pub joined_here : (vs : List PassView) (ys : List Grip) (d : PassView) → get_or (joined vs ys) (length ys) d ≡ get_or vs (length ys) d
joined_here vs [] d = refl
joined_here [] (y ∷ ys) d = refl
joined_here (v ∷ vs) (y ∷ ys) d = joined_here vs ys d

pub joined_more : (vs : List PassView) (ys : List Grip) (g : Grip) (d : PassView) → length ys < length vs
    → set (joined vs ys) (length ys) (after_join (get_or vs (length ys) d) (grip_view g)) ≡ joined vs (ys ++ g ∷ [])
joined_more [] ys g d lt = absurd (omega arith)
joined_more (v ∷ vs) [] g d lt = refl
joined_more (v ∷ vs) (y ∷ ys) g d lt = ap (λ l. after_join v (grip_view y) ∷ l) (joined_more vs ys g d (omega arith))

pub joined_length : (vs : List PassView) (ys : List Grip) → length (joined vs ys) ≡ length vs
joined_length vs [] = refl
joined_length [] (y ∷ ys) = refl
joined_length (v ∷ vs) (y ∷ ys) = ap suc (joined_length vs ys)

pub joined_all_more : (vs : List PassView) (hs : List Hand) (h : Hand) → joined_all vs (hs ++ h ∷ []) ≡ joined (joined_all vs hs) h.grips.items
joined_all_more vs [] h = refl
joined_all_more vs (k ∷ hs) h = joined_all_more (joined vs k.grips.items) hs h

joined_each : (P Q : PassView → Type 0) (vs : List PassView) (gs : List Grip) → length gs ≡ length vs
    → ((v : PassView) (g : Grip) → P v → Q (after_join v (grip_view g))) → Each P vs → Each Q (joined vs gs)
joined_each P Q [] [] e f h = tt
joined_each P Q [] (g ∷ gs) e f h = absurd (omega arith)
joined_each P Q (v ∷ vs) [] e f h = absurd (omega arith)
joined_each P Q (v ∷ vs) (g ∷ gs) e f h = (f v g h.0, joined_each P Q vs gs (omega arith) f h.1)

pub joined_positive : (vs : List PassView) (gs : List Grip) → All (λ v. 0 < v.parts) vs → All (λ v. 0 < v.parts) (joined vs gs)
joined_positive vs gs h = All-from_recursion (λ v. 0 < v.parts) (joined vs gs) (go vs gs (recursion_from_All (λ v. 0 < v.parts) vs h))
  where
    go : (vs : List PassView) (gs : List Grip) → Each (λ v. 0 < v.parts) vs → Each (λ v. 0 < v.parts) (joined vs gs)
    go vs [] h = h
    go [] (g ∷ gs) h = tt
    go (v ∷ vs) (g ∷ gs) h = (let p = h.0 in omega arith, go vs gs h.1)

pub all_positive : (vs : List PassView) (hs : List Hand) → All (λ v. 0 < v.parts) vs → All (λ v. 0 < v.parts) (joined_all vs hs)
all_positive vs [] h = h
all_positive vs (k ∷ hs) h = all_positive (joined vs k.grips.items) hs (joined_positive vs k.grips.items h)

-- as many hands are joined as were out
parts_back : (k : ℕ) (vs : List PassView) (gs : List Grip) → length gs ≡ length vs → Each (λ v. v.parts + suc k ≡ 1024) vs → Each (λ v. v.parts + k ≡ 1024) (joined vs gs)
parts_back k vs gs e h = joined_each (λ v. v.parts + suc k ≡ 1024) (λ v. v.parts + k ≡ 1024) vs gs e (λ v g p. let one = g.part in omega arith) h

pub parts_all : (vs : List PassView) (hs : List Hand) → Each (λ h. length h.grips.items ≡ length vs) hs
    → Each (λ v. v.parts + length hs ≡ 1024) vs → Each (λ v. v.parts + 0 ≡ 1024) (joined_all vs hs)
parts_all vs [] e h = h
parts_all vs (k ∷ hs) e h = parts_all (joined vs k.grips.items) hs
    (subst (λ (n : ℕ). Each (λ h. length h.grips.items ≡ n) hs) (sym (joined_length vs k.grips.items)) e.1)
    (parts_back (length hs) vs k.grips.items e.0 h)

or_true : (a b : Bool) → b ≡ true → (a || b) ≡ true
or_true true b e = refl
or_true false b e = e

ended_here : (vs : List PassView) (gs : List Grip) → length gs ≡ length vs → Each (λ g. (grip_view g).ended ≡ true) gs → Each (λ v. v.ended ≡ true) (joined vs gs)
ended_here [] [] e h = tt
ended_here [] (g ∷ gs) e h = absurd (omega arith)
ended_here (v ∷ vs) [] e h = absurd (omega arith)
ended_here (v ∷ vs) (g ∷ gs) e h = (or_true v.ended (grip_view g).ended h.0, ended_here vs gs (omega arith) h.1)

ended_stays : (vs : List PassView) (gs : List Grip) → Each (λ v. v.ended ≡ true) vs → Each (λ v. v.ended ≡ true) (joined vs gs)
ended_stays vs [] h = h
ended_stays [] (g ∷ gs) h = tt
ended_stays (v ∷ vs) (g ∷ gs) h = (ap (λ (b : Bool). b || (grip_view g).ended) h.0, ended_stays vs gs h.1)

ended_after : (vs : List PassView) (hs : List Hand) → Each (λ v. v.ended ≡ true) vs → Each (λ v. v.ended ≡ true) (joined_all vs hs)
ended_after vs [] h = h
ended_after vs (k ∷ hs) h = ended_after (joined vs k.grips.items) hs (ended_stays vs k.grips.items h)

pub ended_all : (vs : List PassView) (hs : List Hand) (i : ℕ) (d : Hand) → Each (λ h. length h.grips.items ≡ length vs) hs → i < length hs
    → Each (λ g. (grip_view g).ended ≡ true) (get_or hs i d).grips.items
    → Each (λ v. v.ended ≡ true) (joined_all vs hs)
ended_all vs [] i d e lt h = absurd (omega arith)
ended_all vs (k ∷ hs) zero d e lt h = ended_after (joined vs k.grips.items) hs (ended_here vs k.grips.items e.0 h)
ended_all vs (k ∷ hs) (suc i) d e lt h = ended_all (joined vs k.grips.items) hs i d
    (subst (λ (n : ℕ). Each (λ h. length h.grips.items ≡ n) hs) (sym (joined_length vs k.grips.items)) e.1) (omega arith) h

dealt_joined : (x : ℕ) (vs : List PassView) (gs : List Grip) → dealt_times x (joined vs gs) ≡ dealt_times x vs
dealt_joined x vs [] = refl
dealt_joined x [] (g ∷ gs) = refl
dealt_joined x (v ∷ vs) (g ∷ gs) =
    let r = dealt_joined x vs gs in let z : times x (grip_view g).dealt ≡ 0 = ap (times x) g.dealt_none in
    omega (arith, times-append x v.dealt (grip_view g).dealt)

pub dealt_all : (x : ℕ) (vs : List PassView) (hs : List Hand) → dealt_times x (joined_all vs hs) ≡ dealt_times x vs
dealt_all x vs [] = refl
dealt_all x vs (k ∷ hs) = dealt_all x (joined vs k.grips.items) hs ∙ dealt_joined x vs k.grips.items

took_joined : (x : ℕ) (vs : List PassView) (gs : List Grip) → length gs ≡ length vs → took_times x (joined vs gs) ≡ took_times x vs + times x (took_by gs)
took_joined x [] [] e = refl
took_joined x [] (g ∷ gs) e = absurd (omega arith)
took_joined x (v ∷ vs) [] e = absurd (omega arith)
took_joined x (v ∷ vs) (g ∷ gs) e =
    let r = took_joined x vs gs (omega arith) in
    omega (arith, times-append x v.took (grip_view g).took, times-append x (grip_view g).took (took_by gs))

abbrev pub row_taken : List Hand → List ℕ
row_taken [] = []
row_taken (h ∷ hs) = took_by (row_of h) ++ row_taken hs

pub took_everything : (x : ℕ) (vs : List PassView) (hs : List Hand) → Each (λ h. length h.grips.items ≡ length vs) hs
    → took_times x (joined_all vs hs) ≡ took_times x vs + times x (row_taken hs)
took_everything x vs [] e = omega arith
took_everything x vs (k ∷ hs) e =
    let r = took_everything x (joined vs k.grips.items) hs (subst (λ (n : ℕ). Each (λ h. length h.grips.items ≡ n) hs) (sym (joined_length vs k.grips.items)) e.1) in
    let t = took_joined x vs k.grips.items e.0 in
    omega (arith, times-append x (took_by k.grips.items) (row_taken hs))

all_split : (x : ℕ) (hs : List Hand) → times x (all_taken hs) ≡ took_times x (views_of hs) + times x (row_taken hs)
all_split x [] = refl
all_split x (h ∷ hs) =
    let r = all_split x hs in
    omega (
      arith,
      times-append x (own_view h).took (took_by (row_of h)),
      times-append x ((own_view h).took ++ took_by (row_of h))
          (all_taken hs),
      times-append x (took_by (row_of h)) (row_taken hs),
    )

-- what the hands took is what the deques know once all grips are joined
pub took_total : (x : ℕ) (hs : List Hand) → Each (λ h. length h.grips.items ≡ length (views_of hs)) hs → took_times x (joined_all (views_of hs) hs) ≡ times x (all_taken hs)
took_total x hs e = took_everything x (views_of hs) hs e ∙ sym (all_split x hs)

pub total_same : (f g : PassView → ℕ) (vs : List PassView) → ((j : ℕ) (d : PassView) → j < length vs → f (get_or vs j d) ≡ g (get_or vs j d)) → total f vs ≡ total g vs
total_same f g [] h = refl
total_same f g (v ∷ vs) h = let a = h 0 v (omega arith) in let r = total_same f g vs (λ j d lt. h (suc j) d (omega arith)) in omega arith

-- steps, by what was read and what was written

pub at_owner : (P : PassView → Type 0) (os : List Hand) (i : ℕ) (o : Hand) → i < length os → o ≡ get_or os i o → All P (views_of os) → P (own_view o)
at_owner P os i o lt is h = subst P (sym (view_here os i o (own_view o) lt is)) (h i (own_view o) (omega (arith, lt, length-map os own_view)))

pub put_owner : (os : List Hand) (i : ℕ) (o new : Hand) (f : PassView → PassView) → i < length os → o ≡ get_or os i o → own_view new ≡ f (own_view o)
    → views_of (set os i new) ≡ set (views_of os) i (f (get_or (views_of os) i (own_view o)))
put_owner os i o new f lt is e = map-set own_view os i new ∙ ap (λ w. set (views_of os) i w) (e ∙ ap f (view_here os i o (own_view o) lt is))

pub grip_step : (vs : List PassView) (os : List Hand) (n : ℕ) (o new : Hand) → n < length os → o ≡ get_or os n o → views_of os ≡ gripped n vs
    → length vs ≡ length os → own_view new ≡ after_grip (own_view o)
    → views_of (set os n new) ≡ gripped (n + 1) vs
grip_step vs os n o new lt is e len w =
    put_owner os n o new after_grip lt is w
    ∙ ap (λ l. set l n (after_grip (get_or l n (own_view o)))) e
    ∙ ap (λ u. set (gripped n vs) n (after_grip u)) (gripped_here n vs (own_view o))
    ∙ gripped_more n vs (own_view o) (omega arith)
    ∙ (let s : suc n ≡ n + 1 = omega arith in ap (λ (k : ℕ). gripped k vs) s)

pub gripped_view : (vs : List PassView) (os : List Hand) (n : ℕ) (o : Hand) → n < length os → o ≡ get_or os n o → views_of os ≡ gripped n vs → own_view o ≡ get_or vs n (own_view o)
gripped_view vs os n o lt is e = view_here os n o (own_view o) lt is ∙ ap (λ l. get_or l n (own_view o)) e ∙ gripped_here n vs (own_view o)

pub joined_view : (vs : List PassView) (os : List Hand) (ys : List Grip) (n : ℕ) (o : Hand) → n ≡ length ys → n < length os → o ≡ get_or os n o
    → views_of os ≡ joined vs ys → own_view o ≡ get_or vs n (own_view o)
joined_view vs os ys n o len lt is e = view_here os n o (own_view o) lt is ∙ ap (λ l. get_or l n (own_view o)) e
    ∙ ap (λ (k : ℕ). get_or (joined vs ys) k (own_view o)) len ∙ joined_here vs ys (own_view o) ∙ ap (λ (k : ℕ). get_or vs k (own_view o)) (sym len)

pub join_step : (vs : List PassView) (os : List Hand) (ys : List Grip) (g : Grip) (n : ℕ) (o new : Hand) → n ≡ length ys → n < length os
    → length vs ≡ length os → o ≡ get_or os n o → views_of os ≡ joined vs ys
    → own_view new ≡ after_join (own_view o) (grip_view g) → views_of (set os n new) ≡ joined vs (ys ++ g ∷ [])
join_step vs os ys g n o new len lt lens is e w =
    put_owner os n o new (λ v. after_join v (grip_view g)) lt is w
    ∙ ap (λ l. set l n (after_join (get_or l n (own_view o)) (grip_view g))) e
    ∙ ap (λ (k : ℕ). set (joined vs ys) k (after_join (get_or (joined vs ys) k (own_view o)) (grip_view g))) len
    ∙ ap (λ u. set (joined vs ys) (length ys) (after_join u (grip_view g))) (joined_here vs ys (own_view o))
    ∙ joined_more vs ys g (own_view o) (omega (arith, len))

-- the grip that comes next is for the owner at its place
pub same_deque : {A B C : Type 0} (f : A → C) (h : B → C) (xs ys : List A) (x : A) (os : List B) (n : ℕ) (o : B) → n ≡ length xs → n < length os → o ≡ get_or os n o
    → map f (xs ++ x ∷ ys) ≡ map h os → f x ≡ h o
same_deque f h xs ys x os n o len lt is e =
    sym (there xs) ∙ ap (λ (k : ℕ). get_or (map f (xs ++ x ∷ ys)) k (h o)) (sym len) ∙ ap (λ l. get_or l n (h o)) e ∙ get_or-map h os n o (h o) lt ∙ ap h (sym is)
  where
    there : (xs : List _) → get_or (map f (xs ++ x ∷ ys)) (length xs) (h o) ≡ f x
    there [] = refl
    there (y ∷ zs) = there zs

pub next_place : {A B C : Type 0} (f : A → C) (h : B → C) (xs ys : List A) (x : A) (os : List B) (n : ℕ) → n ≡ length xs → map f (xs ++ x ∷ ys) ≡ map h os → n < length os
next_place f h xs ys x os n len e =
    let a : length (map f (xs ++ x ∷ ys)) ≡ length (map h os) = ap length e in
    omega (arith, length-map (xs ++ x ∷ ys) f, length-map os h, length-append xs (x ∷ ys))

pub map_take_next : {A B : Type 0} (f : A → B) (gs : List A) (g : A) (xs : List B) (n : ℕ) (d : B) → n < length xs → map f gs ≡ take n xs
    → f g ≡ get_or xs n d → map f (gs ++ g ∷ []) ≡ take (n + 1) xs
map_take_next f gs g xs n d lt e is = map-append f gs (g ∷ []) ∙ ap (λ l. l ++ f g ∷ []) e ∙ ap (λ b. take n xs ++ b ∷ []) is ∙ sym (take_more xs n d lt)

pub all_snoc : {A : Type 0} (P : A → Type 0) (xs : List A) (x : A) → All P xs → P x → All P (xs ++ x ∷ [])
all_snoc P xs x h p = All-append P xs (x ∷ []) h (All-cons P x [] p (All-nil P))

pub lens_of : {D : Type 0} (f : Grip → D) (h : Hand → D) (os : List Hand) (hs : List Hand) → All (λ k. map f k.grips.items ≡ map h os) hs
    → All (λ k. length k.grips.items ≡ length (views_of os)) hs
lens_of f h os hs all i d lt =
    let e : map f (get_or hs i d).grips.items ≡ map h os = all i d lt in
    let a : length (map f (get_or hs i d).grips.items) ≡ length (map h os) = ap length e in
    omega (arith, length-map (get_or hs i d).grips.items f, length-map os h, length-map os own_view)

pub learnt_more : (vs : List PassView) (n : ℕ) (v : PassView) → v ≡ get_or vs n v → n < length vs → ((x : ℕ) → times x v.dealt ≡ times x v.took)
    → ((j : ℕ) (d : PassView) (x : ℕ) → j < n → times x (get_or vs j d).dealt ≡ times x (get_or vs j d).took)
    → (j : ℕ) (d : PassView) (x : ℕ) → j < n + 1 → times x (get_or vs j d).dealt ≡ times x (get_or vs j d).took
learnt_more vs n v is lt e h j d x jlt = dite (ℕ_discrete j n)
    (λ (same : j ≡ n). subst (λ (k : ℕ). times x (get_or vs k d).dealt ≡ times x (get_or vs k d).took) (sym same)
    (subst (λ (u : PassView). times x u.dealt ≡ times x u.took) (is ∙ get_or_default vs n v d lt) (e x)))
    (λ (ne : j ≢ n). h j d x (by_lt j n jlt ne))
  where
    by_lt : (j n : ℕ) → j < n + 1 → j ≢ n → j < n
    by_lt j n lt ne = ⊎_elim (λ (a : j < n). a) (λ (b : n ≤ j). absurd (ne (omega arith))) (cases_lt j n)
