-- Posts of two seats, merged by their places.
use Rattle.std.proofs.Common.{nat_lt, ◌≡◌, ◌≢◌, ◌+◌, ◌<◌, ◌≤◌, ◌==◌, ℕ, suc, Bool, true, false, List, [], ◌∷◌, Some, refl, sym, ap, subst, ⊎_elim, arith, zero-add}
use Rattle.std.proofs.lemmas.Bool.{cases_lt}
use Rattle.std.proofs.lemmas.List.Kept.{AllPairs-cons}
use Rattle.std.proofs.lemmas.Bool.Decides.{nat_tests}
use Rattle.std.specs.Prelude.{if◌then◌else◌, slice_get}
use Rattle.dpl_board.specs.declared.entry.Entry.{Entry}
use Rattle.std.proofs.lemmas.List.Elements.{All-head, All-tail, All-cons, All-nil}
use Rattle.std.specs.List.{All, AllPairs}
use Rattle.dpl_turn.specs.Rule.{AreEntries, posts_at, merged, placed}
use Rattle.dpl_turn.proofs.Views.{ByPlace}

-- posts of two seats, by place
by_test : (b : Bool) (P : Type 0) → (b ≡ true → P) → (b ≡ false → P) → P
by_test true P f g = f refl
by_test false P f g = g refl

posts_placed : (p : ℕ) (x : ℕ × Entry) (ys : List (ℕ × Entry)) → posts_at p (placed x ys) ≡ (if x.0 == p then 1 else 0) + posts_at p ys
posts_placed p x [] = refl
posts_placed p x (y ∷ ys) = by_test (nat_lt x.0 y.0) (posts_at p (placed x (y ∷ ys)) ≡ (if x.0 == p then 1 else 0) + posts_at p (y ∷ ys))
    (λ is. let e : placed x (y ∷ ys) ≡ x ∷ y ∷ ys = rw is refl in ap (posts_at p) e)
    (λ is. let e : placed x (y ∷ ys) ≡ y ∷ placed x ys = rw is refl in let r = posts_placed p x ys in
    let q : posts_at p (placed x (y ∷ ys)) ≡ (if y.0 == p then 1 else 0) + posts_at p (placed x ys) = ap (posts_at p) e in omega arith)

pub posts_merged : (p : ℕ) (xs ys : List (ℕ × Entry)) → posts_at p (merged xs ys) ≡ posts_at p xs + posts_at p ys
posts_merged p [] ys = sym (zero-add (posts_at p ys))
posts_merged p (x ∷ xs) ys = let r = posts_merged p xs ys in let q = posts_placed p x (merged xs ys) in omega arith

entries_placed : (history : List Entry) (x : ℕ × Entry) (ys : List (ℕ × Entry)) → slice_get history x.0 ≡ Some x.1 → AreEntries history ys → AreEntries history (placed x ys)
entries_placed history x [] e h = (e, tt)
entries_placed history x (y ∷ ys) e h = by_test (nat_lt x.0 y.0) (AreEntries history (placed x (y ∷ ys)))
    (λ is. let p : placed x (y ∷ ys) ≡ x ∷ y ∷ ys = rw is refl in subst (AreEntries history) (sym p) (e, h))
    (λ is. let p : placed x (y ∷ ys) ≡ y ∷ placed x ys = rw is refl in subst (AreEntries history) (sym p) (h.0, entries_placed history x ys e h.1))

pub entries_merged : (history : List Entry) (xs ys : List (ℕ × Entry)) → AreEntries history xs → AreEntries history ys → AreEntries history (merged xs ys)
entries_merged history [] ys h k = k
entries_merged history (x ∷ xs) ys h k = entries_placed history x (merged xs ys) h.0 (entries_merged history xs ys h.1 k)

all_placed : (P : ℕ × Entry → Type 0) (x : ℕ × Entry) (ys : List (ℕ × Entry)) → P x → All P ys → All P (placed x ys)
all_placed P x [] p h = All-cons P x [] p h
all_placed P x (y ∷ ys) p h = by_test (nat_lt x.0 y.0) (All P (placed x (y ∷ ys)))
    (λ is. let e : placed x (y ∷ ys) ≡ x ∷ y ∷ ys = rw is refl in subst (All P) (sym e) (All-cons P x (y ∷ ys) p h))
    (λ is. let e : placed x (y ∷ ys) ≡ y ∷ placed x ys = rw is refl in
    subst (All P) (sym e) (All-cons P y (placed x ys) (All-head P y ys h) (all_placed P x ys p (All-tail P y ys h))))

all_merged : (P : ℕ × Entry → Type 0) (xs ys : List (ℕ × Entry)) → All P xs → All P ys → All P (merged xs ys)
all_merged P [] ys h k = k
all_merged P (x ∷ xs) ys h k = all_placed P x (merged xs ys) (All-head P x xs h) (all_merged P xs ys (All-tail P x xs h) k)

head_rises : (x : ℕ × Entry) (xs : List (ℕ × Entry)) → AllPairs ByPlace (x ∷ xs) → All (ByPlace x) xs
head_rises x xs h k d lt = h 0 (suc k) d (omega arith) (omega arith)

tail_rises : (x : ℕ × Entry) (xs : List (ℕ × Entry)) → AllPairs ByPlace (x ∷ xs) → AllPairs ByPlace xs
tail_rises x xs h i j d lt ltj = h (suc i) (suc j) d (omega arith) (omega arith)

all_after : (x y : ℕ × Entry) (ys : List (ℕ × Entry)) → x.0 < y.0 → All (ByPlace y) ys → All (ByPlace x) ys
all_after x y ys lt h k d klt = let r = h k d klt in omega arith

below_of : (a b : ℕ) → a ≤ b → a ≢ b → a < b
below_of a b le ne = ⊎_elim (λ (k : a < b). k) (λ (k : b ≤ a). absurd (ne (omega arith))) (cases_lt a b)

rising_placed : (x : ℕ × Entry) (ys : List (ℕ × Entry)) → All (λ (y : ℕ × Entry). y.0 ≢ x.0) ys → AllPairs ByPlace ys → AllPairs ByPlace (placed x ys)
rising_placed x [] apart h = AllPairs-cons ByPlace x [] (All-nil (ByPlace x)) h
rising_placed x (y ∷ ys) apart h = by_test (nat_lt x.0 y.0) (AllPairs ByPlace (placed x (y ∷ ys)))
    (λ is. let e : placed x (y ∷ ys) ≡ x ∷ y ∷ ys = rw is refl in let lt : x.0 < y.0 = grind (arith, nat_tests) in
    subst (AllPairs ByPlace) (sym e) (AllPairs-cons ByPlace x (y ∷ ys) (All-cons (ByPlace x) y ys lt (all_after x y ys lt (head_rises y ys h))) h))
    (λ is. let e : placed x (y ∷ ys) ≡ y ∷ placed x ys = rw is refl in
    let ne : y.0 ≢ x.0 = All-head (λ (z : ℕ × Entry). z.0 ≢ x.0) y ys apart in
    let le : y.0 ≤ x.0 = grind (arith, nat_tests) in
    let lt = below_of y.0 x.0 le ne in
    subst (AllPairs ByPlace) (sym e) (AllPairs-cons ByPlace y (placed x ys) (all_placed (ByPlace y) x ys lt (head_rises y ys h))
    (rising_placed x ys (All-tail (λ (z : ℕ × Entry). z.0 ≢ x.0) y ys apart) (tail_rises y ys h))))

none_at : (p : ℕ) (l : List (ℕ × Entry)) → posts_at p l ≡ 0 → All (λ (y : ℕ × Entry). y.0 ≢ p) l
none_at p [] e = All-nil (λ (y : ℕ × Entry). y.0 ≢ p)
none_at p (x ∷ xs) e = All-cons (λ (y : ℕ × Entry). y.0 ≢ p) x xs
    (λ (s : x.0 ≡ p). absurd (let t : (x.0 == p) ≡ true = grind (arith, nat_tests) in let q : posts_at p (x ∷ xs) ≡ 1 + posts_at p xs = rw t refl in omega arith))
    (none_at p xs (omega arith))

pub rising_merged : (xs ys : List (ℕ × Entry)) → ((p : ℕ) → posts_at p xs + posts_at p ys ≤ 1) → AllPairs ByPlace ys → AllPairs ByPlace (merged xs ys)
rising_merged [] ys few h = h
rising_merged (x ∷ xs) ys few h =
    let one = few x.0 in
    let t : (x.0 == x.0) ≡ true = grind (arith, nat_tests) in
    let q : posts_at x.0 (x ∷ xs) ≡ 1 + posts_at x.0 xs = rw t refl in
    rising_placed x (merged xs ys) (all_merged (λ (y : ℕ × Entry). y.0 ≢ x.0) xs ys (none_at x.0 xs (omega arith))
    (none_at x.0 ys (omega arith))) (rising_merged xs ys (λ p. let f = few p in omega arith) h)
