-- What a change of one seat's view leaves of all views and their posts.
use Rattle.std.proofs.Common.{◌≡◌, ◌≢◌, ◌∙◌, ◌+◌, ◌<◌, ℕ, zero, suc, true, false, List, [], ◌∷◌, ◌++◌, length, set, refl, sym, ap, ⊎_elim, arith}
use mathlib.Core.Option.{some, some-ne-none, some-injective}
use lib.ListN.{get_elem?}
use Rattle.atomic_table.proofs.Lists.{at_set}
use Rattle.dpl_turn.specs.declared.view.SeatView.{SeatView}
use Rattle.dpl_board.specs.declared.entry.Entry.{Entry}
use Rattle.dpl_board.specs.Sheets.{Sheet}
use Rattle.std.specs.List.{AllPairs}
use Rattle.dpl_turn.specs.Rule.{HaveOne, all_posts_at, posts_at}

pub off : false ≡ true → ⊥
off e = cc

pub in_range : {A : Type 0} (l : List A) (i : ℕ) (a : A) → get_elem? l i ≡ some a → i < length l
in_range [] i a e = absurd (some-ne-none a (sym e))
in_range (x ∷ xs) zero a e = omega arith
in_range (x ∷ xs) (suc i) a e = let r = in_range xs i a e in omega arith

-- by rising places
abbrev pub ByPlace : ℕ × Entry → ℕ × Entry → Type 0
ByPlace a b = a.0 < b.0

pub none_rise : AllPairs ByPlace []
none_rise i j d lt ltj = absurd (omega arith)

-- one more view adds its posts
pub posts_more : (p : ℕ) (vs : List SeatView) (w : SeatView) → all_posts_at p (vs ++ w ∷ []) ≡ all_posts_at p vs + posts_at p w.own
posts_more p [] w = omega arith
posts_more p (v ∷ vs) w = let r = posts_more p vs w in omega arith

-- a view that keeps its posts changes nothing of them
pub posts_set : (p : ℕ) (vs : List SeatView) (i : ℕ) (v w : SeatView) → get_elem? vs i ≡ some v → w.own ≡ v.own → all_posts_at p (set vs i w) ≡ all_posts_at p vs
posts_set p [] i v w e same = refl
posts_set p (x ∷ xs) zero v w e same = ap (λ (l : List (ℕ × Entry)). posts_at p l + all_posts_at p xs) (same ∙ sym (ap (λ (u : SeatView). u.own) (some-injective x v e)))
posts_set p (x ∷ xs) (suc i) v w e same = ap (λ (n : ℕ). posts_at p x.own + n) (posts_set p xs i v w e same)

-- the posts before and after a change of one view
pub posts_swap : (p : ℕ) (vs : List SeatView) (i : ℕ) (v w : SeatView) → get_elem? vs i ≡ some v
    → all_posts_at p (set vs i w) + posts_at p v.own ≡ all_posts_at p vs + posts_at p w.own
posts_swap p [] i v w e = absurd (some-ne-none v (sym e))
posts_swap p (x ∷ xs) zero v w e = let same : posts_at p x.own ≡ posts_at p v.own = ap (λ (u : SeatView). posts_at p u.own) (some-injective x v e) in omega arith
posts_swap p (x ∷ xs) (suc i) v w e = let r = posts_swap p xs i v w e in omega arith

pub one_set : (sheet : Sheet) (workers : ℕ) (views : List SeatView) (id : ℕ) (v w : SeatView) → get_elem? views id ≡ some v
    → w.sheet ≡ v.sheet → w.workers ≡ v.workers → w.spent ≡ v.spent → HaveOne sheet workers views → HaveOne sheet workers (set views id w)
one_set sheet workers views id v w at a b c h i u e un = ⊎_elim
    (λ (x : (i ≡ id) × (w ≡ u)). let k = h id v at (sym c ∙ ap (λ (y : SeatView). y.spent) x.1 ∙ un) in
    (ap (λ (y : SeatView). y.sheet) (sym x.1) ∙ a ∙ k.0, ap (λ (y : SeatView). y.workers) (sym x.1) ∙ b ∙ k.1))
    (λ (x : (i ≢ id) × (get_elem? views i ≡ some u)). h i u x.1 un)
    (at_set views id i w u e)
