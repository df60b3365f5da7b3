-- Each step keeps the rule.
use Rattle.std.proofs.Common.{◌≡◌, ◌≢◌, ◌∙◌, ◌+◌, ◌<◌, ◌≤◌, ◌==◌, ◌||◌, ℕ, zero, suc, Bool, true, false, List, [], ◌∷◌, ◌++◌, set, refl}
use Rattle.std.proofs.Common.{sym, ap, ⊎_elim, arith, add_assoc, zero-add}
use Rattle.std.specs.Prelude.{if◌then◌else◌}
use Rattle.std.proofs.lemmas.Bool.Decides.{nat_tests}
use Rattle.std.proofs.lemmas.Bool.{cases_lt}
use mathlib.Core.Option.{some, some-ne-none, some-injective}
use lib.ListN.{get_elem?}
use Rattle.crossbeam_deque.specs.Tasks.{Pushes, Takes, Finds, FindsFew, Forks, Merges, Learns}
use Rattle.crossbeam_deque.proofs.Lists.{at_set, at_snoc, set_else}
use Rattle.dpl_deal.specs.declared.view.PassView.{PassView}
use Rattle.dpl_deal.specs.declared.view.DequeItem.{DequeItem}
use Rattle.dpl_deal.specs.declared.view.DequeItem.TheVariants.{Tile, End}
use Rattle.dpl_deal.specs.Rule.{AreBelow, IsKept, IsSealedRow, after_cut, after_deal, after_join, after_seal, after_takes, bystander}
use Rattle.dpl_deal.specs.Rule.{cut_off, dealer, has_end, marks_in, tiles_in, times, total}

total_set : (f : PassView → ℕ) (views : List PassView) (port : ℕ) (v w : PassView) → get_elem? views port ≡ some v → total f (set views port w) + f v ≡ total f views + f w
total_set f [] port v w e = absurd (some-ne-none v (sym e))
total_set f (x ∷ xs) zero v w e = let same : f x ≡ f v = ap f (some-injective x v e) in omega arith
total_set f (x ∷ xs) (suc port) v w e = let r = total_set f xs port v w e in omega arith

total_snoc : (f : PassView → ℕ) (views : List PassView) (w : PassView) → total f (views ++ w ∷ []) ≡ total f views + f w
total_snoc f [] w = omega arith
total_snoc f (x ∷ xs) w = let r = total_snoc f xs w in omega arith

total_at : (f : PassView → ℕ) (views : List PassView) (port : ℕ) (v : PassView) → get_elem? views port ≡ some v → f v ≤ total f views
total_at f [] port v e = absurd (some-ne-none v (sym e))
total_at f (x ∷ xs) zero v e = let same : f x ≡ f v = ap f (some-injective x v e) in omega arith
total_at f (x ∷ xs) (suc port) v e = let r = total_at f xs port v e in omega arith

-- where all have no part, nothing is counted
total_idle : (f : PassView → ℕ) → f bystander ≡ 0 → (views : List PassView) → ((port : ℕ) (v : PassView) → get_elem? views port ≡ some v → v ≡ bystander) → total f views ≡ 0
total_idle f none [] all = refl
total_idle f none (x ∷ xs) all =
    let r = total_idle f none xs (λ j u e. all (suc j) u e) in let here : f x ≡ 0 = ap f (all 0 x refl) ∙ none in omega arith

-- who has all parts counts for all
alone : (f : PassView → ℕ) → f bystander ≡ 0 → (views : List PassView) (port : ℕ) (v : PassView) → get_elem? views port ≡ some v → total (λ u. u.parts) views ≡ v.parts
    → ((j : ℕ) (u : PassView) → get_elem? views j ≡ some u → u.parts ≡ 0 → u ≡ bystander) → total f views ≡ f v
alone f none [] port v e all idle = absurd (some-ne-none v (sym e))
alone f none (x ∷ xs) zero v e all idle =
    let same : x ≡ v = some-injective x v e in
    let parts : x.parts ≡ v.parts = ap (λ (u : PassView). u.parts) same in
    let rest : total (λ u. u.parts) xs ≡ 0 = omega arith in
    let zeros = total_idle f none xs (λ j u a. idle (suc j) u a (let t = total_at (λ u. u.parts) xs j u a in omega arith)) in
    let here : f x ≡ f v = ap f same in omega arith
alone f none (x ∷ xs) (suc port) v e all idle =
    let t = total_at (λ u. u.parts) xs port v e in
    let gone : f x ≡ 0 = ap f (idle 0 x refl (omega arith)) ∙ none in
    let r = alone f none xs port v e (omega arith) (λ j u a p. idle (suc j) u a p) in omega arith

pub times-append : (x : ℕ) (xs ys : List ℕ) → times x (xs ++ ys) ≡ times x xs + times x ys
times-append x [] ys = sym (zero-add (times x ys))
times-append x (y ∷ xs) ys = ap (λ (n : ℕ). (if y == x then 1 else 0) + n) (times-append x xs ys) ∙ sym (add_assoc (if y == x then 1 else 0) (times x xs) (times x ys))

times_here : (x : ℕ) (xs : List ℕ) → 0 < times x (x ∷ xs)
times_here x xs = let e : (x == x) ≡ true = grind (arith, nat_tests) in rw e (omega arith)

times_other : (x t : ℕ) → suc t ≤ x → times x (t ∷ []) ≡ 0
times_other x t le = let e : (t == x) ≡ false = grind (arith, nat_tests) in rw e refl

tiles-append : (xs ys : List DequeItem) → tiles_in (xs ++ ys) ≡ tiles_in xs ++ tiles_in ys
tiles-append [] ys = refl
tiles-append (Tile t ∷ xs) ys = ap (λ (l : List ℕ). t ∷ l) (tiles-append xs ys)
tiles-append (End ∷ xs) ys = tiles-append xs ys

marks-append : (xs ys : List DequeItem) → marks_in (xs ++ ys) ≡ marks_in xs + marks_in ys
marks-append [] ys = sym (zero-add (marks_in ys))
marks-append (Tile t ∷ xs) ys = marks-append xs ys
marks-append (End ∷ xs) ys = let r = marks-append xs ys in omega arith

-- a row without marks may go on by a tile
open_row : (t : ℕ) (items : List DequeItem) → marks_in items ≡ 0 → IsSealedRow (items ++ Tile t ∷ [])
open_row t [] e = tt
open_row t (Tile s ∷ xs) e = open_row t xs e
open_row t (End ∷ xs) e = absurd (omega arith)

-- and any row by a mark
marked_row : (items : List DequeItem) → IsSealedRow items → IsSealedRow (items ++ End ∷ [])
marked_row [] h = refl
marked_row (Tile s ∷ xs) h = marked_row xs h
marked_row (End ∷ xs) h = tiles-append xs (End ∷ []) ∙ ap (λ (l : List ℕ). l ++ []) h

tiles_marked : (items : List DequeItem) → tiles_in items ≡ [] → tiles_in (items ++ End ∷ []) ≡ []
tiles_marked items e = tiles-append items (End ∷ []) ∙ ap (λ (l : List ℕ). l ++ []) e

sealed : (items : List DequeItem) → tiles_in items ≡ [] → IsSealedRow items
sealed [] e = tt
sealed (Tile t ∷ xs) e = absurd (cc)
sealed (End ∷ xs) e = e

rest_sealed : (x : DequeItem) (items : List DequeItem) → IsSealedRow (x ∷ items) → IsSealedRow items
rest_sealed (Tile t) items h = h
rest_sealed End items h = sealed items h

-- where no tile lies with the first task, none lies without it
rest_empty : (x : DequeItem) (items : List DequeItem) → tiles_in (x ∷ items) ≡ [] → tiles_in items ≡ []
rest_empty (Tile t) items e = absurd (cc)
rest_empty End items e = e

-- who takes a task and has noted the end then
found_end : (x : DequeItem) (items : List DequeItem) (b : Bool) → IsSealedRow (x ∷ items) → (b ≡ true → tiles_in (x ∷ items) ≡ []) → (b || has_end (x ∷ [])) ≡ true → tiles_in items ≡ []
found_end (Tile t) items true row known is = rest_empty (Tile t) items (known refl)
found_end (Tile t) items false row known is = absurd (cc)
found_end End items b row known is = row

of_one : (x : DequeItem) (items : List DequeItem) (y : ℕ) → times y (tiles_in (x ∷ items)) ≡ times y (tiles_in (x ∷ [])) + times y (tiles_in items)
of_one (Tile t) items y = omega arith
of_one End items y = omega arith

mark_of_one : (x : DequeItem) (items : List DequeItem) → marks_in (x ∷ items) ≡ marks_in (x ∷ []) + marks_in items
mark_of_one (Tile t) items = omega arith
mark_of_one End items = omega arith

one_mark : (x : DequeItem) → marks_in (x ∷ []) ≤ 1
one_mark (Tile t) = omega arith
one_mark End = omega arith

pub begins : IsKept [] (dealer ∷ [])
begins = record {
  parts = refl;
  idle = λ j v e p. one j v e p;
  each = λ x. refl;
  below = λ j v e p x le. refl;
  marks = refl;
  row = tt;
  ended = λ j v e on. refl;
}
  where
    one : (j : ℕ) (v : PassView) → get_elem? (dealer ∷ []) j ≡ some v → v.parts ≡ 0 → v ≡ bystander
    one zero v e p = let q : dealer.parts ≡ v.parts = ap (λ (u : PassView). u.parts) (some-injective dealer v e) in absurd (omega arith)
    one (suc j) v e p = absurd (some-ne-none v (sym e))

-- who has all parts deals a tile
pub deals : (port : ℕ) (v : PassView) (t : ℕ) → v.parts ≡ 1024 → v.due ≡ 0 → v.ended ≡ false → v.limit ≤ suc t
    → Pushes IsKept port v (Tile t ∷ []) (λ w. (s : ℕ) × (tiles_in (Tile t ∷ []) ≡ s ∷ []) × (w ≡ after_deal v s))
deals port v t all none open_yet rising items views h at =
    let w = after_deal v t in
    let whole : total (λ u. u.parts) views ≡ v.parts = omega (arith, h.parts) in
    let no_marks : marks_in items ≡ 0 = sym h.marks ∙ alone (λ u. u.due) refl views port v at whole h.idle ∙ none in
    let idle_else : (j : ℕ) (u : PassView) → j ≢ port → get_elem? views j ≡ some u → u ≡ bystander = λ j u n e.
    h.idle j u e (let s = total_set (λ y. y.parts) views port v bystander at in
    let k = total_at (λ y. y.parts) (set views port bystander) j u (set_else views port j bystander n ∙ e) in
    let z : bystander.parts ≡ 0 = refl in omega (arith, h.parts)) in (
      w,
      record {
        parts = (let s = total_set (λ u. u.parts) views port v w at in omega (arith, h.parts));
        idle = λ j u e p. ⊎_elim
            (λ (s : (j ≡ port) × (w ≡ u)). absurd (let q : w.parts ≡ u.parts = ap (λ (y : PassView). y.parts) s.1 in omega arith))
            (λ (s : (j ≢ port) × (get_elem? views j ≡ some u)). h.idle j u s.1 p)
            (at_set views port j w u e);
        each = λ x.
            let d = total_set (λ u. times x u.dealt) views port v w at in
            let k = total_set (λ u. times x u.took) views port v w at in
            let e = h.each x in
            omega (arith, times-append x v.dealt (t ∷ []), times-append x (tiles_in items) (t ∷ []), ap (times x) (tiles-append items (Tile t ∷ [])));
        below = λ j u e p. ⊎_elim
            (λ (s : (j ≡ port) × (w ≡ u)) (x : ℕ) (le : u.limit ≤ x).
            let q : w.limit ≡ u.limit = ap (λ (y : PassView). y.limit) s.1 in
            let b = h.below port v at (omega arith) x (omega arith) in
            omega (arith, times-append x (tiles_in items) (t ∷ []), ap (times x) (tiles-append items (Tile t ∷ [])), times_other x t (omega arith)))
            (λ (s : (j ≢ port) × (get_elem? views j ≡ some u)) (x : ℕ) (le : u.limit ≤ x).
            absurd (let q : u.parts ≡ 0 = ap (λ (y : PassView). y.parts) (idle_else j u s.0 s.1) in omega arith))
            (at_set views port j w u e);
        marks = (let s = total_set (λ u. u.due) views port v w at in omega (arith, h.marks, marks-append items (Tile t ∷ [])));
        row = open_row t items no_marks;
        ended = λ j u e on. ⊎_elim
            (λ (s : (j ≡ port) × (w ≡ u)). absurd (let q : w.ended ≡ u.ended = ap (λ (y : PassView). y.ended) s.1 in cc))
            (λ (s : (j ≢ port) × (get_elem? views j ≡ some u)). absurd (let q : u.ended ≡ false = ap (λ (y : PassView). y.ended) (idle_else j u s.0 s.1) in cc))
            (at_set views port j w u e);
      },
      (t, refl, refl),
    )

-- a mark is laid
pub seals : (port : ℕ) (v : PassView) → 0 < v.parts → Pushes IsKept port v (End ∷ []) (λ w. w ≡ after_seal v)
seals port v some_part items views h at =
    let w = after_seal v in (
      w,
      record {
        parts = (let s = total_set (λ u. u.parts) views port v w at in omega (arith, h.parts));
        idle = λ j u e p. ⊎_elim
            (λ (s : (j ≡ port) × (w ≡ u)). absurd (let q : w.parts ≡ u.parts = ap (λ (y : PassView). y.parts) s.1 in omega arith))
            (λ (s : (j ≢ port) × (get_elem? views j ≡ some u)). h.idle j u s.1 p)
            (at_set views port j w u e);
        each = λ x.
            let d = total_set (λ u. times x u.dealt) views port v w at in
            let k = total_set (λ u. times x u.took) views port v w at in
            let e = h.each x in
            omega (arith, times-append x (tiles_in items) [], ap (times x) (tiles-append items (End ∷ [])));
        below = λ j u e p. ⊎_elim
            (λ (s : (j ≡ port) × (w ≡ u)) (x : ℕ) (le : u.limit ≤ x).
            let q : w.limit ≡ u.limit = ap (λ (y : PassView). y.limit) s.1 in
            let b = h.below port v at some_part x (omega arith) in
            omega (arith, times-append x (tiles_in items) [], ap (times x) (tiles-append items (End ∷ []))))
            (λ (s : (j ≢ port) × (get_elem? views j ≡ some u)) (x : ℕ) (le : u.limit ≤ x).
            let b = h.below j u s.1 p x le in
            omega (arith, times-append x (tiles_in items) [], ap (times x) (tiles-append items (End ∷ []))))
            (at_set views port j w u e);
        marks = (let s = total_set (λ u. u.due) views port v w at in omega (arith, h.marks, marks-append items (End ∷ [])));
        row = marked_row items h.row;
        ended = λ j u e on. tiles_marked items (⊎_elim
            (λ (s : (j ≡ port) × (w ≡ u)). h.ended port v at (ap (λ (y : PassView). y.ended) s.1 ∙ on))
            (λ (s : (j ≢ port) × (get_elem? views j ≡ some u)). h.ended j u s.1 on)
            (at_set views port j w u e));
      },
      refl,
    )

one_taken : (port : ℕ) (v : PassView) (x : DequeItem) (items : List DequeItem) (views : List PassView) → 0 < v.parts → 0 < v.due
    → IsKept (x ∷ items) views → get_elem? views port ≡ some v → IsKept items (set views port (after_takes v (x ∷ [])))
one_taken port v x items views some_part due h at =
    let w = after_takes v (x ∷ []) in record {
      parts = (let s = total_set (λ u. u.parts) views port v w at in omega (arith, h.parts));
      idle = λ j u e p. ⊎_elim
          (λ (s : (j ≡ port) × (w ≡ u)). absurd (let q : w.parts ≡ u.parts = ap (λ (y : PassView). y.parts) s.1 in omega arith))
          (λ (s : (j ≢ port) × (get_elem? views j ≡ some u)). h.idle j u s.1 p)
          (at_set views port j w u e);
      each = λ y.
          let d = total_set (λ u. times y u.dealt) views port v w at in
          let t = total_set (λ u. times y u.took) views port v w at in
          let e = h.each y in
          omega (arith, times-append y v.took (tiles_in (x ∷ [])), of_one x items y);
      below = λ j u e p. ⊎_elim
          (λ (s : (j ≡ port) × (w ≡ u)) (y : ℕ) (le : u.limit ≤ y).
          let q : w.limit ≡ u.limit = ap (λ (z : PassView). z.limit) s.1 in
          let b = h.below port v at some_part y (omega arith) in omega (arith, of_one x items y))
          (λ (s : (j ≢ port) × (get_elem? views j ≡ some u)) (y : ℕ) (le : u.limit ≤ y).
          let b = h.below j u s.1 p y le in omega (arith, of_one x items y))
          (at_set views port j w u e);
      marks = (let s = total_set (λ u. u.due) views port v w at in omega (arith, h.marks, mark_of_one x items, one_mark x));
      row = rest_sealed x items h.row;
      ended = λ j u e on. ⊎_elim
          (λ (s : (j ≡ port) × (w ≡ u)). found_end x items v.ended h.row (h.ended port v at) (ap (λ (z : PassView). z.ended) s.1 ∙ on))
          (λ (s : (j ≢ port) × (get_elem? views j ≡ some u)). rest_empty x items (h.ended j u s.1 on))
          (at_set views port j w u e);
    }

pub takes : (port : ℕ) (v : PassView) → 0 < v.parts → 0 < v.due → Takes IsKept port v 1 (λ xs w. (w ≡ after_takes v xs) × AreBelow v.limit xs)
takes port v some_part due [] items views some_left one h at = absurd (omega arith)
takes port v some_part due (x ∷ []) items views some_left one h at = (
  after_takes v (x ∷ []),
  one_taken port v x items views some_part due h at,
  (refl, λ y le. let b = h.below port v at some_part y le in omega (arith, of_one x items y)),
)
takes port v some_part due (x ∷ y ∷ zs) items views some_left one h at = absurd (omega arith)

-- where a deque is empty, no mark is due to anyone
pub finds : (port : ℕ) (v : PassView) → Finds IsKept port v (v.due ≡ 0)
finds port v views h at = let t = total_at (λ u. u.due) views port v at in omega (arith, h.marks)

pub finds_few : (port : ℕ) (v : PassView) → FindsFew IsKept 0 port v (v.due ≡ 0)
finds_few port v [] views few h at = finds port v views h at
finds_few port v (x ∷ xs) views few h at = absurd (omega arith)

pub cuts : (port : ℕ) (v : PassView) → 1 < v.parts → 0 < v.due → Forks IsKept port v (after_cut v) (cut_off v)
cuts port v two due items views h at =
    let l = after_cut v in let r = cut_off v in let vs = set views port l in record {
      parts = (let s = total_set (λ u. u.parts) views port v l at in omega (arith, h.parts, total_snoc (λ u. u.parts) vs r));
      idle = λ j u e p. ⊎_elim
          (λ (a : get_elem? vs j ≡ some u). ⊎_elim
          (λ (s : (j ≡ port) × (l ≡ u)). absurd (let q : l.parts ≡ u.parts = ap (λ (y : PassView). y.parts) s.1 in omega arith))
          (λ (s : (j ≢ port) × (get_elem? views j ≡ some u)). h.idle j u s.1 p)
          (at_set views port j l u a))
          (λ (s : r ≡ u). absurd (let q : r.parts ≡ u.parts = ap (λ (y : PassView). y.parts) s in omega arith))
          (at_snoc vs r u j e);
      each = λ x.
          let d = total_set (λ u. times x u.dealt) views port v l at in
          let t = total_set (λ u. times x u.took) views port v l at in
          let e = h.each x in
          omega (arith, total_snoc (λ u. times x u.dealt) vs r, total_snoc (λ u. times x u.took) vs r);
      below = λ j u e p. ⊎_elim
          (λ (a : get_elem? vs j ≡ some u). ⊎_elim
          (λ (s : (j ≡ port) × (l ≡ u)) (y : ℕ) (le : u.limit ≤ y). let q : l.limit ≡ u.limit = ap (λ (z : PassView). z.limit) s.1 in h.below port v at (omega arith) y (omega arith))
          (λ (s : (j ≢ port) × (get_elem? views j ≡ some u)). h.below j u s.1 p)
          (at_set views port j l u a))
          (λ (s : r ≡ u) (y : ℕ) (le : u.limit ≤ y). let q : r.limit ≡ u.limit = ap (λ (z : PassView). z.limit) s in h.below port v at (omega arith) y (omega arith))
          (at_snoc vs r u j e);
      marks = (let s = total_set (λ u. u.due) views port v l at in omega (arith, h.marks, total_snoc (λ u. u.due) vs r));
      row = h.row;
      ended = λ j u e on. ⊎_elim
          (λ (a : get_elem? vs j ≡ some u). ⊎_elim
          (λ (s : (j ≡ port) × (l ≡ u)). h.ended port v at (ap (λ (y : PassView). y.ended) s.1 ∙ on))
          (λ (s : (j ≢ port) × (get_elem? views j ≡ some u)). h.ended j u s.1 on)
          (at_set views port j l u a))
          (λ (s : r ≡ u). absurd (let q : r.ended ≡ u.ended = ap (λ (y : PassView). y.ended) s in cc))
          (at_snoc vs r u j e);
    }

ended_of_two : (a b : Bool) (F : Type 0) → (a ≡ true → F) → (b ≡ true → F) → (a || b) ≡ true → F
ended_of_two true b F f g e = f refl
ended_of_two false b F f g e = g e

pub joins : (port : ℕ) (v : PassView) (other : ℕ) (u : PassView) → 0 < v.parts → u.limit ≡ u.limit → Merges IsKept port v other u (after_join v u) bystander
joins port v other u some_part _ items views h at apart at' =
    let b = after_join v u in let vs = set views port b in
    let was : get_elem? views other ≡ some u = ⊎_elim (λ (s : (other ≡ port) × (b ≡ u)). absurd (apart s.0))
    (λ (s : (other ≢ port) × (get_elem? views other ≡ some u)). s.1) (at_set views port other b u at') in
    let counts : (f : PassView → ℕ) → f bystander ≡ 0 → total f (set vs other bystander) + f v + f u ≡ total f views + f b = λ f none.
    let s = total_set f views port v b at in let t = total_set f vs other u bystander at' in omega arith in
    record {
      parts = (let c = counts (λ y. y.parts) refl in omega (arith, h.parts));
      idle = λ j y e p. ⊎_elim
          (λ (s : (j ≡ other) × (bystander ≡ y)). sym s.1)
          (λ (s : (j ≢ other) × (get_elem? vs j ≡ some y)). ⊎_elim
          (λ (q : (j ≡ port) × (b ≡ y)). absurd (let k : b.parts ≡ y.parts = ap (λ (z : PassView). z.parts) q.1 in omega arith))
          (λ (q : (j ≢ port) × (get_elem? views j ≡ some y)). h.idle j y q.1 p)
          (at_set views port j b y s.1))
          (at_set vs other j bystander y e);
      each = λ x.
          let d = counts (λ y. times x y.dealt) refl in let t = counts (λ y. times x y.took) refl in let e = h.each x in
          omega (arith, times-append x v.dealt u.dealt, times-append x v.took u.took);
      below = λ j y e p. ⊎_elim
          (λ (s : (j ≡ other) × (bystander ≡ y)) (z : ℕ) (le : y.limit ≤ z). absurd (let k : bystander.parts ≡ y.parts = ap (λ (z : PassView). z.parts) s.1 in omega arith))
          (λ (s : (j ≢ other) × (get_elem? vs j ≡ some y)). ⊎_elim
          (λ (q : (j ≡ port) × (b ≡ y)) (z : ℕ) (le : y.limit ≤ z). let k : b.limit ≡ y.limit = ap (λ (z : PassView). z.limit) q.1 in h.below port v at some_part z (omega arith))
          (λ (q : (j ≢ port) × (get_elem? views j ≡ some y)). h.below j y q.1 p)
          (at_set views port j b y s.1))
          (at_set vs other j bystander y e);
      marks = (let c = counts (λ y. y.due) refl in omega (arith, h.marks));
      row = h.row;
      ended = λ j y e on. ⊎_elim
          (λ (s : (j ≡ other) × (bystander ≡ y)). absurd (let k : bystander.ended ≡ y.ended = ap (λ (z : PassView). z.ended) s.1 in cc))
          (λ (s : (j ≢ other) × (get_elem? vs j ≡ some y)). ⊎_elim
          (λ (q : (j ≡ port) × (b ≡ y)). ended_of_two v.ended u.ended (tiles_in items ≡ []) (h.ended port v at) (h.ended other u was) (ap (λ (z : PassView). z.ended) q.1 ∙ on))
          (λ (q : (j ≢ port) × (get_elem? views j ≡ some y)). h.ended j y q.1 on)
          (at_set views port j b y s.1))
          (at_set vs other j bystander y e);
    }

-- who has all parts and has noted the end knows that what was dealt was taken
pub totals : (port : ℕ) (v : PassView) → v.parts ≡ 1024 → v.ended ≡ true → Learns IsKept port v (λ items. (x : ℕ) → times x v.dealt ≡ times x v.took)
totals port v all ended items views h at = λ x.
    let whole : total (λ u. u.parts) views ≡ v.parts = omega (arith, h.parts) in
    let d = alone (λ u. times x u.dealt) refl views port v at whole h.idle in
    let t = alone (λ u. times x u.took) refl views port v at whole h.idle in
    let none : times x (tiles_in items) ≡ 0 = ap (times x) (h.ended port v at ended) in
    let e = h.each x in omega arith

-- a tile that is below the bound
pub below_one : (n t : ℕ) (x : DequeItem) → x ≡ Tile t → AreBelow n (x ∷ []) → t < n
below_one n t x is h = by_lt n t
    (λ le. absurd (let z : times t (tiles_in (Tile t ∷ [])) ≡ 0 = ap (λ (y : DequeItem). times t (tiles_in (y ∷ []))) (sym is) ∙ h t le in
    let p = times_here t [] in omega arith))
  where
    by_lt : (n t : ℕ) → (n ≤ t → t < n) → t < n
    by_lt n t f = ⊎_elim (λ (a : t < n). a) f (cases_lt t n)

pub took_one : (v w : PassView) (t : ℕ) (x : DequeItem) → x ≡ Tile t → w ≡ after_takes v (x ∷ []) → w.took ≡ v.took ++ t ∷ []
took_one v w t x is e = ap (λ (u : PassView). u.took) e ∙ ap (λ (y : DequeItem). v.took ++ tiles_in (y ∷ [])) is

or_true : (b : Bool) → (b || true) ≡ true
or_true true = refl
or_true false = refl

pub end_one : (v w : PassView) (x : DequeItem) → x ≡ End → w ≡ after_takes v (x ∷ []) → w.ended ≡ true
end_one v w x is e = ap (λ (u : PassView). u.ended) e ∙ ap (λ (y : DequeItem). v.ended || has_end (y ∷ [])) is ∙ or_true v.ended

pub cuts_sealed : (port : ℕ) (v u : PassView) → u ≡ after_seal v → 1 < v.parts → Forks IsKept port u (after_cut u) (cut_off u)
cuts_sealed port v u is two = cuts port u (let p : u.parts ≡ v.parts = ap (λ (y : PassView). y.parts) is in
    omega arith) (let p : u.due ≡ suc v.due = ap (λ (y : PassView). y.due) is in omega arith)
