-- How much of a walk is left.
use Rattle.std.proofs.Common.{◌≡◌, ℕ, zero, suc, ◌+◌, ◌-◌, ◌*◌, ◌<◌, ◌≤◌, ⊎_elim, List, [], ◌∷◌, ◌++◌, Option, Some, None, map, refl, sym, ap, ◌∙◌, arith}
use Rattle.std.proofs.lemmas.List.Sums.{sum_by-append, sum_by-cons}
use Rattle.std.specs.List.{Contains, sum_by}
use Rattle.std.specs.Option.{option_to_list}
use Rattle.dpl_spec_split.proofs.Ordered.{Contains-head, Contains-later}
use Rattle.dpl_spec_elements.specs.Motions.{Motion}
use Rattle.dpl_walk.specs.declared.cells.Copies.{Copies}
use Rattle.dpl_walk.specs.declared.cells.Cell.{Cell}
use Rattle.dpl_walk.specs.declared.walk.StackFrame.{StackFrame}
use Rattle.dpl_walk.specs.Walk.{copies_at, frame_of, IsFrame, IsNext, visits, count_left, walk_left}

same_sum : (f g : Copies → ℕ) (cs : List Copies) → ((c : Copies) → Contains cs c → f c ≡ g c) → sum_by f cs ≡ sum_by g cs
same_sum f g [] same = refl
same_sum f g (c ∷ cs) same =
    let rest = same_sum f g cs (λ d h. same d (Contains-later c d cs h)) in
    let first = same c (Contains-head c cs) in
    omega (arith, sum_by-cons f c cs, sum_by-cons g c cs, rest, first)

-- below a structure's level, more references one below the other add no visits
steady : (cells : List Cell) (level : ℕ → ℕ) (n k : ℕ) → ((i : ℕ) (c : Copies) → Contains (copies_at cells i) c → level c.target < level i)
    → level k ≤ n → visits cells (suc n) k ≡ visits cells n k
steady cells level zero k falls h =
    let e = same_sum (λ (c : Copies). (c.columns * c.rows) * visits cells zero c.target) (λ (c : Copies). 0) (copies_at cells k)
    (λ c d. let f = falls k c d in absurd (omega (arith, f, h))) in
    let z = no_sum (copies_at cells k) in
    omega (arith, e, z)
  where
    no_sum : (cs : List Copies) → sum_by (λ (c : Copies). 0) cs ≡ 0
    no_sum [] = refl
    no_sum (c ∷ cs) = omega (arith, sum_by-cons (λ (c : Copies). 0) c cs, no_sum cs)
steady cells level (suc n) k falls h =
    ap (λ s. 1 + s) (same_sum (λ (c : Copies). (c.columns * c.rows) * visits cells (suc n) c.target)
    (λ (c : Copies). (c.columns * c.rows) * visits cells n c.target) (copies_at cells k) (λ c d. let f = falls k c d in
    let l : level c.target ≤ n = omega (arith, f, h) in ap (λ s. (c.columns * c.rows) * s) (steady cells level n c.target falls l)))

framed : (cells : List Cell) (n : ℕ) (m : Motion) (cs : List Copies) → walk_left cells n (map (frame_of m) cs) ≡ sum_by
    (λ (c : Copies). (c.columns * c.rows) * visits cells n c.target) cs
framed cells n m [] = refl
framed cells n m (c ∷ cs) =
    let rest = framed cells n m cs in
    let all : c.columns - 0 ≡ c.columns = omega arith in
    let one : (c.columns - 0) * c.rows - 0 ≡ c.columns * c.rows = rw all (omega arith) in
    let first : ((c.columns - 0) * c.rows - 0) * visits cells n c.target ≡ (c.columns * c.rows) * visits cells n c.target = ap (λ s. s * visits cells n c.target) one in
    omega (
      arith,
      rest,
      first,
      sum_by-cons (λ (f : StackFrame). count_left f * visits cells n f.copies.target) (frame_of m c)
          (map (frame_of m) cs),
      sum_by-cons (λ (c : Copies). (c.columns * c.rows) * visits cells n c.target) c cs,
    )

-- a frame of d more columns, at this row of so many
further_row : (d rows row : ℕ) → row + 1 < rows → ((suc d * rows) - (row + 1)) + 1 ≡ (suc d * rows) - row
further_row d rows row h = let e : suc d * rows ≡ d * rows + rows = omega arith in rw e (omega (arith, h))

further_column : (d rows row : ℕ) → rows ≡ row + 1 → (d * rows - 0) + 1 ≡ (suc d * rows) - row
further_column d rows row h = let e : suc d * rows ≡ d * rows + rows = omega arith in rw e (omega (arith, h))

some_left : (d rows row : ℕ) → row < rows → 0 < (suc d * rows) - row
some_left d rows row h = let e : suc d * rows ≡ d * rows + rows = omega arith in rw e (omega (arith, h))

columns_left : (f : StackFrame) → IsFrame f → f.copies.columns - f.column ≡ suc (f.copies.columns - (f.column + 1))
columns_left f h = omega (arith, h.in_columns)

next_left : (f n : StackFrame) → IsNext f (Some n) → IsFrame f → count_left n + 1 ≡ count_left f
next_left f n x h =
    let d = f.copies.columns - (f.column + 1) in
    let c = columns_left f h in
    ⊎_elim
    (λ a. rw (x.0, a.1, a.2, c) (further_row (f.copies.columns - (f.column + 1)) f.copies.rows f.row a.0))
    (λ a. rw (x.0, a.2, a.3, c) (further_column (f.copies.columns - (f.column + 1)) f.copies.rows f.row (omega (arith, a.0, h.in_rows))))
    x.2

frame_some : (f : StackFrame) → IsFrame f → 0 < count_left f
frame_some f h = rw (columns_left f h) (some_left (f.copies.columns - (f.column + 1)) f.copies.rows f.row h.in_rows)

fewer_some : (r k l v c : ℕ) → k + 1 ≡ l → v ≡ 1 + c → (r + k * v) + c < r + l * v
fewer_some r k l v c e h = rw (← e, h) (omega arith)

fewer_none : (r l v c : ℕ) → 0 < l → v ≡ 1 + c → r + c < r + l * v
fewer_none r (suc l) v c p h = rw h (omega arith)
fewer_none r zero v c p h = absurd (omega (arith, p))

one_frame : (cells : List Cell) (n : ℕ) (rest : List StackFrame) (f : StackFrame)
    → walk_left cells n (rest ++ f ∷ []) ≡ walk_left cells n rest + count_left f * visits cells n f.copies.target
one_frame cells n rest f = sum_by-append (λ (f : StackFrame). count_left f * visits cells n f.copies.target) rest (f ∷ [])
    ∙ (let e = sum_by-cons (λ (f : StackFrame). count_left f * visits cells n f.copies.target) f [] in omega (arith, e))

pub less_left : (cells : List Cell) (level : ℕ → ℕ) (n : ℕ) (stack rest middle last : List StackFrame) (f : StackFrame) (next : Option StackFrame)
    (m : Motion) → ((i : ℕ) (c : Copies) → Contains (copies_at cells i) c → level c.target < level i) → stack ≡ rest ++ f ∷ [] → IsFrame f
    → level f.copies.target ≤ n → IsNext f next → middle ≡ rest ++ option_to_list next
    → last ≡ middle ++ map (frame_of m) (copies_at cells f.copies.target) → walk_left cells n last < walk_left cells n stack
less_left cells level n stack rest middle last f next m falls se fr deep x me le = rw (
  se,
  le,
  one_frame cells n rest f,
  sum_by-append (λ (f : StackFrame). count_left f * visits cells n f.copies.target) middle (map (frame_of m) (copies_at cells f.copies.target)),
  framed cells n m (copies_at cells f.copies.target),
) (by_next next x me)
  where
    below : ℕ
    below = sum_by (λ (c : Copies). (c.columns * c.rows) * visits cells n c.target) (copies_at cells f.copies.target)

    whole : visits cells n f.copies.target ≡ 1 + sum_by (λ (c : Copies). (c.columns * c.rows) * visits cells n c.target) (copies_at cells f.copies.target)
    whole = sym (steady cells level n f.copies.target falls deep)

    by_next : (o : Option StackFrame) → IsNext f o → middle ≡ rest ++ option_to_list o
        → walk_left cells n middle + sum_by (λ (c : Copies). (c.columns * c.rows) * visits cells n c.target)
        (copies_at cells f.copies.target) < walk_left cells n rest + count_left f * visits cells n f.copies.target
    by_next None y q =
        let s = sum_by-append (λ (f : StackFrame). count_left f * visits cells n f.copies.target) rest [] in
        let t : walk_left cells n middle ≡ walk_left cells n rest = rw q (omega (arith, s)) in
        rw t (fewer_none (walk_left cells n rest) (count_left f) (visits cells n f.copies.target)
        (sum_by (λ (c : Copies). (c.columns * c.rows) * visits cells n c.target) (copies_at cells f.copies.target))
        (frame_some f fr) whole)
    by_next (Some u) y q =
        let t : walk_left cells n middle ≡ walk_left cells n rest + count_left u * visits cells n u.copies.target = ap (walk_left cells n) q ∙ one_frame cells n rest u in
        let v : visits cells n u.copies.target ≡ visits cells n f.copies.target = ap (λ (c : Copies). visits cells n c.target) y.0 in
        rw (t, v) (fewer_some (walk_left cells n rest) (count_left u) (count_left f) (visits cells n f.copies.target)
        (sum_by (λ (c : Copies). (c.columns * c.rows) * visits cells n c.target) (copies_at cells f.copies.target))
        (next_left f u y fr) whole)
