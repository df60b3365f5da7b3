-- A breadth-first walk, number by number.
use Rattle.std.proofs.Common.{◌≡◌, ◌≢◌, ℕ, suc, ◌+◌, ◌<◌, ◌≤◌, ◌⊎◌, inl, inr, cond, List, [], ◌∷◌, length, length-append, set, get_or, sym, refl, ap, subst, ◌∙◌, arith}
use Rattle.std.specs.Prelude.{◌==◌, count_by}
use Rattle.std.proofs.lemmas.Bool.{cases_eq, eq-eqb, ne_eqb}
use Rattle.std.proofs.lemmas.List.{length-set, get_or_append_left, get_or_push, get_or-set_same, get_or-set_other}
use Rattle.std.proofs.lemmas.List.Sums.{sum_by-set}
use Rattle.dpl_spec_split.specs.Graphs.{Walk, graph_of}
use Rattle.dpl_stars.specs.declared.reached.Reached.{Reached}
use Rattle.dpl_stars.specs.Growing.{root_in, level_in, place_in, reached_count, IsGrown, IsNoted}

-- b is noted with root now and level l, one further than the first of the order that is not done
pub record Noting (edges : List (ℕ × ℕ)) (n bound now head b l : ℕ) (x y : Reached) : Type 0 where
  pub grown : IsGrown edges n bound now head x
  pub unreached : root_in x b ≡ n
  pub b_in : b < n
  pub now_in : now < n
  pub noted : IsNoted b now l x y
  pub walk : Walk (graph_of edges) now b l
  pub low : now ≤ b
  pub shallow : l ≤ reached_count x
  pub rooted : (root_in y now ≡ now) × (level_in y now ≡ 0)
  pub frontier : (j : ℕ) → head ≤ j → j < reached_count x → (level_in x (place_in x j) ≤ l) × (l ≤ suc (level_in x (place_in x j)))
  pub back : (v : ℕ) → v < n → root_in x v ≡ now → level_in x v ≤ suc l

pub noted_root : {b now l : ℕ} {x y : Reached} → IsNoted b now l x y → b < length x.roots.items → root_in y b ≡ now
noted_root {b = b} {now = now} {x = x} h i = ap (λ xs. get_or xs b 0) h.roots ∙ get_or-set_same x.roots.items b now 0 i

pub noted_level : {b now l : ℕ} {x y : Reached} → IsNoted b now l x y → b < length x.levels.items → level_in y b ≡ l
noted_level {b = b} {l = l} {x = x} h i = ap (λ xs. get_or xs b 0) h.levels ∙ get_or-set_same x.levels.items b l 0 i

pub noted_other_root : {b now l : ℕ} {x y : Reached} → IsNoted b now l x y → (v : ℕ) → v ≢ b → root_in y v ≡ root_in x v
noted_other_root {b = b} {now = now} {x = x} h v ne = ap (λ xs. get_or xs v 0) h.roots ∙ get_or-set_other x.roots.items b v now 0 ne

pub noted_other_level : {b now l : ℕ} {x y : Reached} → IsNoted b now l x y → (v : ℕ) → v ≢ b → level_in y v ≡ level_in x v
noted_other_level {b = b} {l = l} {x = x} h v ne = ap (λ xs. get_or xs v 0) h.levels ∙ get_or-set_other x.levels.items b v l 0 ne

pub new_root : {edges : List (ℕ × ℕ)} {n bound now head b l : ℕ} {x y : Reached} → Noting edges n bound now head b l x y → root_in y b ≡ now
new_root {now = now} {b = b} {x = x} h = ap (λ xs. get_or xs b 0) h.noted.roots ∙ get_or-set_same x.roots.items b now 0
    (let m = h.grown.as_many_roots in let i = h.b_in in omega (arith, m, i))

old_root : {edges : List (ℕ × ℕ)} {n bound now head b l : ℕ} {x y : Reached} → Noting edges n bound now head b l x y → (v : ℕ) → v ≢ b → root_in y v ≡ root_in x v
old_root {now = now} {b = b} {x = x} h v ne = ap (λ xs. get_or xs v 0) h.noted.roots ∙ get_or-set_other x.roots.items b v now 0 ne

pub new_level : {edges : List (ℕ × ℕ)} {n bound now head b l : ℕ} {x y : Reached} → Noting edges n bound now head b l x y → level_in y b ≡ l
new_level {b = b} {l = l} {x = x} h = ap (λ xs. get_or xs b 0) h.noted.levels ∙ get_or-set_same x.levels.items b l 0
    (let m = h.grown.as_many_levels in let i = h.b_in in omega (arith, m, i))

old_level : {edges : List (ℕ × ℕ)} {n bound now head b l : ℕ} {x y : Reached} → Noting edges n bound now head b l x y → (v : ℕ) → v ≢ b → level_in y v ≡ level_in x v
old_level {b = b} {l = l} {x = x} h v ne = ap (λ xs. get_or xs v 0) h.noted.levels ∙ get_or-set_other x.levels.items b v l 0 ne

pub one_more : {edges : List (ℕ × ℕ)} {n bound now head b l : ℕ} {x y : Reached} → Noting edges n bound now head b l x y → reached_count y ≡ suc (reached_count x)
one_more {b = b} {x = x} h = ap (λ xs. let ys : List ℕ = xs in length ys) h.noted.order ∙ (length-append x.order.items (b ∷ []) ∙ omega arith)

pub new_place : {edges : List (ℕ × ℕ)} {n bound now head b l : ℕ} {x y : Reached} → Noting edges n bound now head b l x y → (j : ℕ) → j ≡ reached_count x → place_in y j ≡ b
new_place {b = b} {x = x} h j e = ap (λ xs. get_or xs j 0) h.noted.order ∙ get_or_push x.order.items b 0 j (sym e)

pub old_place : {edges : List (ℕ × ℕ)} {n bound now head b l : ℕ} {x y : Reached} → Noting edges n bound now head b l x y → (j : ℕ)
    → j < reached_count x → place_in y j ≡ place_in x j
old_place {b = b} {x = x} h j l = ap (λ xs. get_or xs j 0) h.noted.order ∙ get_or_append_left x.order.items (b ∷ []) 0 j l

-- what was reached is not b, and stays as it was
not_new : {edges : List (ℕ × ℕ)} {n bound now head b l : ℕ} {x y : Reached} → Noting edges n bound now head b l x y → (v : ℕ) → root_in x v ≢ n → v ≢ b
not_new {x = x} h v reached e = reached (ap (λ w. root_in x w) e ∙ h.unreached)

pub kept_root : {edges : List (ℕ × ℕ)} {n bound now head b l : ℕ} {x y : Reached} → Noting edges n bound now head b l x y → (v : ℕ) → root_in x v ≢ n → root_in y v ≡ root_in x v
kept_root h v reached = old_root h v (not_new h v reached)

pub kept_level : {edges : List (ℕ × ℕ)} {n bound now head b l : ℕ} {x y : Reached} → Noting edges n bound now head b l x y → (v : ℕ) → root_in x v ≢ n → level_in y v ≡ level_in x v
kept_level h v reached = old_level h v (not_new h v reached)

now_reached : {edges : List (ℕ × ℕ)} {n bound now head b l : ℕ} {x y : Reached} → Noting edges n bound now head b l x y → now ≢ n
now_reached h e = let i = h.now_in in omega (arith, i, e)

-- a number reached now is b, or was reached
was_reached : {edges : List (ℕ × ℕ)} {n bound now head b l : ℕ} {x y : Reached} → Noting edges n bound now head b l x y → (v : ℕ) → root_in y v ≢ n → (v ≡ b) ⊎ (root_in x v ≢ n)
was_reached {b = b} h v reached = elim (cases_eq v b) [
  | inl e ↦ inl e
  | inr ne ↦ inr (λ e. reached (old_root h v ne ∙ e))
]

now_listed : {edges : List (ℕ × ℕ)} {n bound now head b l : ℕ} {x y : Reached} → Noting edges n bound now head b l x y → (j : ℕ)
    → j < reached_count y → (j ≡ reached_count x) ⊎ (j < reached_count x)
now_listed {x = x} h j l = let e = one_more h in elim (cases_eq j (reached_count x)) [ inl same ↦ inl same | inr ne ↦ inr (omega (arith, e, l, ne)) ]

note_count : {edges : List (ℕ × ℕ)} {n bound now head b l : ℕ} {x y : Reached} → Noting edges n bound now head b l x y → count_by (λ v. v == n) y.roots.items + reached_count y ≡ n
note_count {n = n} {now = now} {b = b} {x = x} {y = y} h =
    let f : ℕ → ℕ = λ v. cond (v == n) 1 0 in
    let m = h.grown.as_many_roots in
    let i = h.b_in in
    let within : b < length x.roots.items = omega (arith, m, i) in
    let old : f (get_or x.roots.items b 0) ≡ 1 = ap (λ t. cond t 1 0) (eq-eqb (root_in x b) n h.unreached) in
    let new : f now ≡ 0 = ap (λ t. cond t 1 0) (ne_eqb now n (now_reached h)) in
    let moved : count_by (λ v. v == n) (set x.roots.items b now) + f (get_or x.roots.items b 0) ≡ count_by
    (λ v. v == n) x.roots.items + f now = sum_by-set f x.roots.items b now 0 within in
    let is : count_by (λ v. v == n) y.roots.items ≡ count_by (λ v. v == n) (set x.roots.items b now) = ap (λ xs. count_by (λ v. v == n) xs) h.noted.roots in
    let more = one_more h in
    let was = h.grown.count in
    omega (arith, old, new, moved, is, more, was)

note_listed : {edges : List (ℕ × ℕ)} {n bound now head b l : ℕ} {x y : Reached} → Noting edges n bound now head b l x y → (j : ℕ)
    → j < reached_count y → (place_in y j < n) × (root_in y (place_in y j) ≢ n)
note_listed {n = n} {x = x} {y = y} h j l = elim (now_listed h j l) [
  | inl at ↦ subst (λ v. (v < n) × (root_in y v ≢ n)) (sym (new_place h j at)) (h.b_in, λ e. now_reached h (sym (new_root h) ∙ e))
  | inr less ↦
      let (within, reached) = h.grown.listed j less in
      subst (λ v. (v < n) × (root_in y v ≢ n)) (sym (old_place h j less)) (within, λ e. reached (sym (kept_root h (place_in x j) reached) ∙ e))
]

note_found : {edges : List (ℕ × ℕ)} {n bound now head b l : ℕ} {x y : Reached} → Noting edges n bound now head b l x y → (v : ℕ) → v < n
    → root_in y v ≢ n → (j : ℕ) × (j < reached_count y) × (place_in y j ≡ v)
note_found {x = x} h v l reached =
    let more = one_more h in
    elim (was_reached h v reached) [
      | inl e ↦ (reached_count x, omega (arith, more), new_place h (reached_count x) refl ∙ sym e)
      | inr was ↦ let (j, j_in, is) = h.grown.found v l was in (j, omega (arith, more, j_in), old_place h j j_in ∙ is)
    ]

note_sound : {edges : List (ℕ × ℕ)} {n bound now head b l : ℕ} {x y : Reached} → Noting edges n bound now head b l x y → (v : ℕ) → v < n
    → root_in y v ≢ n → Walk (graph_of edges) (root_in y v) v (level_in y v)
note_sound {edges = edges} {now = now} {b = b} {l = l} {x = x} {y = y} h v within reached = elim (was_reached h v reached) [
  | inl e ↦ subst (λ w. Walk (graph_of edges) (root_in y w) w (level_in y w)) (sym e)
      (subst (λ r. Walk (graph_of edges) r b (level_in y b)) (sym (new_root h)) (subst (λ m. Walk (graph_of edges) now b m) (sym (new_level h)) h.walk))
  | inr was ↦ subst (λ r. Walk (graph_of edges) r v (level_in y v)) (sym (kept_root h v was))
      (subst (λ m. Walk (graph_of edges) (root_in x v) v m) (sym (kept_level h v was)) (h.grown.sound v within was))
]

note_low : {edges : List (ℕ × ℕ)} {n bound now head b l : ℕ} {x y : Reached} → Noting edges n bound now head b l x y → (v : ℕ) → v < n → root_in y v ≢ n → root_in y v ≤ v
note_low {y = y} h v within reached = elim (was_reached h v reached) [
  | inl e ↦ subst (λ w. root_in y w ≤ w) (sym e) (let r = new_root h in let m = h.low in omega (arith, r, m))
  | inr was ↦ let r = kept_root h v was in let m = h.grown.low v within was in omega (arith, r, m)
]

note_shallow : {edges : List (ℕ × ℕ)} {n bound now head b l : ℕ} {x y : Reached} → Noting edges n bound now head b l x y → (v : ℕ) → v < n
    → root_in y v ≢ n → level_in y v < reached_count y
note_shallow {y = y} h v within reached =
    let more = one_more h in
    elim (was_reached h v reached) [
      | inl e ↦ subst (λ w. level_in y w < reached_count y) (sym e) (let r = new_level h in let m = h.shallow in omega (arith, r, m, more))
      | inr was ↦ let r = kept_level h v was in let m = h.grown.shallow v within was in omega (arith, r, m, more)
    ]

note_rooted : {edges : List (ℕ × ℕ)} {n bound now head b l : ℕ} {x y : Reached} → Noting edges n bound now head b l x y → (v : ℕ) → v < n
    → root_in y v ≢ n → (root_in y (root_in y v) ≡ root_in y v) × (level_in y (root_in y v) ≡ 0)
note_rooted {n = n} {x = x} {y = y} h v within reached = elim (was_reached h v reached) [
  | inl e ↦ subst (λ r. (root_in y r ≡ r) × (level_in y r ≡ 0)) (sym (ap (λ w. root_in y w) e ∙ new_root h)) h.rooted
  | inr was ↦
      let (self, none) = h.grown.rooted v within was in
      let up : root_in x (root_in x v) ≢ n = λ e. was (sym self ∙ e) in
      subst (λ r. (root_in y r ≡ r) × (level_in y r ≡ 0)) (sym (kept_root h v was)) (kept_root h (root_in x v) up ∙ self, kept_level h (root_in x v) up ∙ none)
]

note_closed : {edges : List (ℕ × ℕ)} {n bound now head b l : ℕ} {x y : Reached} → Noting edges n bound now head b l x y → (j : ℕ)
    → j < head → (w : ℕ) → graph_of edges (place_in y j) w → (root_in y w ≡ root_in y (place_in y j))
    × (level_in y w ≤ suc (level_in y (place_in y j)))
note_closed {edges = edges} {n = n} {x = x} {y = y} h j l w e =
    let within = h.grown.within in
    let j_in : j < reached_count x = omega (arith, l, within) in
    let o : ℕ = place_in x j in
    let at : place_in y j ≡ o = old_place h j j_in in
    let (o_in, reached) = h.grown.listed j j_in in
    let (same, near) = h.grown.closed j l w (subst (λ v. graph_of edges v w) at e) in
    let w_reached : root_in x w ≢ n = λ f. reached (sym same ∙ f) in
    let lw = kept_level h w w_reached in
    let lo = kept_level h o reached in
    subst (λ v. (root_in y w ≡ root_in y v) × (level_in y w ≤ suc (level_in y v))) (sym at)
    (kept_root h w w_reached ∙ (same ∙ sym (kept_root h o reached)), omega (arith, near, lw, lo))

note_same : {edges : List (ℕ × ℕ)} {n bound now head b l : ℕ} {x y : Reached} → Noting edges n bound now head b l x y → (j : ℕ) → head ≤ j
    → j < reached_count y → root_in y (place_in y j) ≡ now
note_same {x = x} {y = y} h j from l = elim (now_listed h j l) [
  | inl at ↦ ap (λ v. root_in y v) (new_place h j at) ∙ new_root h
  | inr less ↦ ap (λ v. root_in y v) (old_place h j less) ∙ (kept_root h (place_in x j) (h.grown.listed j less).1 ∙ h.grown.same j from less)
]

level_new : {edges : List (ℕ × ℕ)} {n bound now head b l : ℕ} {x y : Reached} → Noting edges n bound now head b l x y → (j : ℕ)
    → j ≡ reached_count x → level_in y (place_in y j) ≡ l
level_new {y = y} h j at = ap (λ v. level_in y v) (new_place h j at) ∙ new_level h

level_old : {edges : List (ℕ × ℕ)} {n bound now head b l : ℕ} {x y : Reached} → Noting edges n bound now head b l x y → (j : ℕ)
    → j < reached_count x → level_in y (place_in y j) ≡ level_in x (place_in x j)
level_old {x = x} {y = y} h j less = ap (λ v. level_in y v) (old_place h j less) ∙ kept_level h (place_in x j) (h.grown.listed j less).1

note_rising : {edges : List (ℕ × ℕ)} {n bound now head b l : ℕ} {x y : Reached} → Noting edges n bound now head b l x y → (i j : ℕ)
    → head ≤ i → i ≤ j → j < reached_count y → level_in y (place_in y i) ≤ level_in y (place_in y j)
note_rising {x = x} {y = y} h i j from up l = elim (now_listed h j l) [
  | inl at ↦
      let lj = level_new h j at in
      elim (now_listed h i (omega (arith, up, l))) [
        | inl also ↦ let li = level_new h i also in omega (arith, li, lj)
        | inr less ↦ let li = level_old h i less in let m = (h.frontier i from less).0 in omega (arith, li, lj, m)
      ]
  | inr less ↦
      let i_less : i < reached_count x = omega (arith, up, less) in
      let lj = level_old h j less in
      let li = level_old h i i_less in
      let m = h.grown.rising i j from up less in
      omega (arith, li, lj, m)
]

note_near : {edges : List (ℕ × ℕ)} {n bound now head b l : ℕ} {x y : Reached} → Noting edges n bound now head b l x y → (v : ℕ) → v < n
    → root_in y v ≡ now → (j : ℕ) → head ≤ j → j < reached_count y → level_in y v ≤ suc (level_in y (place_in y j))
note_near {n = n} {now = now} {b = b} {x = x} {y = y} h v within is j from l = elim (cases_eq v b) [
  | inl e ↦
      let lv : level_in y v ≡ _ = ap (λ w. level_in y w) e ∙ new_level h in
      elim (now_listed h j l) [
        | inl at ↦ let lj = level_new h j at in omega (arith, lv, lj)
        | inr less ↦ let lj = level_old h j less in let m = (h.frontier j from less).1 in omega (arith, lv, lj, m)
      ]
  | inr ne ↦
      let was : root_in x v ≡ now = sym (old_root h v ne) ∙ is in
      let lv = old_level h v ne in
      elim (now_listed h j l) [
        | inl at ↦ let lj = level_new h j at in let m = h.back v within was in omega (arith, lv, lj, m)
        | inr less ↦ let lj = level_old h j less in let m = h.grown.near v within was j from less in omega (arith, lv, lj, m)
      ]
]

pub note-grown : {edges : List (ℕ × ℕ)} {n bound now head b l : ℕ} {x y : Reached} → Noting edges n bound now head b l x y → IsGrown edges n bound now head y
note-grown {now = now} {b = b} {l = l} {x = x} h = record {
  as_many_roots = ap (λ xs. let ys : List ℕ = xs in length ys) h.noted.roots ∙ (length-set x.roots.items b now ∙ h.grown.as_many_roots);
  as_many_levels = ap (λ xs. let ys : List ℕ = xs in length ys) h.noted.levels ∙ (length-set x.levels.items b l ∙ h.grown.as_many_levels);
  count = note_count h;
  listed = note_listed h;
  found = note_found h;
  sound = note_sound h;
  low = note_low h;
  shallow = note_shallow h;
  rooted = note_rooted h;
  before = λ v m. let was = h.grown.before v m in λ e. was (sym (kept_root h v was) ∙ e);
  within = let more = one_more h in let m = h.grown.within in omega (arith, more, m);
  closed = note_closed h;
  same = note_same h;
  rising = note_rising h;
  near = note_near h;
}
