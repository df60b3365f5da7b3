-- Finding the tile of a cell.
use Rattle.std.proofs.Common.{◌≡◌, ◌∙◌, ◌+◌, ◌<◌, ◌≤◌, ℕ, inl, inr, List, length, get_or, subst, sym, ap, arith}
use Rattle.std.specs.List.{All, Contains}
use Rattle.std.proofs.lemmas.Int.{ints}
use Rattle.std.proofs.lemmas.Bool.{cases_eq, cases_order}
use Rattle.std.proofs.lemmas.List.{get_or_default}
use Rattle.dpl_spec_split.specs.declared.Rect.{Rect}
use Rattle.dpl_spec_split.specs.Slabs.{Before}
use Rattle.dpl_spec_split.proofs.SlabLaws.{Before-strict}
use Rattle.dpl_session.specs.declared.tile.Tile.{Tile}
use Rattle.dpl_session.specs.Kept.{HasItsEdges, IsAmong, IsStart, RiseByCell}
use Rattle.dpl_session.specs.Windows.{each_alone}
use Rattle.dpl_spec_split.specs.declared.Spacing.{Spacing}
use Rattle.dpl_spec_split.specs.Graphs.{AreEdges}
use Rattle.dpl_spec_split.specs.Pieces.{Conflict}

before_trans : (a b c : Rect) → Before a b → Before b c → Before a c
before_trans a b c (inl l) (inl m) = inl (omega (arith, ints, l, m))
before_trans a b c (inl l) (inr (e, m)) = inl (omega (arith, ints, l, e))
before_trans a b c (inr (d, l)) (inl m) = inl (omega (arith, ints, d, m))
before_trans a b c (inr (d, l)) (inr (e, m)) = inr (d ∙ e, omega (arith, ints, l, m))

pub half_under : (tiles : List Tile) (cell : Rect) (middle : ℕ) (d : Tile) → RiseByCell tiles → middle < length tiles → Before (get_or tiles middle d).cell cell
    → (k : ℕ) (t : Tile) → k < middle + 1 → k < length tiles → Before (get_or tiles k t).cell cell
half_under tiles cell middle d rises m_in under k t l k_in =
    let here : Before (get_or tiles middle t).cell cell = subst (λ (u : Tile). Before u.cell cell) (get_or_default tiles middle d t m_in) under in
    elim (cases_eq k middle) [
      | inl e ↦ subst (λ m. Before (get_or tiles m t).cell cell) (sym e) here
      | inr ne ↦ before_trans (get_or tiles k t).cell (get_or tiles middle t).cell cell (rises k middle t (omega (arith, l, ne)) m_in) here
    ]

pub half_over : (tiles : List Tile) (cell : Rect) (middle : ℕ) (d : Tile) → RiseByCell tiles → middle < length tiles → (Before (get_or tiles middle d).cell cell → ⊥)
    → (k : ℕ) (t : Tile) → middle ≤ k → k < length tiles → Before (get_or tiles k t).cell cell → ⊥
half_over tiles cell middle d rises m_in over k t l k_in before =
    let there : (Before (get_or tiles middle t).cell cell → ⊥) = λ h. over (subst (λ (u : Tile). Before u.cell cell) (get_or_default tiles middle t d m_in) h) in
    elim (cases_eq k middle) [
      | inl e ↦ there (subst (λ m. Before (get_or tiles m t).cell cell) e before)
      | inr ne ↦ there (before_trans (get_or tiles middle t).cell (get_or tiles k t).cell cell (rises middle k t (omega (arith, l, ne)) k_in) before)
    ]

-- a tile of the cell stands at the start
pub only_there : (tiles : List Tile) (cell : Rect) (n : ℕ) (t : Tile) → RiseByCell tiles → IsStart tiles cell n → Contains tiles t → t.cell ≡ cell
    → (n < length tiles) × ((d : Tile) → get_or tiles n d ≡ t)
only_there tiles cell n t rises start (k, k_in, is) t_is =
    let at : (get_or tiles k t).cell ≡ cell = ap (λ (u : Tile). u.cell) is ∙ t_is in
    elim (cases_order k n) [
      | inl e ↦ (subst (λ m. m < length tiles) e k_in, λ d. ap (λ m. get_or tiles m d) (sym e) ∙ (get_or_default tiles k d t k_in ∙ is))
      | inr other ↦ elim other [
        | inl l ↦ absurd (let b = subst (λ c. Before c cell) at (start.under k t l k_in) in Before-strict cell cell b b)
        | inr l ↦ absurd (start.over n t (omega arith) (omega (arith, l, k_in)) (subst (λ c. Before (get_or tiles n t).cell c) at (rises n k t l k_in)))
      ]
    ]

-- none of the cell's tiles is as a window, where the one at the start isn't
pub not_among : (tiles : List Tile) (cell : Rect) (n : ℕ) (slabs : List Rect) (labels : List ℕ) → RiseByCell tiles → IsStart tiles cell n
    → (n < length tiles → (d : Tile) → ((get_or tiles n d).slabs ≡ slabs) × ((get_or tiles n d).labels ≡ labels) → ⊥) → IsAmong tiles cell slabs labels → ⊥
not_among tiles cell n slabs labels rises start other (t, t_in, t_is, s, l) =
    let (n_in, here) = only_there tiles cell n t rises start t_in t_is in
    other n_in t (ap (λ (u : Tile). u.slabs) (here t) ∙ s, ap (λ (u : Tile). u.labels) (here t) ∙ l)

-- the conflicts of a tile are those of a window that it is as
pub own_edges : (spacing : Spacing) (tiles : List Tile) (n : ℕ) (t : Tile) (slabs : List Rect) (labels : List ℕ) (edges : List (ℕ × ℕ))
    → All (HasItsEdges spacing) tiles → n < length tiles → t ≡ get_or tiles n t
    → ((d : Tile) → ((get_or tiles n d).slabs ≡ slabs) × ((get_or tiles n d).labels ≡ labels)) → edges ≡ t.edges → AreEdges (Conflict spacing (each_alone slabs) labels) edges
own_edges spacing tiles n t slabs labels edges own n_in is like same =
    let mine : HasItsEdges spacing t = subst (HasItsEdges spacing) (sym is) (own n t n_in) in
    let s : t.slabs ≡ slabs = ap (λ (u : Tile). u.slabs) is ∙ (like t).0 in
    let l : t.labels ≡ labels = ap (λ (u : Tile). u.labels) is ∙ (like t).1 in
    subst (λ e. AreEdges (Conflict spacing (each_alone slabs) labels) e) (sym same)
    (subst (λ m. AreEdges (Conflict spacing (each_alone slabs) m) t.edges) l (subst (λ r. AreEdges (Conflict spacing (each_alone r) t.labels) t.edges) s mine))
