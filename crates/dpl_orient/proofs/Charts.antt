-- Charts, row by row.
use Rattle.std.proofs.Common.{◌≡◌, ◌≢◌, ℕ, ◌+◌, ◌<◌, ◌≤◌, inl, inr, List, [], ◌∷◌, ◌++◌, set, sym, refl, ap, ◌∙◌, subst, arith}
use Rattle.std.proofs.lemmas.Bool.{cases_lt, cases_eq}
use Rattle.std.proofs.lemmas.List.{get_or_append_left, get_or_push, get_or-set_same, get_or-set_other, length-set, length_push}
use Rattle.std.proofs.lemmas.List.Elements.{All-push, All-nil, Contains-push, Contains-append_left}
use Rattle.dpl_stars.specs.declared.list.Star.{Star}
use Rattle.dpl_orient.specs.declared.chart.Rooted.{Rooted}
use Rattle.dpl_stars.specs.Stars.{IsStarList}
use Rattle.dpl_orient.specs.Rooted.{HasStar, star}
use Rattle.dpl_orient.specs.Chart.{own_root, rooted_by, rooted_at, IsChart, AreLow}

-- the rows give piece v this root and parity
abbrev Gives : List Star → ℕ → Rooted → Type 0
Gives rows v s = HasStar rows v s.root s.odd

pub chart-none : IsChart [] 0 []
chart-none = record { len = refl; each = λ v l. absurd (omega (arith, l)) }

pub chart-own_more : (n : ℕ) (chart : List Rooted) → IsChart [] n chart → IsChart [] (n + 1) (chart ++ own_root n ∷ [])
chart-own_more n chart h = record {
  len = length_push chart (own_root n) ∙ ap (λ k. k + 1) h.len;
  each = λ v l. elim (cases_lt v n) [
    | inl below ↦ subst (λ s. Gives [] v s) (sym (get_or_append_left chart (own_root n ∷ []) (own_root v) v (omega (arith, below, h.len)))) (h.each v below)
    | inr above ↦ (let same : n ≡ v = omega (arith, l, above) in
        subst (λ u. Gives [] u (rooted_at (chart ++ own_root n ∷ []) u)) same
        (subst (λ s. Gives [] n s) (sym (get_or_push chart (own_root n) (own_root n) n h.len)) (inr (All-nil (λ r. r.piece ≢ n), refl, refl))))
  ];
}

pub chart-put : (prefix : List Star) (n : ℕ) (chart : List Rooted) (r : Star) → IsChart prefix n chart → r.piece < n → IsChart (prefix ++ r ∷ []) n (set chart r.piece (rooted_by r))
chart-put prefix n chart r h within = record {
  len = length-set chart r.piece (rooted_by r) ∙ h.len;
  each = λ v l. elim (cases_eq v r.piece) [
    | inl same ↦ subst (λ u. Gives (prefix ++ r ∷ []) u (rooted_at (set chart r.piece (rooted_by r)) u)) (sym same)
        (subst (λ s. Gives (prefix ++ r ∷ []) r.piece s)
        (sym (get_or-set_same chart r.piece (rooted_by r) (own_root r.piece) (omega (arith, within, h.len))))
        (inl (Contains-push prefix r)))
    | inr other ↦ subst (λ s. Gives (prefix ++ r ∷ []) v s) (sym (get_or-set_other chart r.piece v (rooted_by r) (own_root v) other))
        (elim (h.each v l) [
          | inl in_prefix ↦ inl (Contains-append_left prefix (r ∷ []) _ in_prefix)
          | inr (none, root_is, odd_is) ↦ inr (All-push (λ s. s.piece ≢ v) prefix r none (λ e. other (sym e)), root_is, odd_is)
        ])
  ];
}

-- roots are at most their pieces
pub chart-low : (rows : List Star) (n : ℕ) (chart : List Rooted) → IsStarList rows → IsChart rows n chart → AreLow chart
chart-low rows n chart ordered h v l = elim (h.each v (omega (arith, l, h.len))) [
  | inl (k, within, is) ↦
      let low : (rooted_at chart v).root ≤ v = subst (λ (r : Star). r.root ≤ r.piece) is (ordered.low k (star v (rooted_at chart v).root (rooted_at chart v).odd) within) in
      omega (arith, low)
  | inr (none, root_is, odd_is) ↦ omega (arith, root_is)
]
