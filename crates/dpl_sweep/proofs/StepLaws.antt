-- Bands between neighbours among all rows of edges.
use Rattle.std.proofs.Common.{◌≡◌, ℕ, ◌+◌, ◌-◌, ◌<◌, ◌≤◌, ◌⊎◌, inl, inr, List, [], ◌∷◌, ◌++◌, length, get_or, take, replicate, refl, sym, ap, subst, ◌∙◌, arith, length-append}
use Rattle.std.specs.Prelude.{ℤ, pos, ◌≤ℤ◌, ◌<ℤ◌}
use Rattle.std.specs.List.{All, Contains}
use Rattle.std.specs.List.Sorted.{IsPermutation}
use Rattle.std.proofs.lemmas.Bool.{cases_lt}
use Rattle.std.proofs.lemmas.Int.{ints, by_lt_z}
use Rattle.std.proofs.lemmas.List.{get_or_append_left, get_or_push, get_or_default, get_or-replicate, length-replicate}
use Rattle.std.proofs.lemmas.List.Elements.{All-contains, All-more, All-weaker, Contains-push, Contains-append_left}
use Rattle.std.proofs.lemmas.List.Sorted.{Contains-permutation}
use Rattle.dpl_sweep.specs.declared.edge.Edge.{Edge}
use Rattle.dpl_sweep.specs.declared.edge.Rule.{Rule}
use Rattle.dpl_sweep.specs.declared.run.Run.{Run}
use Rattle.dpl_sweep.specs.declared.spans.Span.{Span}
use Rattle.dpl_sweep.specs.Spans.{AddsStep, AreReady, AreSpansOf, AreSteps, HasEnds, IsInSome, IsReady, IsStep, row_at, span_at}
use Rattle.dpl_sweep.specs.Orders.{EdgesRise, RowsRise}
use Rattle.dpl_sweep.specs.Passes.{IsStart}
use Rattle.dpl_sweep.proofs.PassLaws.{start-swept, none-ends, none-apart}

abbrev no_run : Run
no_run = record { from = pos 0; at = pos 0; a = pos 0; b = pos 0 }

abbrev no_span : Span
no_span = record { low = pos 0; high = pos 0 }

pub ends-more : (es : List Edge) (i : ℕ) (d : Edge) (ends : List ℤ) → i < length es → All (HasEnds ends) (take i es)
    → All (HasEnds ((ends ++ (get_or es i d).y0 ∷ []) ++ (get_or es i d).y1 ∷ [])) (take (i + 1) es)
ends-more es i d ends i_in before =
    let e : Edge = get_or es i d in
    let all : List ℤ = (ends ++ e.y0 ∷ []) ++ e.y1 ∷ [] in
    All-more (HasEnds all) es i d i_in
    (All-weaker (HasEnds ends) (HasEnds all)
    (λ f h. record {
      first = Contains-append_left (ends ++ e.y0 ∷ []) (e.y1 ∷ []) f.y0 (Contains-append_left ends (e.y0 ∷ []) f.y0 h.first);
      last = Contains-append_left (ends ++ e.y0 ∷ []) (e.y1 ∷ []) f.y1 (Contains-append_left ends (e.y0 ∷ []) f.y1 h.last);
    }) (take i es) before)
    (record { first = Contains-append_left (ends ++ e.y0 ∷ []) (e.y1 ∷ []) e.y0 (Contains-push ends e.y0); last = Contains-push (ends ++ e.y0 ∷ []) e.y1 })

pub ends-permutation : (es : List Edge) (xs ys : List ℤ) → IsPermutation xs ys → All (HasEnds xs) es → All (HasEnds ys) es
ends-permutation es xs ys same h = All-weaker (HasEnds xs) (HasEnds ys)
    (λ e k. record { first = Contains-permutation xs ys e.y0 same k.first; last = Contains-permutation xs ys e.y1 same k.last }) es h

pub steps-start : (ends : List ℤ) → AreSteps ends 0 []
steps-start ends =
    record {
      order = record { solid = λ k h. absurd (omega (arith, h)); pairs = λ i j l h. absurd (omega (arith, h)) };
      steps = λ j h. absurd (omega (arith, h));
      below = λ j h. absurd (omega (arith, h));
      all = λ y a b. absurd (omega (arith, ints, a, b));
    }

-- the next row is the same once more
pub steps-same : (ends : List ℤ) (last : ℕ) (spans : List Span) → RowsRise ends → last + 1 < length ends
    → row_at ends (last + 1) ≤ℤ row_at ends last → AreSteps ends last spans → AreSteps ends (last + 1) spans
steps-same ends last spans rise within same p =
    record {
      order = p.order;
      steps = p.steps;
      below = λ j j_in. (let h = p.below j j_in in let r = rise last (last + 1) (pos 0) (omega arith) within in omega (arith, ints, h, r));
      all = λ y a b. p.all y a (omega (arith, ints, b, same));
    }

-- the next row is higher
module _ (ends : List ℤ) (last : ℕ) (spans : List Span) (s : Span) (within : last + 1 < length ends) (low : s.low ≡ row_at ends last)
    (high : s.high ≡ row_at ends (last + 1)) (up : row_at ends last <ℤ row_at ends (last + 1)) (p : AreSteps ends last spans) where
  abbrev more : List Span
  more = spans ++ s ∷ []

  len : length more ≡ length spans + 1
  len = length-append spans (s ∷ [])

  at_old : (j : ℕ) → j < length spans → span_at more j ≡ span_at spans j
  at_old j j_in = get_or_append_left spans (s ∷ []) no_span j j_in

  at_last : (j : ℕ) → length spans ≡ j → span_at more j ≡ s
  at_last j same = get_or_push spans s no_span j same

  each : (P : Span → Type 0) → ((j : ℕ) → j < length spans → P (span_at spans j)) → P s → (j : ℕ) → j < length more → P (span_at more j)
  each P old new j j_in = elim (cases_lt j (length spans)) [
    | inl l ↦ subst P (sym (at_old j l)) (old j l)
    | inr m ↦ subst P (sym (at_last j (omega (arith, m, j_in, len)))) new
  ]

  in_pairs : (i j : ℕ) → i < j → j < length more → (span_at more i).high ≤ℤ (span_at more j).low
  in_pairs i j l j_in =
      let i_in : i < length spans = omega (arith, l, j_in, len) in
      subst (λ t. let u : Span = t in u.high ≤ℤ (span_at more j).low) (sym (at_old i i_in))
      (elim (cases_lt j (length spans)) [
        | inl m ↦ subst (λ t. let u : Span = t in (span_at spans i).high ≤ℤ u.low) (sym (at_old j m)) (p.order.pairs i j l m)
        | inr m ↦ subst (λ t. let u : Span = t in (span_at spans i).high ≤ℤ u.low) (sym (at_last j (omega (arith, m, j_in, len))))
            (let h = p.below i i_in in omega (arith, ints, h, low))
      ])

  in_some : (y : ℤ) → row_at ends 0 ≤ℤ y → y <ℤ row_at ends (last + 1) → IsInSome more y
  in_some y a b = by_lt_z y (row_at ends last)
      (λ l. (let (k, k_in, c, d) = p.all y a l in (
        k,
        omega (arith, k_in, len),
        subst (λ t. let u : Span = t in u.low ≤ℤ y) (sym (at_old k k_in)) c,
        subst (λ t. let u : Span = t in y <ℤ u.high) (sym (at_old k k_in)) d,
      )))
      (λ m. (
        length spans,
        omega (arith, len),
        subst (λ t. let u : Span = t in u.low ≤ℤ y) (sym (at_last (length spans) refl)) (omega (arith, ints, low, m)),
        subst (λ t. let u : Span = t in y <ℤ u.high) (sym (at_last (length spans) refl)) (omega (arith, ints, high, b)),
      ))

  pub steps-push : AreSteps ends (last + 1) more
  steps-push =
      record {
        order = record { solid = each (λ t. t.low <ℤ t.high) p.order.solid (omega (arith, ints, low, high, up)); pairs = in_pairs };
        steps = each (IsStep ends) p.steps (last, within, low, high);
        below = each (λ t. t.high ≤ℤ row_at ends (last + 1)) (λ j j_in. (let h = p.below j j_in in omega (arith, ints, h, up))) (omega (arith, ints, high));
        all = in_some;
      }

pub steps-next : (ends : List ℤ) (k : ℕ) (old new : List Span) → RowsRise ends → 1 ≤ k → k < length ends
    → AddsStep (row_at ends (k - 1)) (row_at ends k) old new → AreSteps ends (k - 1) old → AreSteps ends (k + 1 - 1) new
steps-next ends k old new rise some within adds p =
    let here : k - 1 + 1 ≡ k = omega (arith, some) in
    let there : k + 1 - 1 ≡ k = omega arith in
    let next : AreSteps ends (k - 1 + 1) new = elim adds [
      | inl (same, e) ↦ subst (AreSteps ends (k - 1 + 1)) (sym e) (steps-same ends (k - 1) old rise (omega (arith, here, within))
          (subst (λ i. row_at ends i ≤ℤ row_at ends (k - 1)) (sym here) same) p)
      | inr (up, e) ↦ subst (AreSteps ends (k - 1 + 1)) (sym e)
          (steps-push ends (k - 1) old (record { low = row_at ends (k - 1); high = row_at ends k }) (omega (arith, here, within)) refl
          (ap (row_at ends) (sym here)) (subst (λ i. row_at ends (k - 1) <ℤ row_at ends i) (sym here) up) p)
    ] in
    subst (λ i. AreSteps ends i new) (here ∙ sym there) next

at-index : (ends : List ℤ) (a : ℕ) (y : ℤ) → a < length ends → get_or ends a y ≡ y → row_at ends a ≡ y
at-index ends a y a_in is = get_or_default ends a (pos 0) y a_in ∙ is

step-outside : (ends : List ℤ) (m : ℕ) (y : ℤ) → RowsRise ends → m + 1 < length ends → Contains ends y → (y ≤ℤ row_at ends m) ⊎ (row_at ends (m + 1) ≤ℤ y)
step-outside ends m y rise m_in (a, a_in, is) =
    let there = at-index ends a y a_in is in
    elim (cases_lt m a) [
      | inl l ↦ inr (let r = rise (m + 1) a (pos 0) (omega (arith, l)) a_in in omega (arith, ints, r, there))
      | inr g ↦ inl (let r = rise a m (pos 0) g (omega (arith, m_in)) in omega (arith, ints, r, there))
    ]

pub spans-of : (es : List Edge) (ends : List ℤ) (spans : List Span) → RowsRise ends → All (HasEnds ends) es → AreSteps ends (length ends - 1) spans → AreSpansOf es spans
spans-of es ends spans rise has p =
    record {
      order = p.order;
      outside = λ k k_in i d i_in. (
          let (m, m_in, lo, hi) = p.steps k k_in in
          let h = has i d i_in in
          let a = step-outside ends m (get_or es i d).y0 rise m_in h.first in
          let b = step-outside ends m (get_or es i d).y1 rise m_in h.last in
          record {
            begins = elim a [ inl l ↦ inl (omega (arith, ints, l, lo)) | inr g ↦ inr (omega (arith, ints, g, hi)) ];
            ends = elim b [ inl l ↦ inl (omega (arith, ints, l, lo)) | inr g ↦ inr (omega (arith, ints, g, hi)) ];
          });
      others = λ y none e e_in. by_lt_z y e.y0
          (λ l. inl l)
          (λ m. by_lt_z y e.y1
          (λ l.
          let h = All-contains (HasEnds ends) es e has e_in in
          let (a, a_in, a_is) = h.first in
          let (b, b_in, b_is) = h.last in
          let first = at-index ends a e.y0 a_in a_is in
          let last = at-index ends b e.y1 b_in b_is in
          let r = rise 0 a (pos 0) (omega arith) a_in in
          let s = rise b (length ends - 1) (pos 0) (omega (arith, b_in)) (omega (arith, b_in)) in
          let (k, k_in, lo, hi) = p.all y (omega (arith, ints, first, r, m)) (omega (arith, ints, last, s, l)) in
          absurd (elim (none k k_in) [ inl q ↦ omega (arith, ints, q, lo) | inr q ↦ omega (arith, ints, q, hi) ]))
          (λ g. inr g));
    }

-- no edge lies left of the first
pub first-right : (es : List Edge) (z : Edge) → EdgesRise es → (j : ℕ) (d : Edge) → j < length es → (get_or es 0 z).x ≤ℤ (get_or es j d).x
first-right es z rise j d j_in =
    let r = rise 0 j d (omega arith) j_in in
    let there = get_or_default es 0 d z (omega (arith, j_in)) in
    rw there at r

-- before any edge
pub ready-start : (rule : Rule) (all : List Edge) (start : Run) (spans : List Span) → IsStart start
    → ((j : ℕ) (d : Edge) → j < length all → start.at ≤ℤ (get_or all j d).x) → AreReady rule [] all spans (replicate (length spans) start) []
ready-start rule all start spans st first =
    let a = st.a in
    let b = st.b in
    record {
      len = length-replicate (length spans) start;
      ready = λ j j_in. subst (IsReady rule [] all [] (span_at spans j)) (sym (get_or-replicate (length spans) j start no_run j_in))
          (record { rows = λ i d l h. first i d h; sums = (omega (arith, ints, a), omega (arith, ints, b)); swept = λ y l h. start-swept rule y [] start st (none-ends y) });
      outside = λ y x none. none-ends y x;
      apart = none-apart;
    }
