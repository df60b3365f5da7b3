-- Bands that stay the same from the first edge to the last.
use Rattle.std.proofs.Common.{◌≡◌, ℕ, ◌+◌, ◌<◌, ◌≤◌, ◌⊎◌, inl, inr, List, [], ◌∷◌, ◌++◌, length, get_or, set, take, refl, sym, subst, ◌∙◌}
use Rattle.std.proofs.Common.{arith, length-append, length-take, zero, suc}
use Rattle.std.specs.Prelude.{ℤ, pos, ◌≤ℤ◌, ◌<ℤ◌}
use Rattle.std.proofs.lemmas.Int.{ints, by_lt_z}
use Rattle.std.proofs.lemmas.Bool.{cases_lt, cases_order}
use Rattle.std.proofs.lemmas.List.{get_or-set_same, get_or-set_other, get_or_default, length-set}
use Rattle.dpl_spec_split.specs.declared.Rect.{Rect}
use Rattle.dpl_spec_split.specs.Squares.{Covers, SameSquares}
use Rattle.dpl_sweep.specs.declared.edge.Edge.{Edge}
use Rattle.dpl_sweep.specs.declared.edge.Rule.{Rule}
use Rattle.dpl_sweep.specs.declared.run.Run.{Run}
use Rattle.dpl_sweep.specs.declared.spans.Span.{Span}
use Rattle.dpl_sweep.specs.declared.bands.Bands.{One}
use Rattle.dpl_sweep.specs.Edges.{Told}
use Rattle.dpl_sweep.specs.Runs.{square, PutsRun, IsSwept}
use Rattle.dpl_sweep.specs.Closing.{PutsDown}
use Rattle.dpl_sweep.specs.Orders.{EdgesRise}
use Rattle.dpl_sweep.specs.Passes.{AreLeft, IsClosed}
use Rattle.dpl_sweep.specs.Few.{PassesBand}
use Rattle.dpl_sweep.specs.Spans.{AreInOrder, ArePassed, AreReady, AreShut, AreSpansOf, IsReady, run_at_span, span_at}
use Rattle.dpl_sweep.proofs.RunLaws.{none_right}
use Rattle.dpl_sweep.proofs.BandLaws.{rows-more, small-more}
use Rattle.dpl_sweep.proofs.RowLaws.{missed}
use Rattle.dpl_sweep.proofs.CloseLaws.{put-down-run}
use Rattle.dpl_sweep.proofs.PassLaws.{closed-inside, put-down-off, none-beside}

abbrev no_run : Run
no_run = record { from = pos 0; at = pos 0; a = pos 0; b = pos 0 }

-- spans that aren't the same share no row
apart-spans : (spans : List Span) (i j : ℕ) (y : ℤ) → AreInOrder spans → i < length spans → j < length spans → (i ≡ j → ⊥)
    → (span_at spans i).low ≤ℤ y → y <ℤ (span_at spans i).high → (y <ℤ (span_at spans j).low) ⊎ ((span_at spans j).high ≤ℤ y)
apart-spans spans i j y order i_in j_in differ low high = elim (cases_order i j) [
  | inl same ↦ absurd (differ same)
  | inr h ↦ elim h [
    | inl l ↦ inl (let k = order.pairs i j l j_in in omega (arith, ints, k, high))
    | inr m ↦ inr (let k = order.pairs j i m i_in in omega (arith, ints, k, low))
  ]
]

-- the edge is beside none of the span's rows
ready-missed : (rule : Rule) (es : List Edge) (e : Edge) (all : List Edge) (pieces : List Rect) (s : Span) (run : Run)
    → (e.y1 ≤ℤ s.low) ⊎ (s.high ≤ℤ e.y0) → IsReady rule es all pieces s run → IsReady rule (es ++ e ∷ []) all pieces s run
ready-missed rule es e all pieces s run off r =
    record {
      rows = λ j d l h. r.rows j d (let k = length-append es (e ∷ []) in omega (arith, l, k)) h;
      sums = small-more (length es) (length (es ++ e ∷ [])) (One run) (omega (arith, length-append es (e ∷ []))) r.sums;
      swept = λ y l h. (missed rule e s.low s.high (One run) pieces off).inside es y l h (r.swept y l h);
    }

-- past one edge more
ready-more : (rule : Rule) (es : List Edge) (e : Edge) (all : List Edge) (old new : List Rect) (s : Span) (run after : Run)
    → ((j : ℕ) (d : Edge) → length es ≤ j → j < length all → e.x ≤ℤ (get_or all j d).x)
    → PassesBand rule e s.low s.high (length es) run after old new → IsReady rule es all old s run
    → IsReady rule (es ++ e ∷ []) all new s after
ready-more rule es e all old new s run after right on r =
    record {
      rows = λ j d l h. rows-more s.low s.high e.x (get_or all j d).x (One after) (right j d (let k = length-append es (e ∷ []) in omega (arith, l, k)) h) on.rows;
      sums = small-more (length es + 1) (length (es ++ e ∷ [])) (One after) (omega (arith, length-append es (e ∷ []))) on.sums;
      swept = λ y l h. on.sweeps.inside es y l h (r.swept y l h);
    }

-- pieces were put down in other rows
ready-other : (rule : Rule) (es : List Edge) (all : List Edge) (old new : List Rect) (s : Span) (run : Run)
    → ((y : ℤ) → s.low ≤ℤ y → y <ℤ s.high → IsSwept rule es y old run → IsSwept rule es y new run) → IsReady rule es all old s run
    → IsReady rule es all new s run
ready-other rule es all old new s run keeps r = record { rows = r.rows; sums = r.sums; swept = λ y l h. keeps y l h (r.swept y l h) }

-- before the edge, where it is beside no row of the first k spans
pub passed-start : (rule : Rule) (es : List Edge) (e : Edge) (all : List Edge) (spans : List Span) (k : ℕ) (runs : List Run) (pieces : List Rect)
    → ((j : ℕ) → j < k → j < length spans → (span_at spans j).high ≤ℤ e.y0) → AreReady rule es all spans runs pieces → ArePassed rule es e all spans k runs pieces
passed-start rule es e all spans k runs pieces below r =
    record {
      len = r.len;
      before = λ j j_k j_in. ready-missed rule es e all pieces (span_at spans j) (run_at_span runs j) (inr (below j j_k j_in)) (r.ready j j_in);
      after = λ j k_j j_in. r.ready j j_in;
      outside = r.outside;
      apart = r.apart;
    }

-- the edges to come don't lie left of the next
pub next-right : (es : List Edge) (i : ℕ) (z : Edge) → EdgesRise es → i < length es → (j : ℕ) (d : Edge) → length (take i es) ≤ j
    → j < length es → (get_or es i z).x ≤ℤ (get_or es j d).x
next-right es i z rise i_in j d l j_in =
    let len = length-take i es in
    let r = rise i j d (omega (arith, l, len, i_in)) j_in in
    let there = get_or_default es i d z i_in in
    rw there at r

-- past the edge in one span more
module _ (rule : Rule) (es : List Edge) (e : Edge) (all : List Edge) (spans : List Span) (k : ℕ) (runs : List Run) (old new : List Rect)
    (after : Run) (order : AreInOrder spans) (k_in : k < length spans) (right : (j : ℕ) (d : Edge) → length es ≤ j → j < length all
    → e.x ≤ℤ (get_or all j d).x)
    (on : PassesBand rule e (span_at spans k).low (span_at spans k).high (length es) (run_at_span runs k) after old new) (p : ArePassed rule es e all spans k runs old) where
  there : run_at_span (set runs k after) k ≡ after
  there = get_or-set_same runs k after no_run (let h = p.len in omega (arith, h, k_in))

  elsewhere : (j : ℕ) → (j ≡ k → ⊥) → run_at_span (set runs k after) j ≡ run_at_span runs j
  elsewhere j differ = get_or-set_other runs k j after no_run differ

  keeps : (fs : List Edge) (j : ℕ) (run : Run) → j < length spans → (j ≡ k → ⊥) → (y : ℤ) → (span_at spans j).low ≤ℤ y
      → y <ℤ (span_at spans j).high → IsSwept rule fs y old run → IsSwept rule fs y new run
  keeps fs j run j_in differ y l h s = on.sweeps.outside fs y run (apart-spans spans j k y order j_in k_in differ l h) s

  pub passed-more : ArePassed rule es e all spans (k + 1) (set runs k after) new
  passed-more =
      record {
        len = length-set runs k after ∙ p.len;
        before = λ j j_k j_in. elim (cases_order j k) [
          | inl same ↦ subst (λ i. IsReady rule (es ++ e ∷ []) all new (span_at spans i) (run_at_span (set runs k after) i)) (sym same)
              (subst (IsReady rule (es ++ e ∷ []) all new (span_at spans k)) (sym there)
              (ready-more rule es e all old new (span_at spans k) (run_at_span runs k) after right on (p.after k (omega arith) k_in)))
          | inr h ↦ elim h [
            | inl l ↦ (let differ : j ≡ k → ⊥ = λ q. (let r : j ≡ k = q in omega (arith, r, l)) in
                subst (IsReady rule (es ++ e ∷ []) all new (span_at spans j)) (sym (elsewhere j differ))
                (ready-other rule (es ++ e ∷ []) all old new (span_at spans j) (run_at_span runs j) (keeps (es ++ e ∷ []) j (run_at_span runs j) j_in differ) (p.before j l j_in)))
            | inr m ↦ absurd (omega (arith, j_k, m))
          ]
        ];
        after = λ j k_j j_in. (
            let differ : j ≡ k → ⊥ = λ q. (let q : j ≡ k = q in omega (arith, q, k_j)) in
            subst (IsReady rule es all new (span_at spans j)) (sym (elsewhere j differ))
            (ready-other rule es all old new (span_at spans j) (run_at_span runs j) (keeps es j (run_at_span runs j) j_in differ) (p.after j (omega (arith, k_j)) j_in)));
        outside = λ y x none. on.rest.ends y x (none k k_in) (p.outside y x none);
        apart = on.sweeps.apart es (p.after k (omega arith) k_in).swept p.apart;
      }

-- past the edge, where it is beside no row of the other spans
pub passed-end : (rule : Rule) (es : List Edge) (e : Edge) (all : List Edge) (spans : List Span) (k : ℕ) (runs : List Run) (pieces : List Rect)
    → ((j : ℕ) → k ≤ j → j < length spans → e.y1 ≤ℤ (span_at spans j).low) → ArePassed rule es e all spans k runs pieces → AreReady rule (es ++ e ∷ []) all spans runs pieces
passed-end rule es e all spans k runs pieces above p =
    record {
      len = p.len;
      ready = λ j j_in. elim (cases_lt j k) [
        | inl l ↦ p.before j l j_in
        | inr m ↦ ready-missed rule es e all pieces (span_at spans j) (run_at_span runs j) (inl (above j m j_in)) (p.after j m j_in)
      ];
      outside = p.outside;
      apart = p.apart;
    }

-- spans that begin no lower than one that the edge ends at or below
pub above-all : (spans : List Span) (k : ℕ) (y : ℤ) → AreInOrder spans → (k < length spans → y ≤ℤ (span_at spans k).low) → (j : ℕ) → k ≤ j
    → j < length spans → y ≤ℤ (span_at spans j).low
above-all spans k y order here j k_j j_in = elim (cases_order j k) [
  | inl same ↦ subst (λ i. y ≤ℤ (span_at spans i).low) (sym same) (here (subst (λ i. i < length spans) same j_in))
  | inr c ↦ elim c [
    | inl l ↦ absurd (omega (arith, l, k_j))
    | inr m ↦ (
        let k_in : k < length spans = omega (arith, k_j, j_in) in
        let h = here k_in in
        let solid = order.solid k k_in in
        let pair = order.pairs k j m j_in in
        omega (arith, ints, h, solid, pair))
  ]
]

-- one run more is put down
module _ (rule : Rule) (es : List Edge) (x : ℤ) (all : List Edge) (spans : List Span) (k : ℕ) (runs : List Run) (old new : List Rect)
    (left : AreLeft es x) (closed : IsClosed rule es) (order : AreInOrder spans) (k_in : k < length spans)
    (put : PutsRun (run_at_span runs k) (span_at spans k).low (span_at spans k).high old new) (p : AreShut rule es all spans k runs old) where
  here : IsReady rule es all old (span_at spans k) (run_at_span runs k)
  here = p.after k (omega arith) k_in

  down : PutsDown (span_at spans k).low (span_at spans k).high (One (run_at_span runs k)) old new
  down = put-down-run (span_at spans k).low (span_at spans k).high (One (run_at_span runs k)) (run_at_span runs k) old new (order.solid k k_in) refl put

  keeps_run : (j : ℕ) (run : Run) → j < length spans → (j ≡ k → ⊥) → (y : ℤ) → (span_at spans j).low ≤ℤ y → y <ℤ (span_at spans j).high
      → IsSwept rule es y old run → IsSwept rule es y new run
  keeps_run j run j_in differ y l h s =
      let off = apart-spans spans j k y order j_in k_in differ l h in
      record {
        order = s.order;
        ends = down.outside y run.from off s.ends;
        covers = λ z m. (
            let same = put-down-off (span_at spans k).low (span_at spans k).high (One (run_at_span runs k)) old new (square z y) off down in
            let told = s.covers z m in (
              (λ c. elim c [ inl a ↦ told.0 (inl (same.0 a)) | inr b ↦ told.0 (inr b) ]),
              λ t. elim (told.1 t) [ inl a ↦ inl (same.1 a) | inr b ↦ inr b ],
            ));
        sums = s.sums;
      }

  pub shut-more : AreShut rule es all spans (k + 1) runs new
  shut-more =
      record {
        before = λ j j_k j_in q l h. elim (cases_order j k) [
          | inl same ↦ (
              let l : (span_at spans k).low ≤ℤ q.y = subst (λ i. (span_at spans i).low ≤ℤ q.y) same l in
              let h : q.y <ℤ (span_at spans k).high = subst (λ i. q.y <ℤ (span_at spans i).high) same h in
              closed-inside rule es (span_at spans k).low (span_at spans k).high x q.y old new (One (run_at_span runs k)) left closed l h (here.swept q.y l h) down q.x)
          | inr c ↦ elim c [
            | inl m ↦ (
                let differ : j ≡ k → ⊥ = λ e. (let r : j ≡ k = e in omega (arith, r, m)) in
                let same = put-down-off (span_at spans k).low (span_at spans k).high (One (run_at_span runs k)) old new q
                (apart-spans spans j k q.y order j_in k_in differ l h) down in
                let told = p.before j m j_in q l h in
                (λ a. told.0 (same.0 a), λ t. same.1 (told.1 t)))
            | inr m ↦ absurd (omega (arith, j_k, m))
          ]
        ];
        after = λ j k_j j_in. (
            let differ : j ≡ k → ⊥ = λ e. (let r : j ≡ k = e in omega (arith, r, k_j)) in
            ready-other rule es all old new (span_at spans j) (run_at_span runs j) (keeps_run j (run_at_span runs j) j_in differ) (p.after j (omega (arith, k_j)) j_in));
        outside = λ y z none. down.outside y z (none k k_in) (p.outside y z none);
        apart = down.apart (λ y l h. (here.swept y l h).ends) p.apart;
      }

pub shut-start : (rule : Rule) (es : List Edge) (all : List Edge) (spans : List Span) (runs : List Run) (pieces : List Rect)
    → AreReady rule es all spans runs pieces → AreShut rule es all spans 0 runs pieces
shut-start rule es all spans runs pieces r = record { before = λ j none. absurd (omega (arith, none)); after = λ j none j_in. r.ready j j_in; outside = r.outside; apart = r.apart }

-- a row is in one of the spans or in none
find-span : (spans : List Span) (y : ℤ) (n : ℕ) → n ≤ length spans
    → ((k : ℕ) × (k < n) × ((span_at spans k).low ≤ℤ y) × (y <ℤ (span_at spans k).high)) ⊎ ((k : ℕ) → k < n → (y <ℤ (span_at spans k).low)
    ⊎ ((span_at spans k).high ≤ℤ y))
find-span spans y zero l = inr (λ k none. absurd (omega (arith, none)))
find-span spans y (suc n) l = elim (find-span spans y n (omega (arith, l))) [
  | inl (k, k_in, a, b) ↦ inl (k, omega (arith, k_in), a, b)
  | inr none ↦ by_lt_z y (span_at spans n).low
      (λ m. inr (λ k k_in. elim (cases_lt k n) [ inl i ↦ none k i | inr j ↦ (let same : n ≡ k = omega (arith, j, k_in) in inl (subst (λ i. y <ℤ (span_at spans i).low) same m)) ]))
      (λ m. by_lt_z y (span_at spans n).high
      (λ h. inl (n, omega arith, m, h))
      (λ h. inr (λ k k_in. elim (cases_lt k n) [
        | inl i ↦ none k i
        | inr j ↦ (let same : n ≡ k = omega (arith, j, k_in) in
            inr (subst (λ i. (span_at spans i).high ≤ℤ y) same h))
      ])))
]

pub shut-all : (rule : Rule) (es : List Edge) (all : List Edge) (spans : List Span) (k : ℕ) (runs : List Run) (pieces : List Rect)
    → length spans ≤ k → AreSpansOf es spans → AreShut rule es all spans k runs pieces → SameSquares (Covers pieces) (Told rule es)
shut-all rule es all spans k runs pieces end of p q = elim (find-span spans q.y (length spans) (omega arith)) [
  | inl (j, j_in, l, h) ↦ p.before j (omega (arith, j_in, end)) j_in q l h
  | inr none ↦ (λ c. absurd (none_right pieces q.y q.x q.x (p.outside q.y q.x none) (omega (arith, ints)) c), λ t. absurd (none-beside rule es q (of.others q.y none) t))
]

-- spans that end no higher than one that ends at the row or below
pub below-all : (spans : List Span) (n : ℕ) (row : ℤ) → AreInOrder spans → n < length spans → (span_at spans n).high ≤ℤ row → (j : ℕ) → j ≤ n → (span_at spans j).high ≤ℤ row
below-all spans n row order n_in here j j_n = elim (cases_order j n) [
  | inl same ↦ subst (λ i. (span_at spans i).high ≤ℤ row) (sym same) here
  | inr c ↦ elim c [
    | inl l ↦ (
        let solid = order.solid n n_in in
        let pair = order.pairs j n l n_in in
        omega (arith, ints, here, solid, pair))
    | inr m ↦ absurd (omega (arith, m, j_n))
  ]
]
