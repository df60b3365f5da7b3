-- Bands between neighbouring rows of edges.
use Rattle.std.proofs.Common.{◌≡◌, ℕ, ◌+◌, ◌<◌, ◌⊎◌, inl, inr, List, [], ◌∷◌, ◌++◌, length, get_or, take, refl, sym, subst, arith, length-append, length-take}
use Rattle.std.specs.Prelude.{ℤ, ◌≤ℤ◌, ◌<ℤ◌}
use Rattle.std.specs.List.{All}
use Rattle.std.proofs.lemmas.Int.{ints, by_lt_z}
use Rattle.std.proofs.lemmas.List.Elements.{All-more, All-weaker, All-contains, Contains-push}
use Rattle.dpl_spec_split.specs.declared.Rect.{Rect}
use Rattle.dpl_spec_split.specs.Squares.{Covers, SameSquares}
use Rattle.dpl_sweep.specs.declared.edge.Edge.{Edge}
use Rattle.dpl_sweep.specs.declared.edge.Rule.{Rule}
use Rattle.dpl_sweep.specs.declared.run.Run.{Run}
use Rattle.dpl_sweep.specs.declared.bands.Bands.{One}
use Rattle.dpl_sweep.specs.Edges.{Told}
use Rattle.dpl_order.specs.Pieces.{Puts}
use Rattle.dpl_sweep.specs.Runs.{piece_of, PutsRun, Moves}
use Rattle.dpl_sweep.specs.Rows.{AreRows, IsSmall}
use Rattle.dpl_sweep.specs.Closing.{PutsDown}
use Rattle.dpl_sweep.specs.Passes.{AreLeft, IsClosed, IsStart, IsUnitEdge}
use Rattle.dpl_sweep.specs.Few.{AreDone, EndsOutside, IsBandPassed, IsWithin, LeavesRest, PassesBand}
use Rattle.dpl_sweep.proofs.RunLaws.{none_right}
use Rattle.dpl_sweep.proofs.BandLaws.{rows-more, small-more}
use Rattle.dpl_sweep.proofs.RowLaws.{missed, spanned, rows-moved, small-moved}
use Rattle.dpl_sweep.proofs.CloseLaws.{put-down-run}
use Rattle.dpl_sweep.proofs.PassLaws.{start-swept, none-ends, none-apart, closed-inside, put-down-off, none-beside, take-next}

-- the lowest row and the highest so far
pub within-more : (es : List Edge) (i : ℕ) (d : Edge) (row next top high : ℤ) → i < length es → next ≤ℤ row → top ≤ℤ high
    → IsWithin next high (get_or es i d) → All (IsWithin row top) (take i es) → All (IsWithin next high) (take (i + 1) es)
within-more es i d row next top high i_in lower higher here before =
    All-more (IsWithin next high) es i d i_in
    (All-weaker (IsWithin row top) (IsWithin next high) (λ e h. (let f = h.from in let g = h.to in
    record { from = omega (arith, ints, lower, f); to = omega (arith, ints, higher, g) })) (take i es) before)
    here

-- the nearest row so far
pub outside-more : (es : List Edge) (i : ℕ) (d : Edge) (row far next : ℤ) → i < length es → next ≤ℤ far
    → EndsOutside row next (get_or es i d) → All (EndsOutside row far) (take i es) → All (EndsOutside row next) (take (i + 1) es)
outside-more es i d row far next i_in nearer here before =
    All-more (EndsOutside row next) es i d i_in
    (All-weaker (EndsOutside row far) (EndsOutside row next)
    (λ e h. record {
      begins = elim h.begins [ inl a ↦ inl a | inr b ↦ inr (omega (arith, ints, b, nearer)) ];
      ends = elim h.ends [ inl a ↦ inl a | inr b ↦ inr (omega (arith, ints, b, nearer)) ];
    }) (take i es) before)
    here

-- of a row and both rows of an edge, the nearest above the first
pub outside-next : (row next first last : ℤ) (e : Edge) → (e.y0 ≤ℤ row) ⊎ (first ≡ e.y0) → (e.y1 ≤ℤ row) ⊎ (last ≡ e.y1) → next ≤ℤ first → next ≤ℤ last → EndsOutside row next e
outside-next row next first last e begins ends l m =
    record {
      begins = elim begins [ inl a ↦ inl a | inr b ↦ inr (omega (arith, ints, b, l)) ];
      ends = elim ends [ inl a ↦ inl a | inr b ↦ inr (omega (arith, ints, b, m)) ];
    }

rest-same : (low high : ℤ) (old new : List Rect) → new ≡ old → LeavesRest low high old new
rest-same low high old new same = subst (LeavesRest low high old) (sym same) (record { covers = λ p off. (λ h. h, λ h. h); ends = λ y x off h. h })

rest-put : (low high : ℤ) (run : Run) (old new : List Rect) → Puts old new (piece_of run low high) → LeavesRest low high old new
rest-put low high run old new put =
    let none : (y : ℤ) → (y <ℤ low) ⊎ (high ≤ℤ y) → low ≤ℤ y → y <ℤ high → ⊥ = λ y off l h. elim off [ inl a ↦ omega (arith, ints, a, l) | inr b ↦ omega (arith, ints, b, h) ] in
    record {
      covers = λ p off. (λ h. elim ((put.covers p).0 h) [ inl a ↦ a | inr b ↦ absurd (none p.y off b.low b.high) ], λ h. (put.covers p).1 (inl h));
      ends = λ y x off h. put.ends y x h (λ l m. absurd (none y off l m));
    }

rest-moved : (rule : Rule) (e : Edge) (low high : ℤ) (run after : Run) (old new : List Rect) → Moves rule run e low high old new after → LeavesRest low high old new
rest-moved rule e low high run after old new m = elim m.settles [
  | inl c ↦ rest-same low high old new c.same
  | inr d ↦ elim d [
    | inl c ↦ rest-same low high old new c.same
    | inr f ↦ elim f [ inl c ↦ rest-same low high old new c.same | inr c ↦ rest-put low high run old new c.put ]
  ]
]

rest-after : (low high : ℤ) (old mid new : List Rect) → LeavesRest low high old mid → LeavesRest low high mid new → LeavesRest low high old new
rest-after low high old mid new f g =
    record {
      covers = λ p off. (λ h. (f.covers p off).0 ((g.covers p off).0 h), λ h. (g.covers p off).1 ((f.covers p off).1 h));
      ends = λ y x off h. g.ends y x off (f.ends y x off h);
    }

-- the edge is beside none of the band's rows
pub passes-missed : (rule : Rule) (e : Edge) (low high : ℤ) (count : ℕ) (run : Run) (pieces : List Rect) → (e.y1 ≤ℤ low) ⊎ (high ≤ℤ e.y0)
    → AreRows low high e.x (One run) → IsSmall count (One run) → PassesBand rule e low high count run run pieces pieces
passes-missed rule e low high count run pieces off rows sums =
    record {
      sweeps = missed rule e low high (One run) pieces off;
      rows = rows;
      sums = small-more count (count + 1) (One run) (omega arith) sums;
      rest = rest-same low high pieces pieces refl;
    }

-- the edge is beside some of them, and so beside all
pub passes-moved : (rule : Rule) (e : Edge) (low high : ℤ) (count : ℕ) (run after : Run) (old new : List Rect) → low <ℤ high
    → (low <ℤ e.y1) × (e.y0 <ℤ high) → EndsOutside low high e → IsUnitEdge e → AreRows low high e.x (One run) → IsSmall count (One run)
    → Moves rule run e low high old new after → PassesBand rule e low high count run after old new
passes-moved rule e low high count run after old new up (meets, meets_too) outside unit rows sums m =
    let from : e.y0 ≤ℤ low = elim outside.begins [ inl a ↦ a | inr b ↦ absurd (omega (arith, ints, b, meets_too)) ] in
    let to : high ≤ℤ e.y1 = elim outside.ends [ inl a ↦ absurd (omega (arith, ints, a, meets)) | inr b ↦ b ] in
    record {
      sweeps = spanned rule e low high run after old new up from to rows m;
      rows = rows-moved low high rule e run after old new m;
      sums = small-moved low high count rule e run after old new unit.a unit.b sums m;
      rest = rest-moved rule e low high run after old new m;
    }

-- before any edge
pub band-start : (rule : Rule) (all : List Edge) (low high : ℤ) (start : Run) (pieces : List Rect) → IsStart start
    → AreDone rule all low pieces → IsBandPassed rule [] low high start pieces pieces start
band-start rule all low high start pieces st done =
    let a = st.a in
    let b = st.b in
    record {
      rows = λ x l left. l;
      sums = (omega (arith, ints, a), omega (arith, ints, b));
      swept = λ y l h. start-swept rule y pieces start st (λ x. done.above y x l);
      rest = rest-same low high pieces pieces refl;
      apart = done.apart;
    }

-- past one edge more
pub band-more : (rule : Rule) (es : List Edge) (low high : ℤ) (start : Run) (first old new : List Rect) (run after : Run) (e : Edge)
    → IsBandPassed rule es low high start first old run → PassesBand rule e low high (length es) run after old new
    → IsBandPassed rule (es ++ e ∷ []) low high start first new after
band-more rule es low high start first old new run after e before on =
    record {
      rows = λ x l left. rows-more low high e.x x (One after) (left e (Contains-push es e)) on.rows;
      sums = small-more (length es + 1) (length (es ++ e ∷ [])) (One after) (omega (arith, length-append es (e ∷ []))) on.sums;
      swept = λ y l h. on.sweeps.inside es y l h (before.swept y l h);
      rest = rest-after low high first old new before.rest on.rest;
      apart = on.sweeps.apart es before.swept before.apart;
    }

pub band-next : (rule : Rule) (es : List Edge) (n : ℕ) (low high : ℤ) (start : Run) (first old new : List Rect) (run after : Run) (e : Edge) → n < length es → e ≡ get_or es n e
    → IsBandPassed rule (take n es) low high start first old run → PassesBand rule e low high n run after old new
    → IsBandPassed rule (take (n + 1) es) low high start first new after
band-next rule es n low high start first old new run after e n_in e_is before on =
    let len : n ≡ length (take n es) = (let h = length-take n es in omega (arith, h, n_in)) in
    let step : take (n + 1) es ≡ take n es ++ e ∷ [] = take-next es n e n_in e_is in
    rw step (band-more rule (take n es) low high start first old new run after e before (subst (λ k. PassesBand rule e low high k run after old new) len on))

-- past all edges, once the run is put down
module _ (rule : Rule) (es : List Edge) (low high x : ℤ) (start run : Run) (first old new : List Rect) (up : low <ℤ high)
    (left : AreLeft es x) (closed : IsClosed rule es) (done : AreDone rule es low first)
    (before : IsBandPassed rule es low high start first old run) (put : PutsRun run low high old new) where
  down : PutsDown low high (One run) old new
  down = put-down-run low high (One run) run old new up refl put

  pub band-done : AreDone rule es high new
  band-done =
      record {
        covers = λ p h. by_lt_z p.y low
            (λ l.
            let same = put-down-off low high (One run) old new p (inl l) down in
            let rest = before.rest.covers p (inl l) in
            let told = done.covers p l in
            (λ k. told.0 (rest.0 (same.0 k)), λ k. same.1 (rest.1 (told.1 k))))
            (λ l. closed-inside rule es low high x p.y old new (One run) left closed l h (before.swept p.y l h) down p.x);
        above = λ y z h. down.outside y z (inr h) (before.rest.ends y z (inr h) (done.above y z (omega (arith, ints, up, h))));
        apart = down.apart (λ y l h. (before.swept y l h).ends) before.apart;
      }

-- below all edges
pub done-none : (rule : Rule) (es : List Edge) (low top : ℤ) → All (IsWithin low top) es → AreDone rule es low []
done-none rule es low top within =
    record {
      covers = λ p l. (
        (λ h. absurd (none_right [] p.y p.x p.x (none-ends p.y p.x) (omega (arith, ints)) h)),
        λ h. absurd (none-beside rule es p (λ e e_in. (let f = All-contains (IsWithin low top) es e within e_in in let g = f.from in inl (omega (arith, ints, g, l)))) h),
      );
      above = λ y x l. none-ends y x;
      apart = none-apart;
    }

-- above all edges
pub done-all : (rule : Rule) (es : List Edge) (low top row : ℤ) (pieces : List Rect) → top ≤ℤ row → All (IsWithin low top) es
    → AreDone rule es row pieces → SameSquares (Covers pieces) (Told rule es)
done-all rule es low top row pieces over within done p = by_lt_z p.y row
    (λ l. done.covers p l)
    (λ m. (
      (λ h. absurd (none_right pieces p.y p.x p.x (done.above p.y p.x m) (omega (arith, ints)) h)),
      λ h. absurd (none-beside rule es p (λ e e_in. (let f = All-contains (IsWithin low top) es e within e_in in let g = f.to in inr (omega (arith, ints, g, m, over)))) h),
    ))
