-- Runs put down once all edges are passed.
use Rattle.std.proofs.Common.{◌≡◌, ◌⊎◌, inl, inr, List, sym, subst, arith}
use Rattle.std.specs.Prelude.{ℤ, ◌≤ℤ◌, ◌<ℤ◌}
use Rattle.std.proofs.lemmas.Int.{ints, by_lt_z}
use Rattle.std.proofs.lemmas.List.Elements.{All-contains}
use Rattle.dpl_spec_split.specs.declared.Pt.{Pt}
use Rattle.dpl_spec_split.specs.declared.Rect.{Rect}
use Rattle.dpl_spec_split.specs.Slabs.{IsSolid}
use Rattle.dpl_sweep.specs.declared.run.Run.{Run}
use Rattle.dpl_sweep.specs.declared.bands.Bands.{Bands, One}
use Rattle.dpl_order.specs.Pieces.{EndBefore, Puts}
use Rattle.dpl_sweep.specs.Runs.{PutsRun, piece_of}
use Rattle.dpl_sweep.specs.Rows.{run_at, ArePartsOf}
use Rattle.dpl_sweep.specs.Closing.{IsOfRun, PutsDown}

-- a band without a run
put-down-none : (low high : ℤ) (run : Run) (pieces : List Rect) → run.at ≤ℤ run.from → PutsDown low high (One run) pieces pieces
put-down-none low high run pieces none =
    record {
      covers = λ p. (λ h. inl h, λ h. elim h [ inl a ↦ a | inr b ↦ absurd (let f = b.from in let t = b.to in omega (arith, ints, f, t, none)) ]);
      outside = λ y x off h. h;
      apart = λ ends a. a;
    }

-- a band with a run
put-down-one : (low high : ℤ) (run : Run) (old new : List Rect) → low <ℤ high → run.from <ℤ run.at → Puts old new (piece_of run low high) → PutsDown low high (One run) old new
put-down-one low high run old new up some put =
    record {
      covers = λ p. (
        (λ h. elim ((put.covers p).0 h) [ inl a ↦ inl a | inr b ↦ inr (record { over = b.low; under = b.high; from = b.left; to = b.right }) ]),
        λ h. (put.covers p).1 (elim h [ inl a ↦ inl a | inr b ↦ inr (record { left = b.from; right = b.to; low = b.over; high = b.under }) ]),
      );
      outside = λ y x off h. put.ends y x h (λ l m. absurd (elim off [ inl a ↦ omega (arith, ints, a, l) | inr b ↦ omega (arith, ints, b, m) ]));
      apart = λ ends before. put.apart
          (record { wide = some; tall = up })
          (λ r r_in rows. by_lt_z r.y0 low
          (λ l. ends low (omega (arith, ints)) up r r_in (omega (arith, ints, l)) rows.1)
          (λ m. (let solid : IsSolid r = All-contains IsSolid old r before.solid r_in in ends r.y0 m rows.0 r r_in (omega (arith, ints)) solid.tall)))
          before;
    }

-- one band
pub put-down-run : (low high : ℤ) (t : Bands) (run : Run) (old new : List Rect) → low <ℤ high → t ≡ One run → PutsRun run low high old new → PutsDown low high t old new
put-down-run low high t run old new up is put = subst (λ u. PutsDown low high u old new) (sym is) (elim put [
  | inl (none, same) ↦ subst (PutsDown low high (One run) old) (sym same) (put-down-none low high run old none)
  | inr (some, piece) ↦ put-down-one low high run old new up some piece
])

-- the lower rows, then the upper
module _ (low row high : ℤ) (t b a : Bands) (old mid new : List Rect) (up : low <ℤ row) (on : row <ℤ high) (parts : ArePartsOf t row b a)
    (first : PutsDown low row b old mid) (second : PutsDown row high a mid new) where
  of_below : (p : Pt) → IsOfRun low row b p → IsOfRun low high t p
  of_below p h =
      let is = parts.below p.y h.under in
      let m = h.under in
      record {
        over = h.over;
        under = omega (arith, ints, m, on);
        from = subst (λ r. let s : Run = r in s.from ≤ℤ p.x) (sym is) h.from;
        to = subst (λ r. let s : Run = r in p.x <ℤ s.at) (sym is) h.to;
      }

  of_above : (p : Pt) → IsOfRun row high a p → IsOfRun low high t p
  of_above p h =
      let is = parts.above p.y h.over in
      let m = h.over in
      record {
        over = omega (arith, ints, m, up);
        under = h.under;
        from = subst (λ r. let s : Run = r in s.from ≤ℤ p.x) (sym is) h.from;
        to = subst (λ r. let s : Run = r in p.x <ℤ s.at) (sym is) h.to;
      }

  of_either : (p : Pt) → IsOfRun low high t p → IsOfRun low row b p ⊎ IsOfRun row high a p
  of_either p h = by_lt_z p.y row
      (λ l.
      let is = parts.below p.y l in
      inl (record {
        over = h.over;
        under = l;
        from = subst (λ r. let s : Run = r in s.from ≤ℤ p.x) is h.from;
        to = subst (λ r. let s : Run = r in p.x <ℤ s.at) is h.to;
      }))
      (λ m.
      let is = parts.above p.y m in
      inr (record {
        over = m;
        under = h.under;
        from = subst (λ r. let s : Run = r in s.from ≤ℤ p.x) is h.from;
        to = subst (λ r. let s : Run = r in p.x <ℤ s.at) is h.to;
      }))

  pub put-down-two : PutsDown low high t old new
  put-down-two =
      record {
        covers = λ p. (
          (λ h. elim ((second.covers p).0 h) [
            | inl m ↦ elim ((first.covers p).0 m) [ inl o ↦ inl o | inr b ↦ inr (of_below p b) ]
            | inr b ↦ inr (of_above p b)
          ]),
          λ h. elim h [
            | inl o ↦ (second.covers p).1 (inl ((first.covers p).1 (inl o)))
            | inr b ↦ elim (of_either p b) [
              | inl c ↦ (second.covers p).1 (inl ((first.covers p).1 (inr c)))
              | inr c ↦ (second.covers p).1 (inr c)
            ]
          ],
        );
        outside = λ y x off h. elim off [
          | inl l ↦ second.outside y x (inl (omega (arith, ints, l, up))) (first.outside y x (inl l) h)
          | inr m ↦ second.outside y x (inr m) (first.outside y x (inr (omega (arith, ints, m, on))) h)
        ];
        apart = λ ends before. second.apart
            (λ y l h. first.outside y (run_at a y).from (inr l) (subst (λ r. let s : Run = r in EndBefore old y s.from) (parts.above y l) (ends y (omega (arith, ints, l, up)) h)))
            (first.apart (λ y l h. subst (λ r. let s : Run = r in EndBefore old y s.from) (parts.below y h) (ends y l (omega (arith, ints, h, on)))) before);
      }
