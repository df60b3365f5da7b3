-- Bands taken apart and put together.
use Rattle.std.proofs.Common.{◌≡◌, ℕ, ◌+◌, ◌≤◌, inl, inr, true, false, cond, Option, Some, None, refl, sym, ◌∙◌, ap, subst, arith}
use Rattle.std.specs.Prelude.{ℤ, pos, ◌+ℤ◌, ◌≤ℤ◌, ◌<ℤ◌, unsigned_abs}
use Rattle.std.proofs.lemmas.Int.{ints, by_lt_z}
use lib.Signed.{lt_z}
use Rattle.dpl_sweep.specs.declared.edge.Rule.{Rule}
use Rattle.dpl_sweep.specs.declared.run.Run.{Run}
use Rattle.dpl_sweep.specs.declared.bands.Cut.{Cut}
use Rattle.dpl_sweep.specs.declared.bands.Lag.{Lag}
use Rattle.dpl_sweep.specs.declared.bands.Bands.{Bands, One, Two'}
use Rattle.dpl_sweep.specs.Runs.{Reaches, AreOneRun}
use Rattle.dpl_sweep.specs.Rows.{lagged, shift_of, IsLagTo, run_at, lowest_sum, bands_size, AreRows, IsSmall, IsCutOver, Follows}
use Rattle.dpl_sweep.specs.Rows.{ArePartsOf, AreTwo, AreOneTree, IsReached, IsMended, Mends}
use Rattle.dpl_sweep.proofs.RunLaws.{reach-refl, reach-sums, reach-trans}

-- below row the runs are those of b, from it on those of a
pub record IsSplit (t : Bands) (row : ℤ) (b a : Bands) : Type 0 where
  pub below : (y : ℤ) → y <ℤ row → run_at t y ≡ run_at b y
  pub above : (y : ℤ) → row ≤ℤ y → run_at t y ≡ run_at a y

pub split-one : (run : Run) (row : ℤ) → IsSplit (One run) row (One run) (One run)
split-one run row = record { below = λ y l. refl; above = λ y l. refl }

pub split-parts : (t b a : Bands) (row : ℤ) → ArePartsOf t row b a → IsSplit t row b a
split-parts t b a row h = record { below = h.below; above = h.above }

pub split-two : (t b a : Bands) (row : ℤ) → AreTwo b row a t → IsSplit t row b a
split-two (One run) b a row h = elim h [ ]
split-two (Two' p c cut q d) b a row (e, f, g) =
    let r = g.here in
    record {
      below = λ y l. (let h : lt_z y cut.row ≡ true = grind (arith, ints, r, l) in rw (h, g.lag, e));
      above = λ y l. (let h : lt_z y cut.row ≡ false = grind (arith, ints, r, l) in rw (h, g.lag, f));
    }

-- runs that are alike in all
run-same : (r s : Run) → r.from ≡ s.from → r.at ≡ s.at → r.a ≡ s.a → r.b ≡ s.b → r ≡ s
run-same r s e f g h = λ i. record { from = e i; at = f i; a = g i; b = h i }

lagged-twice : (lag : Lag) (old : Option Lag) (new : Lag) (r : Run) → new.at ≡ lag.at → new.a ≡ shift_of old +ℤ lag.a → lagged (Some new) r ≡ lagged (Some lag) (lagged old r)
lagged-twice lag None new r e f = run-same (lagged (Some new) r) (lagged (Some lag) r) refl e (omega (arith, ints, f)) refl
lagged-twice lag (Some old) new r e f = run-same (lagged (Some new) r) (lagged (Some lag) (lagged (Some old) r)) refl e (omega (arith, ints, f)) refl

pub lagged-sum : (lag : Option Lag) (r : Run) → (lagged lag r).a ≡ r.a +ℤ shift_of lag
lagged-sum None r = omega (arith, ints)
lagged-sum (Some lag) r = refl

lagged-at : (lag : Option Lag) (x : ℤ) (r : Run) → IsLagTo x lag → r.at ≤ℤ x → (lagged lag r).at ≤ℤ x
lagged-at None x r l h = h
lagged-at (Some lag) x r l h = l

pub small-more : (m n : ℕ) (t : Bands) → m ≤ n → IsSmall m t → IsSmall n t
small-more m n (One run) l (a, b) = (omega (arith, a, l), omega (arith, b, l))
small-more m n (Two' p c cut q d) l (k, a, b, e, f) = (k, omega (arith, a, l), b, e, f)

pub size-some : (t : Bands) → 1 ≤ bands_size t
size-some (One run) = omega arith
size-some (Two' p c cut q d) = let a = size-some c in omega (arith, a)

pub lowest-small : (n : ℕ) (t : Bands) → IsSmall n t → unsigned_abs (lowest_sum t) ≤ n
lowest-small n (One run) (a, b) = a
lowest-small n (Two' p c cut q d) (m, a, b, e, f) = omega (arith, ints, a, b)

-- one band, after a lag
pub follows-one : (run after : Run) (lag : Lag) → after.from ≡ run.from → after.at ≡ lag.at → after.a ≡ run.a +ℤ lag.a → after.b ≡ run.b → Follows (Some lag) (One run) (One after)
follows-one run after lag e f g h =
    record {
      run = λ y. run-same after (lagged (Some lag) run) e f g h;
      size = refl;
      rows = λ low high x l r. omega (arith, ints, f, l);
      small = λ m n l (a, b). (omega (arith, ints, g, a, l), omega (arith, ints, h, b, l));
      lowest = g;
    }

-- u is t with the lag after what was still to be done
abbrev pub IsRecut : Lag → Bands → Bands → Type 0
IsRecut lag (One r) (One s) = ⊥
IsRecut lag (One r) (Two' p b d q a) = ⊥
IsRecut lag (Two' p b c q a) (One r) = ⊥
IsRecut lag (Two' p b c q a) (Two' p' b' d q' a') =
    (b' ≡ b) × (a' ≡ a) × (d.row ≡ c.row) × (d.least ≡ c.least) × (k : Lag) × (d.lag ≡ Some k) × (k.at ≡ lag.at) × (k.a ≡ shift_of c.lag +ℤ lag.a)

pub follows-cut : (lag : Lag) (t u : Bands) → IsRecut lag t u → Follows (Some lag) t u
follows-cut lag (One r) (One s) h = elim h [ ]
follows-cut lag (One r) (Two' p b d q a) h = elim h [ ]
follows-cut lag (Two' p b c q a) (One r) h = elim h [ ]
follows-cut lag (Two' p b c q a) (Two' p' b' d q' a') (eb, ea, row, least, k, is, at, sum) =
    record {
      run = λ y. rw (eb, ea, row, is) (lagged-twice lag c.lag k (cond (lt_z y c.row) (run_at b y) (run_at a y)) at sum);
      size = rw (eb, ea);
      rows = λ low high x l (r1, r2, r3, r4, r5, r6, r7). rw (eb, ea, row, least, is) (r1, r2, omega (arith, ints, l, at), r4, r5, r6, r7);
      small = λ m n l (j, s1, s2, s3, s4). rw (eb, ea, least, is) (j, omega (arith, ints, s1, l, sum), s2, s3, s4);
      lowest = rw (least, is) (omega (arith, ints, sum));
    }

pub follows-none : (t : Bands) → Follows None t t
follows-none t =
    record {
      run = λ y. refl;
      size = refl;
      rows = λ low high x l r. r;
      small = λ m n l s. small-more m n t (omega (arith, ints, l)) s;
      lowest = omega (arith, ints);
    }

-- t has the cut between the two
abbrev pub IsForked : Bands → Bands → Cut → Bands → Type 0
IsForked (One r) b cut a = ⊥
IsForked (Two' p b' c q a') b cut a = (b' ≡ b) × (c ≡ cut) × (a' ≡ a)

pub parts-follow : (t b a b' a' : Bands) (cut : Cut) → IsForked t b cut a → Follows cut.lag b b' → Follows cut.lag a a' → ArePartsOf t cut.row b' a'
parts-follow (One r) b a b' a' cut h fb fa = elim h [ ]
parts-follow (Two' p c0 d q c1) b a b' a' cut (eb, ec, ea) fb fa =
    let sb = fb.size in
    let sa = fa.size in
    record {
      below = λ y l. (let h : lt_z y cut.row ≡ true = grind (arith, ints, l) in rw (eb, ec, ea, h) (sym (fb.run y)));
      above = λ y l. (let h : lt_z y cut.row ≡ false = grind (arith, ints, l) in rw (eb, ec, ea, h) (sym (fa.run y)));
      rows = λ low high x r. (let (r1, r2, r3, r4, r5, r6, r7) = rw (eb, ec, ea) at r in (r1, r2, fb.rows low cut.row x r3 r6, fa.rows cut.row high x r3 r7));
      small = λ n s. (let (m, s1, s2, s3, s4) = rw (eb, ec, ea) at s in (fb.small m n s1 s3, fa.small m n s1 s4));
      size = rw (eb, ea) (omega (arith, sb, sa));
    }

-- what may follow
pub can-follow : (t b a : Bands) (cut : Cut) (n : ℕ) → IsForked t b cut a → IsSmall n t → (m : ℕ) × IsSmall m b × IsSmall m a × (m + unsigned_abs (shift_of cut.lag) ≤ n)
can-follow (One r) b a cut n h s = elim h [ ]
can-follow (Two' p c0 d q c1) b a cut n (eb, ec, ea) s = let (m, s1, s2, s3, s4) = rw (eb, ec, ea) at s in (m, s3, s4, s1)

pub rows-two : (low row high x : ℤ) (t b a : Bands) → AreTwo b row a t → low <ℤ row → row <ℤ high → AreRows low row x b → AreRows row high x a → AreRows low high x t
rows-two low row high x (One run) b a h l m r s = elim h [ ]
rows-two low row high x (Two' p c cut q d) b a (e, f, g) l m r s = rw (e, f, g.here, g.lag) (l, m, tt, g.under, g.over, r, s)

pub small-cut : (n : ℕ) (row : ℤ) (b a : Bands) (cut : Cut) → IsCutOver b row a cut → IsSmall n b → IsSmall n a
    → (m : ℕ) × (m + unsigned_abs (shift_of cut.lag) ≤ n) × (unsigned_abs cut.least ≤ m) × IsSmall m b × IsSmall m a
small-cut n row b a cut g r s =
    let lb = lowest-small n b r in
    let la = lowest-small n a s in
    let known : unsigned_abs cut.least ≤ n = elim g.known [ inl k ↦ omega (arith, ints, k, lb) | inr k ↦ omega (arith, ints, k, la) ] in
    rw g.lag (n, omega (arith, ints), known, r, s)

pub small-two : (n : ℕ) (row : ℤ) (t b a : Bands) → AreTwo b row a t → IsSmall n b → IsSmall n a → IsSmall n t
small-two n row (One run) b a h r s = elim h [ ]
small-two n row (Two' p c cut q d) b a (e, f, g) r s =
    rw (e, f) (small-cut n row b a cut g r s)

pub reached-two : (rule : Rule) (t b a : Bands) (row : ℤ) → AreTwo b row a t → IsReached rule t row b a
reached-two rule t b a row two =
    let s = split-two t b a row two in
    record {
      below = λ y l. subst (Reaches rule (run_at b y)) (sym (s.below y l)) (reach-refl rule (run_at b y));
      above = λ y l. subst (Reaches rule (run_at a y)) (sym (s.above y l)) (reach-refl rule (run_at a y));
    }

pub mended-two : (rule : Rule) (b a t : Bands) (row : ℤ) → AreTwo b row a t → IsMended rule b row a t
mended-two rule b a t row two =
    record {
      small = λ n r s. small-two n row t b a two r s;
      rows = λ low high x l m r s. (rows-two low row high x t b a two l m r s, reached-two rule t b a row two);
    }

pub mended-one : (rule : Rule) (b a : Bands) (row : ℤ) (run : Run) → AreOneTree rule b a run → IsMended rule b row a (One run)
mended-one rule b a row run o =
    record {
      small = λ n r s. (
          let (ra, rb) = subst (IsSmall n) o.below_is r in
          let (same_a, same_b) = reach-sums rule o.first run o.one.first in
          (omega (arith, ints, same_a, ra), omega (arith, ints, same_b, rb)));
      rows = λ low high x l m r s. (
          let ra = subst (AreRows low row x) o.below_is r in
          let sa = subst (AreRows row high x) o.above_is s in
          let at : run.at ≤ℤ x = elim o.one.known [ inl e ↦ omega (arith, ints, e, ra) | inr e ↦ omega (arith, ints, e, sa) ] in (
            at,
            record {
              below = λ y k. subst (λ t. Reaches rule (run_at t y) run) (sym o.below_is) o.one.first;
              above = λ y k. subst (λ t. Reaches rule (run_at t y) run) (sym o.above_is) o.one.second;
            },
          ));
    }

-- a cut of the lower part on top
pub mended-below : (rule : Rule) (low_part middle below above upper t : Bands) (first row : ℤ) → ArePartsOf below first low_part middle
    → IsMended rule middle row above upper → IsMended rule low_part first upper t → IsMended rule below row above t
mended-below rule low_part middle below above upper t first row split g h =
    record {
      small = λ n r s. (let (ra, rb) = split.small n r in h.small n ra (g.small n rb s));
      rows = λ low high x l m r s. (
          let (la, lb, lc, ld) = split.rows low row x r in
          let (ru, gu) = g.rows first high x lb m ld s in
          let (rt, gt) = h.rows low high x la (omega (arith, ints, lb, m)) lc ru in (
            rt,
            record {
              below = λ y k. by_lt_z y first
                  (λ a. subst (λ q. Reaches rule q (run_at t y)) (sym (split.below y a)) (gt.below y a))
                  (λ b. subst (λ q. Reaches rule q (run_at t y)) (sym (split.above y b))
                  (reach-trans rule (run_at middle y) (run_at upper y) (run_at t y) (gu.below y k) (gt.above y b)));
              above = λ y k. reach-trans rule (run_at above y) (run_at upper y) (run_at t y) (gu.above y k) (gt.above y (omega (arith, ints, lb, k)));
            },
          ));
    }

-- a cut of the upper part on top
pub mended-above : (rule : Rule) (middle high_part below above lower t : Bands) (last row : ℤ) → ArePartsOf above last middle high_part
    → IsMended rule below row middle lower → IsMended rule lower last high_part t → IsMended rule below row above t
mended-above rule middle high_part below above lower t last row split g h =
    record {
      small = λ n r s. (let (sa, sb) = split.small n s in h.small n (g.small n r sa) sb);
      rows = λ low high x l m r s. (
          let (la, lb, lc, ld) = split.rows row high x s in
          let (ru, gu) = g.rows low last x l la r lc in
          let (rt, gt) = h.rows low high x (omega (arith, ints, l, la)) lb ru ld in (
            rt,
            record {
              below = λ y k. reach-trans rule (run_at below y) (run_at lower y) (run_at t y) (gu.below y k) (gt.below y (omega (arith, ints, la, k)));
              above = λ y k. by_lt_z y last
                  (λ a. subst (λ q. Reaches rule q (run_at t y)) (sym (split.below y a))
                  (reach-trans rule (run_at middle y) (run_at lower y) (run_at t y) (gu.above y k) (gt.below y a)))
                  (λ b. subst (λ q. Reaches rule q (run_at t y)) (sym (split.above y b)) (gt.above y b));
            },
          ));
    }

pub mends-same : (rule : Rule) (t : Bands) → Mends rule t t
mends-same rule t = record { small = λ n s. s; rows = λ low high x r. (r, λ y. reach-refl rule (run_at t y)) }

pub mends-parts : (rule : Rule) (t b a u : Bands) (row : ℤ) → ArePartsOf t row b a → IsMended rule b row a u → Mends rule t u
mends-parts rule t b a u row split h =
    record {
      small = λ n s. (let (sb, sa) = split.small n s in h.small n sb sa);
      rows = λ low high x r. (
          let (la, lb, lc, ld) = split.rows low high x r in
          let (ru, gu) = h.rows low high x la lb lc ld in (
            ru,
            λ y. by_lt_z y row
                (λ k. subst (λ q. Reaches rule q (run_at u y)) (sym (split.below y k)) (gu.below y k))
                (λ k. subst (λ q. Reaches rule q (run_at u y)) (sym (split.above y k)) (gu.above y k)),
          ));
    }

-- the lower part was mended first
pub mended-after_below : (rule : Rule) (b c a t : Bands) (row : ℤ) → Mends rule b c → IsMended rule c row a t → IsMended rule b row a t
mended-after_below rule b c a t row m h =
    record {
      small = λ n r s. h.small n (m.small n r) s;
      rows = λ low high x l k r s. (
          let (rc, reach) = m.rows low row x r in
          let (rt, gt) = h.rows low high x l k rc s in (
            rt,
            record { below = λ y d. reach-trans rule (run_at b y) (run_at c y) (run_at t y) (reach y) (gt.below y d); above = gt.above },
          ));
    }

-- the upper part was mended first
pub mended-after_above : (rule : Rule) (b a c t : Bands) (row : ℤ) → Mends rule a c → IsMended rule b row c t → IsMended rule b row a t
mended-after_above rule b a c t row m h =
    record {
      small = λ n r s. h.small n r (m.small n s);
      rows = λ low high x l k r s. (
          let (rc, reach) = m.rows row high x s in
          let (rt, gt) = h.rows low high x l k r rc in (
            rt,
            record { below = gt.below; above = λ y d. reach-trans rule (run_at a y) (run_at c y) (run_at t y) (reach y) (gt.above y d) },
          ));
    }

-- a row's run is known up to column x at most
pub rows-at : (low high x : ℤ) (t : Bands) (y : ℤ) → AreRows low high x t → (run_at t y).at ≤ℤ x
rows-at low high x (One run) y h = h
rows-at low high x (Two' p b cut q a) y (e, f, l, g1, g2, g, h) =
    lagged-at cut.lag x (cond (lt_z y cut.row) (run_at b y) (run_at a y)) l
    (elim (lt_z y cut.row) as (λ z. let r : Run = cond z (run_at b y) (run_at a y) in r.at ≤ℤ x) [ true ↦ rows-at low cut.row x b y g | false ↦ rows-at cut.row high x a y h ])

-- and its first sum is no less than what is told
pub rows-lowest : (low high x : ℤ) (t : Bands) (y : ℤ) → AreRows low high x t → lowest_sum t ≤ℤ (run_at t y).a
rows-lowest low high x (One run) y h = omega (arith, ints)
rows-lowest low high x (Two' p b cut q a) y (e, f, l, g1, g2, g, h) =
    let sum = lagged-sum cut.lag (cond (lt_z y cut.row) (run_at b y) (run_at a y)) in
    let least : cut.least ≤ℤ (let r : Run = cond (lt_z y cut.row) (run_at b y) (run_at a y) in r.a) =
    elim (lt_z y cut.row) as (λ z. let r : Run = cond z (run_at b y) (run_at a y) in cut.least ≤ℤ r.a) [
      | true ↦ (let k = rows-lowest low cut.row x b y g in omega (arith, ints, k, g1))
      | false ↦ (let k = rows-lowest cut.row high x a y h in omega (arith, ints, k, g2))
    ] in
    omega (arith, ints, sum, least)

lag-more : (x z : ℤ) (lag : Option Lag) → x ≤ℤ z → IsLagTo x lag → IsLagTo z lag
lag-more x z None l h = h
lag-more x z (Some lag) l h = omega (arith, ints, l, h)

pub rows-more : (low high x z : ℤ) (t : Bands) → x ≤ℤ z → AreRows low high x t → AreRows low high z t
rows-more low high x z (One run) l h = omega (arith, ints, l, h)
rows-more low high x z (Two' p c cut q d) l (e, f, k, g1, g2, g, h) =
    (e, f, lag-more x z cut.lag l k, g1, g2, rows-more low cut.row x z c l g, rows-more cut.row high x z d l h)

pub shared-runs : (rule : Rule) (b a : Bands) (r s t : Run) → b ≡ One r → a ≡ One s → AreOneTree rule b a t → AreOneRun rule r s t
shared-runs rule b a r s t e f o =
    let first : o.first ≡ r = ap (λ u. run_at u (pos 0)) (sym o.below_is ∙ e) in
    let second : o.second ≡ s = ap (λ u. run_at u (pos 0)) (sym o.above_is ∙ f) in
    subst (λ q. AreOneRun rule q s t) first (subst (λ q. AreOneRun rule o.first q t) second o.one)
