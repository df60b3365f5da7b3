-- The slabs of sets that don't touch one another are, in order, those of their union.
use Rattle.std.proofs.Common.{◌+◌, ◌≤◌, ◌<◌, inl, inr, List, [], ◌++◌, get_or, arith}
use Rattle.std.specs.Prelude.{ℤ, pos, ◌+ℤ◌, ◌-ℤ◌, ◌≤ℤ◌, ◌<ℤ◌}
use Rattle.std.specs.List.Sorted.{IsPermutation}
use Rattle.std.proofs.lemmas.Int.{ints, by_lt_z}
use Rattle.std.proofs.lemmas.List.Elements.{All-append, All-contains}
use Rattle.std.proofs.lemmas.List.Sorted.{All-permutation}
use Rattle.dpl_spec_split.specs.declared.Rect.{Rect}
use Rattle.dpl_spec_split.specs.Squares.{AreTouching, Covers, Has}
use Rattle.dpl_spec_split.specs.Slabs.{IsSolid, Before, IsCanonical, AreSlabsOf}
use Rattle.dpl_spec_split.specs.Zones.{at}
use Rattle.dpl_spec_split.proofs.SlabLaws.{Covers-member}
use Rattle.dpl_spec_split.proofs.SquareLaws.{Touch-from_close}
use Rattle.dpl_order.specs.Orders.{CornerBefore, CornersRise}
use Rattle.dpl_order.proofs.JoinLaws.{covers-same}
use Rattle.dpl_order.proofs.Permuted.{AllPairs-permutation}
use Rattle.dpl_slabs.specs.Scattered.{AreUntouched, FollowEither, AreScattered}
use Rattle.dpl_slabs.proofs.StripLaws.{AllPairs-append, follows-below}

-- numbers of two spans that overlap or share an end, at most one apart
record AreBeside (a0 a1 b0 b1 : ℤ) : Type 0 where
  i : ℤ
  j : ℤ
  i_from : a0 ≤ℤ i
  i_below : i <ℤ a1
  j_from : b0 ≤ℤ j
  j_below : j <ℤ b1
  left : j ≤ℤ (i +ℤ pos 1)
  right : i ≤ℤ (j +ℤ pos 1)

beside : (a0 a1 b0 b1 : ℤ) → a0 <ℤ a1 → b0 <ℤ b1 → b0 ≤ℤ a1 → a0 ≤ℤ b1 → AreBeside a0 a1 b0 b1
beside a0 a1 b0 b1 a b l r =
    by_lt_z b0 a1
    (λ below. by_lt_z a0 b1
    (λ over. by_lt_z a0 b0
    (λ c. record {
      i = b0;
      j = b0;
      i_from = omega (arith, ints, c);
      i_below = below;
      j_from = omega
          (arith, ints);
      j_below = b;
      left = omega (arith, ints);
      right = omega (arith, ints);
    })
    (λ c. record { i = a0; j = a0; i_from = omega (arith, ints); i_below = a; j_from = c; j_below = over; left = omega (arith, ints); right = omega (arith, ints) }))
    (λ c. record {
      i = a0;
      j = b1 -ℤ pos 1;
      i_from = omega (arith, ints);
      i_below = a;
      j_from = omega (arith, ints, b);
      j_below = omega
          (arith, ints);
      left = omega (arith, ints, r);
      right = omega (arith, ints, r, c);
    }))
    (λ c. record {
      i = a1 -ℤ pos 1;
      j = b0;
      i_from = omega (arith, ints, a);
      i_below = omega (arith, ints);
      j_from = omega
          (arith, ints);
      j_below = b;
      left = omega (arith, ints, l);
      right = omega (arith, ints, l, c);
    })

-- rectangles that overlap or share an end in rows and in columns have touching squares
rects-touch : (a b : Rect) → IsSolid a → IsSolid b → b.x0 ≤ℤ a.x1 → a.x0 ≤ℤ b.x1 → b.y0 ≤ℤ a.y1 → a.y0 ≤ℤ b.y1 → AreTouching (Has a) (Has b)
rects-touch a b s t l r m n =
    let x = beside a.x0 a.x1 b.x0 b.x1 s.wide t.wide l r in
    let y = beside a.y0 a.y1 b.y0 b.y1 s.tall t.tall m n in (
      at x.i y.i,
      at x.j y.j,
      record { left = x.i_from; right = x.i_below; low = y.i_from; high = y.i_below },
      record { left = x.j_from; right = x.j_below; low = y.j_from; high = y.j_below },
      Touch-from_close (at x.i y.i) (at x.j y.j) x.left x.right y.left y.right,
    )

flip : (a b : Rect) → FollowEither a b → FollowEither b a
flip a b (inl f) = inr f
flip a b (inr f) = inl f

-- with a column between them
pub follow-beside : (a b : Rect) → IsSolid a → IsSolid b → a.x1 <ℤ b.x0 → FollowEither a b
follow-beside a b s t l =
    let w = s.wide in
    let v = t.wide in
    by_lt_z b.y0 a.y0
    (λ m. inr (record { before = inl m; apart = λ _. inr l; separate = λ on. (let e = on.left in omega (arith, ints, e, l, w)) }))
    (λ m. inl (record {
      before = by_lt_z a.y0 b.y0 (λ n. inl n) (λ n. inr (omega (arith, ints, m, n), omega (arith, ints, l, w)));
      apart = λ _. inl l;
      separate = λ on. (let e = on.left in omega (arith, ints, e, l, w));
    }))

-- rectangles without touching squares
untouched-follow : (a b : Rect) → IsSolid a → IsSolid b → ¬ AreTouching (Has a) (Has b) → FollowEither a b
untouched-follow a b s t none =
    by_lt_z a.y1 b.y0 (λ l. inl (follows-below a b s t l)) (λ m.
    by_lt_z b.y1 a.y0 (λ l. inr (follows-below b a t s l)) (λ n.
    by_lt_z a.x1 b.x0 (λ l. follow-beside a b s t l) (λ o.
    by_lt_z b.x1 a.x0 (λ l. flip b a (follow-beside b a t s l)) (λ q.
    absurd (none (rects-touch a b s t o q m n))))))

-- the slabs of a set that touches none of the squares so far are added
pub scattered-more : (rs ss : List Rect) → AreScattered rs → IsCanonical ss → AreUntouched rs ss → AreScattered (rs ++ ss)
scattered-more rs ss r s none = record {
  solid = All-append IsSolid rs ss r.solid s.solid;
  follow = AllPairs-append FollowEither rs ss r.follow (λ i j d l j_in. inl (s.follow i j d l j_in)) (λ x y x_in y_in.
      untouched-follow x y (All-contains IsSolid rs x r.solid x_in) (All-contains IsSolid ss y s.solid y_in)
      (λ (p, q, hp, hq, t). none (p, q, Covers-member rs x p x_in hp, Covers-member ss y q y_in hq, t)));
}

pub scattered-none : AreScattered []
scattered-none = record { solid = λ i d k. absurd (omega (arith, k)); follow = λ i j d l k. absurd (omega (arith, k)) }

rise-strict : (a b : Rect) → CornerBefore a b → Before b a → ⊥
rise-strict a b (inl l) (inl m) = omega (arith, ints)
rise-strict a b (inl l) (inr m) = omega (arith, ints)
rise-strict a b (inr l) (inl m) = omega (arith, ints)
rise-strict a b (inr l) (inr m) = omega (arith, ints)

-- in order they are the canonical slabs
pub scattered-sorted : (rs sorted : List Rect) → AreScattered rs → IsPermutation rs sorted → CornersRise sorted → AreSlabsOf (Covers rs) sorted
scattered-sorted rs sorted s same rise =
    let either = AllPairs-permutation FollowEither flip rs sorted same s.follow in
    record {
      canonical = record {
        solid = All-permutation IsSolid rs sorted same s.solid;
        follow = λ i j d l j_in. elim (either i j d l j_in) [
          | inl f ↦ f
          | inr f ↦ absurd (rise-strict (get_or sorted i d) (get_or sorted j d) (rise i j d (omega (arith, l)) j_in) f.before)
        ];
      };
      covers = λ p. ((covers-same rs sorted same p).1, (covers-same rs sorted same p).0);
    }
