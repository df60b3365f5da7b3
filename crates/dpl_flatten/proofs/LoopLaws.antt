-- The loops of rectangles.
use Rattle.std.proofs.Common.{ℕ, ◌+◌, ◌<◌, ◌≤◌, inl, inr, List, [], ◌∷◌, ◌++◌, length, get_or, take, arith}
use Rattle.std.proofs.lemmas.Int.{ints, clamps}
use Rattle.std.proofs.lemmas.List.{take_all, take_more}
use Rattle.std.proofs.lemmas.List.Elements.{All-push, Contains-append_left, Contains-push}
use Rattle.dpl_spec_split.specs.declared.Pt.{Pt}
use Rattle.dpl_spec_split.specs.declared.Rect.{Rect}
use Rattle.dpl_spec_split.specs.Squares.{Has}
use Rattle.dpl_spec_split.specs.Loops.{IsRectilinear, ArePointsWithin, IsRectWithin, farthest}
use Rattle.dpl_spec_split.proofs.Ordered.{Contains-nil}
use Rattle.dpl_spec_split.proofs.SlabLaws.{member-Covers}
use Rattle.dpl_spec_elements.specs.Paths.{corners_of}
use Rattle.dpl_shapes.proofs.Corners.{IsProper, corners-cover, corners-straight}
use Rattle.dpl_walk.proofs.KeptLaws.{covers-pushed, loops-pushed}
use Rattle.dpl_flatten.specs.Loops.{AreAdded, IsLoopOf, IsRaised}
use Rattle.dpl_flatten.proofs.WithinLaws.{corners_within}

-- ---- one rectangle

module _ (r b : Rect) (o : IsRaised r b) where
  proper : IsProper b
  proper =
      let left = o.left in let low = o.low in let right = o.right in let high = o.high in
      record { across = omega (arith, ints, clamps, left, right); up = omega (arith, ints, clamps, low, high) }

  narrower : (s : Pt) → Has b s → Has r s
  narrower s h =
      let left = o.left in let low = o.low in let right = o.right in let high = o.high in
      let a = h.left in let c = h.right in let d = h.low in let e = h.high in
      record {
        left = omega (arith, ints, left, a);
        right = omega (arith, ints, clamps, left, right, a, c);
        low = omega (arith, ints, low, d);
        high = omega (arith, ints, clamps, low, high, d, e);
      }

  wider : (s : Pt) → Has r s → Has b s
  wider s h =
      let left = o.left in let low = o.low in let right = o.right in let high = o.high in
      let a = h.left in let c = h.right in let d = h.low in let e = h.high in
      record {
        left = omega (arith, ints, left, a);
        right = omega (arith, ints, clamps, right, c);
        low = omega (arith, ints, low, d);
        high = omega (arith, ints, clamps, high, e);
      }

  still_within : IsRectWithin farthest r → IsRectWithin farthest b
  still_within w =
      let left = o.left in let low = o.low in let right = o.right in let high = o.high in
      let a = w.left in let c = w.right in let d = w.low in let e = w.high in
      record {
        left = omega (arith, ints, left, a);
        low = omega (arith, ints, low, d);
        right = omega (arith, ints, clamps, right, a, c);
        high = omega (arith, ints, clamps, high, d, e);
      }

  -- the loop through the corners
  pub round_raised : IsLoopOf r (corners_of b)
  round_raised = record {
    covers = λ s. let same = corners-cover b s proper in (λ c. narrower s (same.0 c), λ h. same.1 (wider s h));
    straight = corners-straight b;
    within = λ w. corners_within farthest b (still_within w);
  }

-- ---- one after another

pub added_none : (ls : List (List Pt)) → AreAdded [] ls ls
added_none ls = record {
  covers = λ s. (
    λ h. inr h,
    λ h. elim h [ inl c ↦ (let (r, r_in, has) = member-Covers [] s c in absurd (Contains-nil r r_in)) | inr c ↦ c ],
  );
  straight = λ h. h;
  within = λ w h. h;
}

pub added_one : (rs : List Rect) (r : Rect) (ps : List Pt) (old new : List (List Pt)) → AreAdded rs old new → IsLoopOf r ps
    → AreAdded (rs ++ r ∷ []) old (new ++ ps ∷ [])
added_one rs r ps old new are one = record {
  covers = λ s.
      let loops = loops-pushed new ps s in
      let rects = covers-pushed rs r s in (
        λ h. elim (loops.0 h) [
          | inl c ↦ elim ((are.covers s).0 c) [ inl a ↦ inl (rects.1 (inl a)) | inr b ↦ inr b ]
          | inr c ↦ inl (rects.1 (inr ((one.covers s).0 c)))
        ],
        λ h. elim h [
          | inl c ↦ elim (rects.0 c) [ inl a ↦ loops.1 (inl ((are.covers s).1 (inl a))) | inr b ↦ loops.1 (inr ((one.covers s).1 b)) ]
          | inr c ↦ loops.1 (inl ((are.covers s).1 (inr c)))
        ],
      );
  straight = λ h. All-push IsRectilinear new ps (are.straight h) one.straight;
  within = λ w h. All-push (ArePointsWithin farthest) new ps
      (are.within (λ x x_in. w x (Contains-append_left rs (r ∷ []) x x_in)) h) (one.within (w r (Contains-push rs r)));
}

pub added_more : (rs : List Rect) (i : ℕ) (d : Rect) (ps : List Pt) (old new : List (List Pt)) → i < length rs → AreAdded (take i rs) old new
    → IsLoopOf (get_or rs i d) ps → AreAdded (take (i + 1) rs) old (new ++ ps ∷ [])
added_more rs i d ps old new h are one = rw (take_more rs i d h) (added_one (take i rs) (get_or rs i d) ps old new are one)

pub added_all : (rs : List Rect) (i : ℕ) (old new : List (List Pt)) → length rs ≤ i → AreAdded (take i rs) old new → AreAdded rs old new
added_all rs i old new h are = rw (take_all i rs h) at are
