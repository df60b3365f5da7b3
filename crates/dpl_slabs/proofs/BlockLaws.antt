-- Slabs of blocks put together.
use Rattle.std.proofs.Common.{◌≡◌, ◌∙◌, sym, ap, ℕ, ◌+◌, ◌-◌, ◌≤◌, inl, inr, List, [], ◌∷◌, ◌++◌, length, get_or, take, drop, arith}
use Rattle.std.proofs.Math.Seq.{drop-append-add, drop-append_seam}
use Rattle.std.specs.Prelude.{pos, ◌-ℤ◌, ◌≤ℤ◌}
use Rattle.std.specs.List.{All, Contains}
use Rattle.std.specs.List.Sorted.{IsPermutation}
use Rattle.std.proofs.lemmas.Int.{ints}
use Rattle.std.proofs.lemmas.List.{drop-drop, take-append-drop}
use Rattle.std.proofs.lemmas.List.Elements.{All-append, All-contains, Contains-append_cases, Contains-get_or}
use Rattle.dpl_spec_split.specs.declared.Pt.{Pt}
use Rattle.dpl_spec_split.specs.declared.Rect.{Rect}
use Rattle.dpl_spec_split.specs.Squares.{Region, Covers, SameSquares}
use Rattle.dpl_spec_split.specs.Slabs.{IsSolid, AreSlabsOf}
use Rattle.dpl_spec_split.specs.Loops.{farthest, AreRectsWithin}
use Rattle.dpl_spec_split.specs.Zones.{at, transposed}
use Rattle.dpl_spec_split.proofs.Ordered.{Contains-nil}
use Rattle.dpl_spec_split.proofs.SlabLaws.{Covers-member, member-Covers}
use Rattle.dpl_order.specs.Orders.{CornersRise}
use Rattle.dpl_order.proofs.JoinLaws.{covers-same}
use Rattle.dpl_slabs.specs.Blocks.{LieLeft, AddsBlock, AreBlocksOf, AreScatteredOf, EitherCovers}
use Rattle.dpl_slabs.specs.declared.ahead.Block.{Block}
use Rattle.dpl_slabs.specs.Cells.{transposed_rects}
use Rattle.dpl_slabs.specs.Made.{IsBlock, IsBlockFrom}
use Rattle.dpl_slabs.specs.Scattered.{AreScattered, FollowEither}
use Rattle.dpl_slabs.specs.Strips.{LieBelow}
use Rattle.dpl_slabs.proofs.LoopLaws.{covers-appended}
use Rattle.dpl_slabs.proofs.SetLaws.{covers-transposed, transposed-within, slabs-of-same}
use Rattle.dpl_slabs.proofs.ScatteredLaws.{follow-beside, scattered-none, scattered-sorted}
use Rattle.dpl_slabs.proofs.StripLaws.{AllPairs-append, covers-parts, left-in, right-in, rise-drop, sorted-within}

-- where the slabs of a block lie
module _ (block slabs : List Rect) (s : AreSlabsOf (Covers (transposed_rects block)) slabs) where
  slab-left : (t : Rect) → Contains slabs t → (r : Rect) × Contains block r × (r.y0 ≤ℤ t.x0)
  slab-left t t_in =
      let solid : IsSolid t = All-contains IsSolid slabs t s.canonical.solid t_in in
      let wide = solid.wide in
      let tall = solid.tall in
      let first : Pt = record { x = t.x0; y = t.y0 } in
      let c = (s.covers first).0 (Covers-member slabs t first t_in (record { left = omega (arith, ints); right = wide; low = omega (arith, ints); high = tall })) in
      let (r, r_in, has) = member-Covers block (at t.y0 t.x0) ((covers-transposed block first).0 c) in
      (r, r_in, has.low)

  slab-right : (t : Rect) → Contains slabs t → (r : Rect) × Contains block r × (t.x1 ≤ℤ r.y1)
  slab-right t t_in =
      let solid : IsSolid t = All-contains IsSolid slabs t s.canonical.solid t_in in
      let wide = solid.wide in
      let tall = solid.tall in
      let last : Pt = record { x = t.x1 -ℤ pos 1; y = t.y0 } in
      let c = (s.covers last).0
      (Covers-member slabs t last t_in
      (record { left = omega (arith, ints, wide); right = omega (arith, ints); low = omega (arith, ints); high = tall })) in
      let (r, r_in, has) = member-Covers block (at t.y0 (t.x1 -ℤ pos 1)) ((covers-transposed block last).0 c) in
      let h = has.high in
      (r, r_in, omega (arith, ints, h))

pub adds-block : (old slabs block : List Rect) → AreScattered old → LieLeft old block → AreSlabsOf (Covers (transposed_rects block)) slabs → AddsBlock old (old ++ slabs) block
adds-block old slabs block a left s = record {
  scattered = record {
    solid = All-append IsSolid old slabs a.solid s.canonical.solid;
    follow = AllPairs-append FollowEither old slabs a.follow (λ i j d l k. inl (s.canonical.follow i j d l k))
        (λ r t r_in t_in. (let (q, q_in, l) = slab-left block slabs s t t_in in let h = left r q r_in q_in in
        follow-beside r t (All-contains IsSolid old r a.solid r_in) (All-contains IsSolid slabs t s.canonical.solid t_in) (omega (arith, ints, h, l))));
  };
  covers = covers-appended (transposed (Covers block)) old slabs (λ p. (λ c. (covers-transposed block p).0 ((s.covers p).0 c), λ c. (s.covers p).1 ((covers-transposed block p).1 c)));
  left = λ others f g r o r_in o_in. elim (Contains-append_cases old slabs r r_in) [
    | inl h ↦ f r o h o_in
    | inr h ↦ (let (q, q_in, l) = slab-right block slabs s r h in let k = g q o q_in o_in in omega (arith, ints, l, k))
  ];
}

pub blocks-none : (rects : List Rect) → CornersRise rects → AreRectsWithin farthest rects → AreBlocksOf (transposed (Covers rects)) [] rects
blocks-none rects rise w = record {
  scattered = scattered-none;
  covers = λ p. (
    (λ h. elim h [ inl c ↦ absurd (let found = member-Covers [] p c in Contains-nil found.0 found.1) | inr c ↦ c ]),
    λ c. inr c,
  );
  rest_within = w;
  rise = rise;
  left = λ r s r_in s_in. absurd (Contains-nil r r_in);
}

-- the next block
module _ (a : Region) (pieces rest : List Rect) (n : ℕ) (s : AreBlocksOf a pieces rest) where
  whole : take n rest ++ drop n rest ≡ rest
  whole = take-append-drop n rest

  pub blocks-next : (new : List Rect) → LieBelow (take n rest) (drop n rest) → AddsBlock pieces new (take n rest) → AreBlocksOf a new (drop n rest)
  blocks-next new gap adds = record {
    scattered = adds.scattered;
    covers = λ p. (
      (λ h. elim h [
        | inl c ↦ elim ((adds.covers p).0 c) [
          | inl old ↦ (s.covers p).0 (inl old)
          | inr k ↦ (let (r, r_in, has) = member-Covers (take n rest) (at p.y p.x) k in
              (s.covers p).0 (inr (Covers-member rest r (at p.y p.x) (left-in (take n rest) (drop n rest) rest r whole r_in) has)))
        ]
        | inr k ↦ (let (r, r_in, has) = member-Covers (drop n rest) (at p.y p.x) k in
            (s.covers p).0 (inr (Covers-member rest r (at p.y p.x) (right-in (take n rest) (drop n rest) rest r whole r_in) has)))
      ]),
      λ h. elim ((s.covers p).1 h) [
        | inl old ↦ inl ((adds.covers p).1 (inl old))
        | inr c ↦ elim (covers-parts (take n rest) (drop n rest) rest (at p.y p.x) whole c) [
          | inl k ↦ inl ((adds.covers p).1 (inr k))
          | inr k ↦ inr k
        ]
      ],
    );
    rest_within = λ r r_in. s.rest_within r (right-in (take n rest) (drop n rest) rest r whole r_in);
    rise = rise-drop n rest s.rise;
    left = adds.left (drop n rest) (λ r t r_in t_in. s.left r t r_in (right-in (take n rest) (drop n rest) rest t whole t_in)) gap;
  }

-- blocks of a set are blocks of what the pieces and the rectangles have, and the other way round
pub blocks-here : (a : Region) (pieces rest : List Rect) → AreBlocksOf a pieces rest → AreBlocksOf (EitherCovers pieces rest) pieces rest
blocks-here a pieces rest s = record {
  scattered = s.scattered;
  covers = λ p. (λ h. h, λ h. h);
  rest_within = s.rest_within;
  rise = s.rise;
  left = s.left;
}

pub blocks-same : (a : Region) (pieces rest new others : List Rect) → AreBlocksOf a pieces rest → AreBlocksOf (EitherCovers pieces rest) new others → AreBlocksOf a new others
blocks-same a pieces rest new others s t = record {
  scattered = t.scattered;
  covers = λ p. (λ h. (s.covers p).0 ((t.covers p).0 h), λ h. (t.covers p).1 ((s.covers p).1 h));
  rest_within = t.rest_within;
  rise = t.rise;
  left = t.left;
}

-- what follows a block in a list stays where it is, whatever becomes of the block
follows : (front changed more block : List Rect) (n m : ℕ) → length front ≡ n → length block ≡ m → length changed ≡ length block → drop (n + m) (front ++ (changed ++ more)) ≡ more
follows front changed more block n m front_len block_len kept =
    rw (sym front_len, sym block_len, sym kept) (drop-append-add front (changed ++ more) (length changed) ∙ drop-append_seam changed more)

-- the next block where it stands in a list
pub block-done : (a : Region) (pieces new rects front rest block changed more : List Rect) (n m : ℕ) → length front ≡ n → length block ≡ m
    → length changed ≡ length block → rest ≡ drop n rects → block ≡ take m rest → more ≡ drop m rest → LieBelow (take m rest) (drop m rest)
    → AddsBlock pieces new block → AreBlocksOf a pieces (drop n rects) → AreBlocksOf a new (drop (n + m) (front ++ (changed ++ more)))
block-done a pieces new rects front rest block changed more n m front_len block_len kept rest_is block_is more_is gap adds s =
    let next : AreBlocksOf a new (drop m rest) = blocks-next a pieces rest m (rw rest_is s) new gap (rw block_is at adds) in
    rw (follows front changed more block n m front_len block_len kept, more_is) next

same-later : (xs ys : List Rect) (k j : ℕ) → drop k xs ≡ drop k ys → k ≤ j → drop j xs ≡ drop j ys
same-later xs ys k j same le =
    let at : k + (j - k) ≡ j = omega (arith, le) in
    rw (sym at) (sym (drop-drop (j - k) k xs) ∙ (ap (drop (j - k)) same ∙ drop-drop (j - k) k ys))

-- the blocks that are left for the turns to come
pub blocks-left : (rects front rest block changed more : List Rect) (n m : ℕ) (made left : List Block) → length front ≡ n → length block ≡ m
    → length changed ≡ length block → rest ≡ drop n rects → more ≡ drop m rest → ((b : Block) → Contains left b → Contains made b)
    → All (IsBlockFrom n rects) made → All (IsBlockFrom (n + m) (front ++ (changed ++ more))) left
blocks-left rects front rest block changed more n m made left front_len block_len kept rest_is more_is among all = λ i d l later. (
    let b : Block = get_or left i d in
    let b_in : Contains made b = among b (Contains-get_or left i d l) in
    let h : IsBlock rects b = All-contains (IsBlockFrom n rects) made b all b_in (omega (arith, later)) in
    let behind : drop (n + m) (front ++ (changed ++ more)) ≡ drop (n + m) rects =
    follows front changed more block n m front_len block_len kept ∙ (more_is ∙ (ap (drop m) rest_is ∙ drop-drop m n rects)) in
    rw (same-later (front ++ (changed ++ more)) rects (n + m) b.start behind later) h)

pub blocks-all : (a : Region) (pieces rest : List Rect) → length rest ≤ 0 → AreBlocksOf a pieces rest → AreScatteredOf a pieces
blocks-all a pieces [] none s = record {
  scattered = s.scattered;
  covers = λ p. (
    (λ c. (s.covers p).0 (inl c)),
    λ c. elim ((s.covers p).1 c) [ inl k ↦ k | inr k ↦ absurd (let found = member-Covers [] (at p.y p.x) k in Contains-nil found.0 found.1) ],
  );
}
blocks-all a pieces (r ∷ rest) none s = absurd (omega (arith, none))

-- transposed rectangles, in another order, have the transposed squares
pub transposed-permuted : (rects sorted : List Rect) → IsPermutation (transposed_rects rects) sorted → SameSquares (transposed (Covers sorted)) (Covers rects)
transposed-permuted rects sorted same p =
    let q : Pt = at p.y p.x in (
      λ c. (covers-transposed rects q).0 ((covers-same (transposed_rects rects) sorted same q).1 c),
      λ c. (covers-same (transposed_rects rects) sorted same q).0 ((covers-transposed rects q).1 c),
    )

pub permuted-within : (rects sorted : List Rect) → IsPermutation (transposed_rects rects) sorted → AreRectsWithin farthest rects → AreRectsWithin farthest sorted
permuted-within rects sorted same w = sorted-within (transposed_rects rects) sorted same (transposed-within farthest rects w)

-- slabs of transposed rectangles in order
pub blocks-slabs : (rects sorted pieces slabs : List Rect) → IsPermutation (transposed_rects rects) sorted
    → AreScatteredOf (transposed (Covers sorted)) pieces → IsPermutation pieces slabs → CornersRise slabs → AreSlabsOf (Covers rects) slabs
blocks-slabs rects sorted pieces slabs same of by rise =
    slabs-of-same (Covers pieces) (Covers rects) slabs (λ p. (
      λ c. (transposed-permuted rects sorted same p).0 ((of.covers p).0 c),
      λ c. (of.covers p).1 ((transposed-permuted rects sorted same p).1 c),
    )) (scattered-sorted pieces slabs of.scattered by rise)
