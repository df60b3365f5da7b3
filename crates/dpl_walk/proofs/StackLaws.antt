-- What is still on the stack of a walk.
use Rattle.std.proofs.Common.{◌≡◌, ℕ, zero, suc, ◌+◌, ◌-◌, ◌*◌, ◌^◌, ◌<◌, ◌≤◌, ◌⊎◌, inl, inr, ⊎_elim, Bool, true, false, cond, pos, ◌+ℤ◌}
use Rattle.std.proofs.Common.{List, [], ◌∷◌, ◌++◌, Option, Some, None, map, length, get_or, refl, sym, ap, ◌∙◌, arith}
use Rattle.std.proofs.lemmas.Bool.{cases_lt}
use Rattle.std.proofs.lemmas.Int.{ints}
use Rattle.std.proofs.lemmas.List.Elements.{Contains-append_left, Contains-append_right, Contains-append_cases, Contains-push, Contains-push_cases}
use Rattle.std.specs.List.{Contains}
use Rattle.std.specs.Option.{option_to_list}
use Rattle.std.specs.Prelude.{slice_get}
use Rattle.std.proofs.lemmas.Option.{slice_get-get_or}
use Rattle.dpl_spec_split.specs.declared.Pt.{Pt}
use Rattle.dpl_spec_split.specs.Loops.{IsPointWithin}
use Rattle.dpl_spec_split.proofs.Ordered.{Contains-nil}
use Rattle.dpl_spec_elements.specs.Motions.{Motion, image, reflected, turned, IsComposed, IsMotionWithin}
use Rattle.dpl_walk.specs.Cells.{copy_motion}
use Rattle.dpl_walk.specs.declared.cells.Outline.{Outline}
use Rattle.dpl_walk.specs.declared.cells.Copies.{Copies}
use Rattle.dpl_walk.specs.declared.cells.Cell.{Cell}
use Rattle.dpl_walk.specs.declared.walk.StackFrame.{StackFrame}
use Rattle.dpl_walk.proofs.ListLaws.{Contains-map, Contains-map_cases, Contains-option, Contains-the_option}
use Rattle.dpl_walk.specs.Walk.{outlines_at, copies_at, outlines_or_none, copies_or_none, Pass, Passes, through, IsShown, Draws, IsGathered}
use Rattle.dpl_walk.specs.Walk.{Gathers, AreOf, IsWalk, AreKnown, frame_of, IsLeft, IsFrame, IsNext, AreSteep, IsPending, IsInWalk}
use Rattle.dpl_walk.specs.Walk.{IsWalking}

same_map : (f g : Pt → Pt) → ((p : Pt) → f p ≡ g p) → (qs : List Pt) → map f qs ≡ map g qs
same_map f g same [] = refl
same_map f g same (q ∷ qs) = rw (same q, same_map f g same qs) refl

-- placed by what takes each point to the same place, a structure shows the same
pub shown_by : (cells : List Cell) (k l : ℕ) (f g : Pt → Pt) (ps : List Pt) (at : ℕ) → k ≡ l → ((p : Pt) → f p ≡ g p) → IsShown cells k f ps at → IsShown cells l g ps at
shown_by cells k l f g ps at e same s = rw (← e) (
  s.0,
  s.1,
  s.2,
  s.3,
  s.4,
  s.5 ∙ same_map (λ p. f (through s.0 p)) (λ p. g (through s.0 p))
      (λ p. same (through s.0 p)) s.2.points,
  s.6,
)

-- a structure shows what it draws, and what its copies show
pub shown_cases : (cells : List Cell) (k : ℕ) (f : Pt → Pt) (ps : List Pt) (at : ℕ) → IsShown cells k f ps at
    → Draws (outlines_at cells k) f ps at ⊎ ((c : Copies) × (i j : ℕ) × AreOf (copies_at cells k) c i j × IsShown cells c.target
    (λ p. f (image (copy_motion c i j) p)) ps at)
shown_cases cells k f ps at s = by_passes s.0 s.1 s.2 s.3 s.4 s.5 s.6
  where
    by_passes : (ss : List Pass) (l : ℕ) (o : Outline) → Passes cells k ss l → Contains (outlines_at cells l) o
        → ps ≡ map (λ p. f (through ss p)) o.points → at ≡ o.at → Draws (outlines_at cells k) f ps at
        ⊎ ((c : Copies) × (i j : ℕ) × AreOf (copies_at cells k) c i j × IsShown cells c.target (λ p. f (image (copy_motion c i j) p)) ps at)
    by_passes [] l o e c is a = inl (o, rw e c, is, a)
    by_passes (s ∷ ss) l o e c is a = inr (s.copies, s.column, s.row, (e.0, e.1, e.2), (ss, l, o, e.3, c, is, a))

pub shown_here : (cells : List Cell) (k : ℕ) (f : Pt → Pt) (ps : List Pt) (at : ℕ) → Draws (outlines_at cells k) f ps at → IsShown cells k f ps at
shown_here cells k f ps at d = ([], k, d.0, refl, d.1, d.2, d.3)

pub shown_below : (cells : List Cell) (k : ℕ) (f : Pt → Pt) (ps : List Pt) (at : ℕ) (c : Copies) (i j : ℕ)
    → AreOf (copies_at cells k) c i j → IsShown cells c.target (λ p. f (image (copy_motion c i j) p)) ps at → IsShown cells k f ps at
shown_below cells k f ps at c i j a s = (record { copies = c; column = i; row = j } ∷ s.0, s.1, s.2, (a.0, a.1, a.2, s.3), s.4, s.5, s.6)

-- ---- frames

-- what is left of a frame is its copy and what is left behind it
left_cases : (f : StackFrame) (next : Option StackFrame) (i j : ℕ) → IsNext f next → IsLeft f i j → ((i ≡ f.column) × (j ≡ f.row)) ⊎ ((n : StackFrame) × (next ≡ Some n) × IsLeft n i j)
left_cases f None i j x l =
    ⊎_elim (λ (h : f.column < i). absurd (omega (arith, x.1, l.0, h))) (λ h. inl (h.0, omega (arith, x.0, l.1, h.1))) l.2
left_cases f (Some n) i j x l =
    ⊎_elim
    (λ a. ⊎_elim (λ (h : f.column < i). inr (n, refl, (rw x.0 l.0, rw x.0 l.1, inl (omega (arith, h, a.1)))))
    (λ h. ⊎_elim (λ (k : f.row < j). inr (n, refl, (rw x.0 l.0, rw x.0 l.1, inr (omega (arith, h.0, a.1), omega (arith, k, a.2)))))
    (λ (k : j ≤ f.row). inl (h.0, omega (arith, k, h.1))) (cases_lt f.row j)) l.2)
    (λ a. ⊎_elim (λ (h : f.column < i). ⊎_elim (λ (k : f.column + 1 < i). inr
    (n, refl, (rw x.0 l.0, rw x.0 l.1, inl (omega (arith, k, a.2)))))
    (λ (k : i ≤ f.column + 1). inr (n, refl, (rw x.0 l.0, rw x.0 l.1, inr (omega (arith, h, k, a.2), omega (arith, a.3)))))
    (cases_lt (f.column + 1) i))
    (λ h. inl (h.0, omega (arith, h.1, l.1, a.0))) l.2)
    x.2

left_back : (f n : StackFrame) (i j : ℕ) → IsNext f (Some n) → IsLeft n i j → IsLeft f i j
left_back f n i j x l = (
  rw (← x.0) l.0,
  rw (← x.0) l.1,
  ⊎_elim
      (λ a. ⊎_elim (λ (h : n.column < i). inl (omega (arith, h, a.1))) (λ h. inr (omega (arith, h.0, a.1), omega (arith, h.1, a.2))) l.2)
      (λ a. ⊎_elim (λ (h : n.column < i). inl (omega (arith, h, a.2))) (λ h. inl (omega (arith, h.0, a.2))) l.2)
      x.2,
)

next_frame : (f n : StackFrame) → IsNext f (Some n) → IsFrame f → IsFrame n
next_frame f n x h = record {
  in_columns = rw x.0 (⊎_elim (λ a. omega (arith, a.1, h.in_columns)) (λ a. omega (arith, a.1, a.2)) x.2);
  in_rows = rw x.0 (⊎_elim (λ a. omega (arith, a.0, a.2)) (λ a. omega (arith, a.3, h.in_rows)) x.2);
}

-- ---- how far placements move

reflected_within : (b : Bool) (d : ℕ) (p : Pt) → IsPointWithin d p → IsPointWithin d (cond b (reflected p) p)
reflected_within true d p h = record { column = h.column; row = omega (arith, ints, h.row) }
reflected_within false d p h = h

turned_within : (n d : ℕ) (p : Pt) → IsPointWithin d p → IsPointWithin d (turned n p)
turned_within zero d p h = h
turned_within (suc n) d p h = let t = turned_within n d p h in record { column = omega (arith, ints, t.row); row = t.column }

origin : Pt
origin = record { x = pos 0; y = pos 0 }

reflected_origin : (b : Bool) → cond b (reflected (record { x = pos 0; y = pos 0 })) (record { x = pos 0; y = pos 0 }) ≡ record { x = pos 0; y = pos 0 }
reflected_origin true = refl
reflected_origin false = refl

turned_origin : (n : ℕ) → turned n (record { x = pos 0; y = pos 0 }) ≡ record { x = pos 0; y = pos 0 }
turned_origin zero = refl
turned_origin (suc n) = rw (turned_origin n) refl

origin_image : (m : Motion) → image m (record { x = pos 0; y = pos 0 }) ≡ record { x = pos 0 +ℤ m.dx; y = pos 0 +ℤ m.dy }
origin_image m = rw (reflected_origin m.reflect, turned_origin m.turns) refl

pub composed_within : (outer inner m : Motion) (b d : ℕ) → IsComposed outer inner m → IsMotionWithin b outer → IsMotionWithin d inner → IsMotionWithin (b + d) m
composed_within outer inner m b d c o i =
    let p : Pt = record { x = pos 0 +ℤ inner.dx; y = pos 0 +ℤ inner.dy } in
    let h : IsPointWithin d p = record { column = omega (arith, ints, i.column); row = omega (arith, ints, i.row) } in
    let q = turned_within outer.turns d (cond outer.reflect (reflected p) p) (reflected_within outer.reflect d p h) in
    let e : record { x = pos 0 +ℤ m.dx; y = pos 0 +ℤ m.dy } ≡ image outer p = sym (origin_image m)
    ∙ (c.1 (record { x = pos 0; y = pos 0 }) ∙ ap (image outer) (origin_image inner)) in
    let x = ap (λ (t : Pt). t.x) e in
    let y = ap (λ (t : Pt). t.y) e in
    record { column = omega (arith, ints, x, q.column, o.column); row = omega (arith, ints, y, q.row, o.row) }

-- ---- steps

pub unit_within : (u : Motion) (d : ℕ) → u.dx ≡ pos 0 → u.dy ≡ pos 0 → IsMotionWithin d u
unit_within u d x y = record { column = rw x (omega arith); row = rw y (omega arith) }

-- the frames of a structure that is placed by m
placed_frames : (cells : List Cell) (steep : AreSteep cells) (k : ℕ) (m : Motion) → AreKnown (2 ^ 60) cells
    → IsMotionWithin (2 ^ 34 * (length cells - steep.level k)) m → (f : StackFrame) → Contains (map (frame_of m) (copies_at cells k)) f
    → IsInWalk cells (length cells) steep.level f
placed_frames cells steep k m known place f c =
    let x = Contains-map_cases (frame_of m) (copies_at cells k) f c in
    let r = known.ready k x.0 x.1 in
    rw (← x.2) (record {
      known = known.targets k x.0 x.1;
      ready = r;
      frame = record { in_columns = r.small.some_columns; in_rows = r.small.some_rows };
      base = steep.level k;
      deep = steep.falls k x.0 x.1;
      high = steep.few k;
      place = place;
      moves = λ i j a b. steep.moves k x.0 i j (x.1, a, b);
    })

frame_left : (m : Motion) (c : Copies) (i j : ℕ) → i < c.columns → j < c.rows → IsLeft (frame_of m c) i j
frame_left m c i j a b = (a, b, ⊎_elim (λ (h : 0 < i). inl h) (λ (h : i ≤ 0). inr (omega (arith, h), omega arith)) (cases_lt 0 i))

-- what a structure shows is drawn by itself, or pending
pending_of : (cells : List Cell) (k : ℕ) (m : Motion) (ps : List Pt) (at : ℕ) (prefix : List StackFrame) → IsShown cells k (image m) ps at
    → Draws (outlines_at cells k) (image m) ps at ⊎ IsPending cells (prefix ++ map (frame_of m) (copies_at cells k)) ps at
pending_of cells k m ps at prefix s =
    ⊎_elim (λ d. inl d)
    (λ x. inr (
      frame_of m x.0,
      Contains-append_right prefix (map (frame_of m) (copies_at cells k)) (frame_of m x.0)
          (Contains-map (frame_of m) (copies_at cells k) x.0 x.3.0),
      x.1,
      x.2,
      frame_left m x.0 x.1 x.2 x.3.1 x.3.2,
      x.4,
    ))
    (shown_cases cells k (image m) ps at s)

-- and what is pending there is shown
shown_of : (cells : List Cell) (k : ℕ) (m : Motion) (ps : List Pt) (at : ℕ) → IsPending cells (map (frame_of m) (copies_at cells k)) ps at → IsShown cells k (image m) ps at
shown_of cells k m ps at x =
    let y = Contains-map_cases (frame_of m) (copies_at cells k) x.0 x.1 in
    by_copy x.0 y.0 y.1 y.2 x.2 x.3 x.4 x.5
  where
    by_copy : (f : StackFrame) (c : Copies) → Contains (copies_at cells k) c → frame_of m c ≡ f → (i j : ℕ) → IsLeft f i j
        → IsShown cells f.copies.target (λ p. image f.place (image (copy_motion f.copies i j) p)) ps at → IsShown cells k (image m) ps at
    by_copy f c h e i j l s =
        let a : i < c.columns = let q = ap (λ (g : StackFrame). g.copies.columns) e in omega (arith, q, l.0) in
        let b : j < c.rows = let q = ap (λ (g : StackFrame). g.copies.rows) e in omega (arith, q, l.1) in
        shown_below cells k (image m) ps at c i j (h, a, b)
        (shown_by cells f.copies.target c.target (λ p. image f.place (image (copy_motion f.copies i j) p))
        (λ p. image m (image (copy_motion c i j) p)) ps at (ap (λ (g : StackFrame). g.copies.target) (sym e))
        (λ p. ap (λ (g : StackFrame). image g.place (image (copy_motion g.copies i j) p)) (sym e)) s)

pub walking_start : (cells : List Cell) (top : ℕ) (u : Motion) (none loops : List (List Pt)) (before far : Option ℕ)
    (empty stack : List StackFrame) (steep : AreSteep cells) → AreKnown (2 ^ 60) cells → ((p : Pt) → image u p ≡ p) → u.dx ≡ pos 0 → u.dy ≡ pos 0
    → none ≡ [] → before ≡ None → empty ≡ [] → Gathers (outlines_at cells top) (image u) none loops before far
    → stack ≡ empty ++ map (frame_of u) (copies_at cells top) → IsWalking cells top (length cells) steep.level loops far stack
walking_start cells top u none loops before far empty stack steep known still x y ne be ee g se = record {
  complete = λ ps at s. ⊎_elim (λ d. inl (g.gathers ps at d)) (λ p. inr (rw se p))
      (pending_of cells top u ps at empty (shown_by cells top top (λ p. p) (image u) ps at refl (λ p. sym (still p)) s));
  sound = λ ps c. ⊎_elim (λ z. absurd (Contains-nil ps (rw ne at z))) (λ z. (z.0, back ps z.0 (shown_here cells top (image u) ps z.0 z.1))) (g.alone ps c);
  pending = λ ps at p. back ps at (shown_of cells top u ps at (at_start ps at p));
  out = λ at e. ⊎_elim (λ z. absurd (let q : None ≡ Some at = sym be ∙ z in cc)) (λ z. (z.0, back z.0 at (shown_here cells top (image u) z.0 at z.1), z.2)) (g.far at e);
  frames = λ f c. placed_frames cells steep top u known (unit_within u (2 ^ 34 * (length cells - steep.level top)) x y) f (rw (se, ee) at c);
}
  where
    back : (ps : List Pt) (at : ℕ) → IsShown cells top (image u) ps at → IsShown cells top (λ p. p) ps at
    back ps at s = shown_by cells top top (image u) (λ p. p) ps at refl still s

    at_start : (ps : List Pt) (at : ℕ) → IsPending cells stack ps at → IsPending cells (map (frame_of u) (copies_at cells top)) ps at
    at_start ps at p = rw (se, ee) at p

module _ (cells : List Cell) (top : ℕ) (steep : AreSteep cells) (known : AreKnown (2 ^ 60) cells) (small : length cells ≤ 2 ^ 26)
    (loops : List (List Pt)) (far : Option ℕ) (stack rest : List StackFrame) (f : StackFrame) (e : stack ≡ rest ++ f ∷ [])
    (w : IsWalking cells top (length cells) steep.level loops far stack) where
  there : Contains stack f
  there = rw e (Contains-push rest f)

  pub popped : IsInWalk cells (length cells) steep.level f
  popped = w.frames f there

  pub place_small : IsMotionWithin (2 ^ 61) f.place
  place_small = let p = popped.place in let h = small in record { column = omega (arith, p.column, h); row = omega (arith, p.row, h) }

  pub moved_within : (m : Motion) → IsComposed f.place (copy_motion f.copies f.column f.row) m → IsMotionWithin (2 ^ 34 * (length cells - steep.level f.copies.target)) m
  moved_within m c =
      let inner = popped.moves f.column f.row popped.frame.in_columns popped.frame.in_rows in
      let x = composed_within f.place (copy_motion f.copies f.column f.row) m (2 ^ 34 * (length cells - popped.base))
      (2 ^ 34 * (popped.base - steep.level f.copies.target)) c popped.place inner in
      let d = popped.deep in
      let h = popped.high in
      record { column = omega (arith, x.column, d, h); row = omega (arith, x.row, d, h) }

  pub moved_small : (m : Motion) → IsComposed f.place (copy_motion f.copies f.column f.row) m → IsMotionWithin (2 ^ 61) m
  moved_small m c = let x = moved_within m c in let q = small in record { column = omega (arith, x.column, q); row = omega (arith, x.row, q) }

  kept : (g : StackFrame) → Contains rest g → Contains stack g
  kept g c = rw e (Contains-append_left rest (f ∷ []) g c)

  module _ (next : Option StackFrame) (m : Motion) (new : List (List Pt)) (after : Option ℕ) (middle last : List StackFrame) (x : IsNext f next)
      (c : IsComposed f.place (copy_motion f.copies f.column f.row) m) (me : middle ≡ rest ++ option_to_list next)
      (g : Gathers (outlines_at cells f.copies.target) (image m) loops new far after)
      (le : last ≡ middle ++ map (frame_of m) (copies_at cells f.copies.target)) where
    in_middle : (u : StackFrame) → Contains middle u → Contains last u
    in_middle u h = rw le (Contains-append_left middle (map (frame_of m) (copies_at cells f.copies.target)) u h)

    -- what the copy shows
    up : (ps : List Pt) (at : ℕ) → IsShown cells f.copies.target (image m) ps at → IsShown cells top (λ p. p) ps at
    up ps at s = w.pending ps at (
      f,
      there,
      f.column,
      f.row,
      (popped.frame.in_columns, popped.frame.in_rows, inr (refl, omega arith)),
      shown_by cells f.copies.target f.copies.target (image m) (λ p. image f.place (image (copy_motion f.copies f.column f.row) p)) ps at
          refl c.1 s,
    )

    mine : (ps : List Pt) (at i j : ℕ) → i ≡ f.column → j ≡ f.row
        → IsShown cells f.copies.target (λ p. image f.place (image (copy_motion f.copies i j) p)) ps at → IsGathered new after ps at
        ⊎ IsPending cells last ps at
    mine ps at i j a b s =
        let t = shown_by cells f.copies.target f.copies.target (λ p. image f.place (image (copy_motion f.copies i j) p)) (image m) ps at refl (λ p. rw (a, b) (sym (c.1 p))) s in
        ⊎_elim (λ d. inl (g.gathers ps at d)) (λ p. inr (rw le p)) (pending_of cells f.copies.target m ps at middle t)

    theirs : (ps : List Pt) (at : ℕ) (u : StackFrame) (i j : ℕ) → next ≡ Some u → IsLeft u i j
        → IsShown cells f.copies.target (λ p. image f.place (image (copy_motion f.copies i j) p)) ps at → IsPending cells last ps at
    theirs ps at u i j n l s =
        let y : IsNext f (Some u) = rw n at x in (
          u,
          in_middle u (rw me (Contains-append_right rest (option_to_list next) u (Contains-the_option next u n))),
          i,
          j,
          l,
          shown_by cells f.copies.target u.copies.target (λ p. image f.place (image (copy_motion f.copies i j) p))
              (λ p. image u.place (image (copy_motion u.copies i j) p)) ps at (ap (λ (d : Copies). d.target) (sym y.0))
              (λ p. rw (y.0, y.1) refl) s,
        )

    later : (ps : List Pt) (at : ℕ) → IsPending cells stack ps at → IsGathered new after ps at ⊎ IsPending cells last ps at
    later ps at p =
        ⊎_elim (λ h. inr (p.0, in_middle p.0 (rw me (Contains-append_left rest (option_to_list next) p.0 h)), p.2, p.3, p.4, p.5))
        (λ (q : f ≡ p.0). by_left p.2 p.3 (rw q p.4) (shown_by cells p.0.copies.target f.copies.target
        (λ z. image p.0.place (image (copy_motion p.0.copies p.2 p.3) z)) (λ z. image f.place (image (copy_motion f.copies p.2 p.3) z))
        ps at (ap (λ (d : StackFrame). d.copies.target) (sym q))
        (λ z. ap (λ (d : StackFrame). image d.place (image (copy_motion d.copies p.2 p.3) z)) (sym q)) p.5))
        (Contains-push_cases rest f p.0 (rw e at p.1))
      where
        by_left : (i j : ℕ) → IsLeft f i j → IsShown cells f.copies.target (λ z. image f.place (image (copy_motion f.copies i j) z)) ps at
            → IsGathered new after ps at ⊎ IsPending cells last ps at
        by_left i j l s = ⊎_elim (λ a. mine ps at i j a.0 a.1 s) (λ a. inr (theirs ps at a.0 i j a.1 a.2 s)) (left_cases f next i j x l)

    earlier_pending : (ps : List Pt) (at : ℕ) → IsPending cells last ps at → IsShown cells top (λ p. p) ps at
    earlier_pending ps at p =
        ⊎_elim (λ h. ⊎_elim (λ k. w.pending ps at (p.0, kept p.0 k, p.2, p.3, p.4, p.5))
        (λ k. behind p.0 (Contains-option next p.0 k) p.2 p.3 p.4 p.5) (Contains-append_cases rest (option_to_list next) p.0
        (rw me at h)))
        (λ h. up ps at (shown_of cells f.copies.target m ps at (p.0, h, p.2, p.3, p.4, p.5)))
        (Contains-append_cases middle (map (frame_of m) (copies_at cells f.copies.target)) p.0 (rw le at p.1))
      where
        behind : (u : StackFrame) → next ≡ Some u → (i j : ℕ) → IsLeft u i j
            → IsShown cells u.copies.target (λ z. image u.place (image (copy_motion u.copies i j) z)) ps at → IsShown cells top (λ z. z) ps at
        behind u n i j l s =
            let y : IsNext f (Some u) = rw n at x in
            w.pending ps at (
              f,
              there,
              i,
              j,
              left_back f u i j y l,
              shown_by cells u.copies.target f.copies.target
                  (λ z. image u.place (image (copy_motion u.copies i j) z)) (λ z. image f.place (image (copy_motion f.copies i j) z)) ps at
                  (ap (λ (d : Copies). d.target) y.0) (λ z. rw (y.0, y.1) refl) s,
            )

    now_frames : (u : StackFrame) → Contains last u → IsInWalk cells (length cells) steep.level u
    now_frames u h =
        ⊎_elim (λ k. ⊎_elim (λ z. w.frames u (kept u z)) (λ z. behind u (Contains-option next u z)) (Contains-append_cases rest (option_to_list next) u (rw me at k)))
        (λ k. placed_frames cells steep f.copies.target m known (moved_within m c) u k)
        (Contains-append_cases middle (map (frame_of m) (copies_at cells f.copies.target)) u (rw le at h))
      where
        behind : (u : StackFrame) → next ≡ Some u → IsInWalk cells (length cells) steep.level u
        behind u n =
            let y : IsNext f (Some u) = rw n at x in
            record {
              known = rw y.0 popped.known;
              ready = rw y.0 popped.ready;
              frame = next_frame f u y popped.frame;
              base = popped.base;
              deep = rw y.0 popped.deep;
              high = popped.high;
              place = rw y.1 popped.place;
              moves = rw y.0 popped.moves;
            }

    pub walking_more : IsWalking cells top (length cells) steep.level new after last
    walking_more = record {
      complete = λ ps at s. ⊎_elim (λ z. inl (g.keeps ps at z)) (λ z. later ps at z) (w.complete ps at s);
      sound = λ ps h. ⊎_elim (λ z. w.sound ps z) (λ z. (z.0, up ps z.0 (shown_here cells f.copies.target (image m) ps z.0 z.1))) (g.alone ps h);
      pending = earlier_pending;
      out = λ at h. ⊎_elim (λ z. w.out at z) (λ z. (z.0, up z.0 at (shown_here cells f.copies.target (image m) z.0 at z.1), z.2)) (g.far at h);
      frames = now_frames;
    }

pub walking_all : (cells : List Cell) (top n : ℕ) (level : ℕ → ℕ) (loops : List (List Pt)) (far : Option ℕ) (stack : List StackFrame)
    → length stack ≡ 0 → IsWalking cells top n level loops far stack → IsWalk cells top loops far
walking_all cells top n level loops far stack none w = record {
  complete = λ ps at s. ⊎_elim (λ x. x) (λ x. absurd (omega (arith, x.1.1, none))) (w.complete ps at s);
  sound = w.sound;
  out = w.out;
}

pub outlines_are : (cells : List Cell) (k : ℕ) (x : Cell) → k < length cells → x ≡ get_or cells k x → x.outlines ≡ outlines_at cells k
outlines_are cells k x h e = let s : slice_get cells k ≡ Some x = slice_get-get_or cells k x h ∙ ap Some (sym e) in sym (ap outlines_or_none s)

pub copies_are : (cells : List Cell) (k : ℕ) (x : Cell) → k < length cells → x ≡ get_or cells k x → x.copies ≡ copies_at cells k
copies_are cells k x h e = let s : slice_get cells k ≡ Some x = slice_get-get_or cells k x h ∙ ap Some (sym e) in sym (ap copies_or_none s)
