-- Ways past structures that place one copy of another one.
use Rattle.std.proofs.Common.{◌≡◌, ℕ, zero, suc, ◌+◌, ◌-◌, ◌*◌, ◌^◌, ◌<◌, ◌≤◌, ⊎_elim, Bool, ℤ, pos, ◌+ℤ◌, ◌*ℤ◌, List, [], ◌∷◌, Option}
use Rattle.std.proofs.Common.{Some, length, get_or, refl, sym, ap, subst, ◌∙◌, cond, arith}
use Rattle.std.specs.List.{Contains}
use Rattle.std.specs.Prelude.{slice_get, ◌↔◌, unsigned_abs}
use Rattle.std.proofs.Math.Nat.{mul-le-mul_right}
use Rattle.std.proofs.lemmas.Int.{ints, unsigned_abs-mul}
use Rattle.std.proofs.lemmas.Option.{slice_get-get_or}
use Rattle.dpl_spec_split.specs.declared.Pt.{Pt}
use Rattle.dpl_spec_split.proofs.Ordered.{Contains-head, Contains-cases, Contains-nil}
use Rattle.dpl_spec_elements.specs.Motions.{Motion, image, reflected, turned, IsComposed, IsMotionWithin}
use Rattle.dpl_place.proofs.Turning.{same_point}
use Rattle.dpl_walk.specs.declared.cells.Copies.{Copies}
use Rattle.dpl_walk.specs.declared.cells.Cell.{Cell}
use Rattle.dpl_walk.specs.declared.ways.Way.{Way}
use Rattle.dpl_walk.specs.Cells.{copy_motion, IsReady, IsSpanWithin}
use Rattle.dpl_walk.specs.Walk.{outlines_at, copies_at, IsShown, AreOf, AreDeep, AreSteep, AreKnown, IsWalk}
use Rattle.dpl_walk.specs.Ways.{IsPassage, IsWay, AreWays, HasWays, IsShort, AreCellsShort, HasPassage, IsWhole, AreAllWhole, ArePassed, ShowsSame}
use Rattle.dpl_walk.proofs.StackLaws.{shown_by, shown_cases, shown_here, shown_below, composed_within, outlines_are, copies_are}

-- ---- motions of copies

times_within : (i n : ℕ) (x : ℤ) (b : ℕ) → i < n → n * unsigned_abs x ≤ b → unsigned_abs (pos i *ℤ x) ≤ b
times_within i n x b h k = let m = mul-le-mul_right {m = i} {n = n} (unsigned_abs x) (omega (arith, h)) in omega (arith, unsigned_abs-mul (pos i) x, m, k)

sum_within : (a b c : ℤ) → unsigned_abs a ≤ 2 ^ 31 → unsigned_abs b ≤ 2 ^ 32 → unsigned_abs c ≤ 2 ^ 32 → unsigned_abs ((a +ℤ b) +ℤ c) ≤ 2 ^ 34
sum_within a b c x y z = omega (arith, ints, x, y, z)

pub copy_within : (c : Copies) (i j : ℕ) → IsReady (2 ^ 31) c → i < c.columns → j < c.rows → IsMotionWithin (2 ^ 34) (copy_motion c i j)
copy_within c i j r a b =
    let s = r.small in
    record {
      column = sum_within c.origin.x (pos i *ℤ c.across.x) (pos j *ℤ c.up.x) s.origin.column
          (times_within i c.columns c.across.x (2 ^ 32) a s.across.column) (times_within j c.rows c.up.x (2 ^ 32) b s.up.column);
      row = sum_within c.origin.y (pos i *ℤ c.across.y) (pos j *ℤ c.up.y) s.origin.row
          (times_within i c.columns c.across.y (2 ^ 32) a s.across.row) (times_within j c.rows c.up.y (2 ^ 32) b s.up.row);
    }

pub ready_wide : (c : Copies) → IsReady (2 ^ 31) c → IsReady (2 ^ 60) c
ready_wide c r =
    let s = r.small in
    let o = s.origin in
    record {
      small = record {
        origin = record { column = omega (arith, o.column); row = omega (arith, o.row) };
        across = s.across;
        up = s.up;
        columns = s.columns;
        rows = s.rows;
        some_columns = s.some_columns;
        some_rows = s.some_rows;
      };
      few = r.few;
    }

not_moved : (o x y : ℤ) → (o +ℤ (pos 0 *ℤ x)) +ℤ (pos 0 *ℤ y) ≡ o
not_moved o x y = omega (arith, ints)

all_moved : (t u o q a b : ℤ) → t +ℤ o ≡ u +ℤ q → t +ℤ ((o +ℤ a) +ℤ b) ≡ u +ℤ ((q +ℤ a) +ℤ b)
all_moved t u o q a b e = omega (arith, ints, e)

shifted : (t u o q a b x y z w : ℤ) → t +ℤ ((o +ℤ (pos 0 *ℤ x)) +ℤ (pos 0 *ℤ y)) ≡ u +ℤ ((q +ℤ (pos 0 *ℤ z)) +ℤ (pos 0 *ℤ w)) → t +ℤ ((o +ℤ a) +ℤ b) ≡ u +ℤ ((q +ℤ a) +ℤ b)
shifted t u o q a b x y z w e = all_moved t u o q a b (ap (λ v. t +ℤ v) (sym (not_moved o x y)) ∙ (e ∙ ap (λ v. u +ℤ v) (not_moved q z w)))

-- what moves the first copy to another place moves all of them there
pub short_motions : (c : Copies) (w : Way) (s : Copies) (i j : ℕ) → IsShort c w s → IsComposed (copy_motion c i j) w.place (copy_motion s i j)
short_motions c w s i j h = (h.first.0, λ p. rw (h.across, h.up) (from_first p (h.first.1 p)))
  where
    from_first : (p : Pt) → image (copy_motion s 0 0) p ≡ image (copy_motion c 0 0) (image w.place p)
        → image (record {
          reflect = s.reflect;
          turns = s.turns;
          dx = (s.origin.x +ℤ (pos i *ℤ c.across.x)) +ℤ
              (pos j *ℤ c.up.x);
          dy = (s.origin.y +ℤ (pos i *ℤ c.across.y)) +ℤ (pos j *ℤ c.up.y);
        }) p ≡ image (copy_motion c i j) (image w.place p)
    from_first p e =
        let t : Pt = turned s.turns (cond s.reflect (reflected p) p) in
        let q : Pt = image w.place p in
        let u : Pt = turned c.turns (cond c.reflect (reflected q) q) in
        same_point _ _
        (shifted t.x u.x s.origin.x c.origin.x (pos i *ℤ c.across.x) (pos j *ℤ c.up.x) s.across.x s.up.x c.across.x c.up.x (ap (λ (z : Pt). z.x) e))
        (shifted t.y u.y s.origin.y c.origin.y (pos i *ℤ c.across.y) (pos j *ℤ c.up.y) s.across.y s.up.y c.across.y c.up.y (ap (λ (z : Pt). z.y) e))

same_motion : (m n : Motion) → m.reflect ≡ n.reflect → m.turns ≡ n.turns → m.dx ≡ n.dx → m.dy ≡ n.dy → m ≡ n
same_motion m n a b x y = λ i. record { reflect = a i; turns = b i; dx = x i; dy = y i }

stays : (a b x y : ℤ) → a ≡ b → b ≡ (a +ℤ (pos 0 *ℤ x)) +ℤ (pos 0 *ℤ y)
stays a b x y e = sym e ∙ sym (not_moved a x y)

pub short_of : (c : Copies) (w v : Way) (r : Bool) (t : ℕ) (x y : ℤ) → v.target ≡ w.target → IsComposed (copy_motion c 0 0) w.place v.place
    → r ≡ v.place.reflect → t ≡ v.place.turns → x ≡ v.place.dx → y ≡ v.place.dy
    → IsShort c w (record {
      target = v.target;
      reflect = r;
      turns = t;
      origin = record { x = x; y = y };
      across = c.across;
      up = c.up;
      columns = c.columns;
      rows = c.rows;
    })
short_of c w v r t x y target is re te xe ye = record {
  target = target;
  first = subst (λ (m : Motion). IsComposed (copy_motion c 0 0) w.place m) moved is;
  across = refl;
  up = refl;
  columns = refl;
  rows = refl;
}
  where
    moved : v.place ≡ record { reflect = r; turns = t; dx = (x +ℤ (pos 0 *ℤ c.across.x)) +ℤ (pos 0 *ℤ c.up.x); dy = (y +ℤ (pos 0 *ℤ c.across.y)) +ℤ (pos 0 *ℤ c.up.y) }
    moved = same_motion _ _ (sym re) (sym te) (stays x v.place.dx c.across.x c.up.x xe) (stays y v.place.dy c.across.y c.up.y ye)

origin_within : (o x y : ℤ) (n : ℕ) → unsigned_abs ((o +ℤ (pos 0 *ℤ x)) +ℤ (pos 0 *ℤ y)) ≤ n → unsigned_abs o ≤ n
origin_within o x y n h = subst (λ (z : ℤ). unsigned_abs z ≤ n) (not_moved o x y) h

same_span : (n i j : ℕ) (x y : Pt) → j ≡ i → y ≡ x → IsSpanWithin n i x → IsSpanWithin n j y
same_span n i j x y d e h = rw (d, e) h

-- ---- ways

own_shown : (cells : List Cell) (k : ℕ) (w : Way) → w.target ≡ k → ((p : Pt) → image w.place p ≡ p) → (f : Pt → Pt) (ps : List Pt) (at : ℕ)
    → IsShown cells k f ps at ↔ IsShown cells w.target (λ p. f (image w.place p)) ps at
own_shown cells k w e still f ps at = (
  λ s. shown_by cells k w.target f (λ p. f (image w.place p)) ps at (sym e) (λ p. ap f (sym (still p))) s,
  λ s. shown_by cells w.target k (λ p. f (image w.place p)) f ps at e (λ p. ap f (still p)) s,
)

pub own_is_way : (cells : List Cell) (level : ℕ → ℕ) (k : ℕ) (w : Way) → k < length cells → w.target ≡ k → ((p : Pt) → image w.place p ≡ p)
    → IsMotionWithin 0 w.place → IsWay cells level k w
own_is_way cells level k w h e still m = record {
  known = omega (arith, h, e);
  falls = rw e (omega arith);
  moves = record { column = let q = m.column in omega (arith, q); row = let q = m.row in omega (arith, q) };
  shows = own_shown cells k w e still;
}

-- a structure that places one copy shows what the copy shows
module _ (cells : List Cell) (k : ℕ) (c : Copies) (p : IsPassage (outlines_at cells k) (copies_at cells k) c) where
  placed : Contains (copies_at cells k) c
  placed = rw p.alone (Contains-head c [])

  pub first_of_one : AreOf (copies_at cells k) c 0 0
  first_of_one = (placed, omega (arith, p.columns), omega (arith, p.rows))

  only : (d : Copies) (i j : ℕ) → AreOf (copies_at cells k) d i j → (d ≡ c) × (i ≡ 0) × (j ≡ 0)
  only d i j a = by_same (⊎_elim (λ (e : c ≡ d). sym e) (λ x. absurd (Contains-nil d x)) (Contains-cases c d [] (rw p.alone at a.0)))
    where
      by_same : d ≡ c → (d ≡ c) × (i ≡ 0) × (j ≡ 0)
      by_same e = (e, omega (arith, rw e at a.1, p.columns), omega (arith, rw e at a.2, p.rows))

  pub passage_shows : (f : Pt → Pt) (ps : List Pt) (at : ℕ) → IsShown cells k f ps at → IsShown cells c.target (λ q. f (image (copy_motion c 0 0) q)) ps at
  passage_shows f ps at s =
      ⊎_elim (λ d. absurd (Contains-nil d.0 (rw p.bare at d.1)))
      (λ x. let o = only x.0 x.1 x.2 x.3 in
      shown_by cells x.0.target c.target (λ q. f (image (copy_motion x.0 x.1 x.2) q)) (λ q. f (image (copy_motion c 0 0) q)) ps at
      (ap (λ (d : Copies). d.target) o.0) (λ q. rw (o.0, o.1, o.2) refl) x.4)
      (shown_cases cells k f ps at s)

  pub shows_passage : (f : Pt → Pt) (ps : List Pt) (at : ℕ) → IsShown cells c.target (λ q. f (image (copy_motion c 0 0) q)) ps at → IsShown cells k f ps at
  shows_passage f ps at s = shown_below cells k f ps at c 0 0 first_of_one s

pub passage_at : (cells : List Cell) (k : ℕ) (x : Cell) (c : Copies) → k < length cells → x ≡ get_or cells k x
    → IsPassage x.outlines x.copies c → IsPassage (outlines_at cells k) (copies_at cells k) c
passage_at cells k x c h e p = record {
  bare = sym (outlines_are cells k x h e) ∙ p.bare;
  alone = sym (copies_are cells k x h e) ∙ p.alone;
  columns = p.columns;
  rows = p.rows;
}

-- what is known of the target of a structure's only copy
module _ (cells : List Cell) (ways : List Way) (k : ℕ) (x : Cell) (c : Copies) (h : k < length cells) (e : x ≡ get_or cells k x)
    (p : IsPassage x.outlines x.copies c) (known : AreKnown (2 ^ 31) cells) (has : HasWays cells ways) where
  pub there : Contains (copies_at cells k) c
  there = (first_of_one cells k c (passage_at cells k x c h e p)).0

  pub target_below : c.target < length ways
  target_below = let t = known.targets k c there in let l = has.1.each in omega (arith, t, l)

  pub way_there : (w : Way) → w ≡ get_or ways c.target w → slice_get ways c.target ≡ Some w
  way_there w is = slice_get-get_or ways c.target w target_below ∙ ap Some (sym is)

  pub whole_there : (rest w : Way) → rest ≡ get_or ways c.target rest → w.target ≡ rest.target
      → ((d : Copies) (v : Way) → Contains (copies_at cells k) d → slice_get ways d.target ≡ Some v → IsWhole cells v) → IsWhole cells w
  whole_there rest w is t all = rw t (all c rest there (way_there rest is))

pub own_whole : (cells : List Cell) (k : ℕ) (x : Cell) (w : Way) → k < length cells → x ≡ get_or cells k x
    → ((c : Copies) → ¬ IsPassage x.outlines x.copies c) → w.target ≡ k → IsWhole cells w
own_whole cells k x w h e none t = rw t (λ p. none p.0 (record {
  bare = outlines_are cells k x h e ∙ p.1.bare;
  alone = copies_are cells k x h e ∙ p.1.alone;
  columns = p.1.columns;
  rows = p.1.rows;
}))

pub passage_way : (cells : List Cell) (d : AreDeep cells) (k : ℕ) (c : Copies) (rest w : Way) → IsReady (2 ^ 31) c
    → IsPassage (outlines_at cells k) (copies_at cells k) c → IsWay cells d.level c.target rest → w.target ≡ rest.target
    → IsComposed (copy_motion c 0 0) rest.place w.place → IsWay cells d.level k w
passage_way cells d k c rest w ready p r e is = record {
  known = rw e r.known;
  falls = rw e (omega (arith, falls, r.falls));
  moves = rw e (record { column = omega (arith, within.column, falls, low); row = omega (arith, within.row, falls, low) });
  shows = λ f ps at. (
    λ s. shown_by cells rest.target w.target (λ q. f (image (copy_motion c 0 0) (image rest.place q))) (λ q. f (image w.place q)) ps at
        (sym e) (λ q. ap f (sym (is.1 q))) ((r.shows (λ q. f (image (copy_motion c 0 0) q)) ps at).0 (passage_shows cells k c p f ps at s)),
    λ s. shows_passage cells k c p f ps at ((r.shows (λ q. f (image (copy_motion c 0 0) q)) ps at).1
        (shown_by cells w.target rest.target (λ q. f (image w.place q)) (λ q. f (image (copy_motion c 0 0) (image rest.place q))) ps at e
        (λ q. ap f (is.1 q)) s)),
  );
}
  where
    falls : d.level c.target < d.level k
    falls = d.falls k c (first_of_one cells k c p).0

    low : d.level rest.target ≤ d.level c.target
    low = r.falls

    within : IsMotionWithin (2 ^ 34 + 2 ^ 34 * (d.level c.target - d.level rest.target)) w.place
    within = composed_within (copy_motion c 0 0) rest.place w.place (2 ^ 34) (2 ^ 34 * (d.level c.target - d.level rest.target)) is
        (copy_within c 0 0 ready (first_of_one cells k c p).1 (first_of_one cells k c p).2) r.moves

-- a way moves by at most 2 ^ 60
pub way_within : (cells : List Cell) (d : AreDeep cells) (k : ℕ) (w : Way) → length cells ≤ 2 ^ 26 → IsWay cells d.level k w → IsMotionWithin (2 ^ 60) w.place
way_within cells d k w few r = let m = r.moves in let l = d.few k in record { column = omega (arith, m.column, l, few); row = omega (arith, m.row, l, few) }

-- ---- what shortened copies show

-- where structures show the same, so do walks
pub same_walk : (cells new : List Cell) (top : ℕ) (loops : List (List Pt)) (far : Option ℕ) → ShowsSame cells new → IsWalk new top loops far → IsWalk cells top loops far
same_walk cells new top loops far same w = record {
  complete = λ ps at s. w.complete ps at ((same top (λ p. p) ps at).0 s);
  sound = λ ps c. let x = w.sound ps c in (x.0, (same top (λ p. p) ps x.0).1 x.1);
  out = λ at e. let x = w.out at e in (x.0, (same top (λ p. p) x.0 at).1 x.1, x.2);
}

module _ (cells new : List Cell) (ways : List Way) (d : AreDeep cells) (are : AreWays cells d.level ways) (known : AreKnown (2 ^ 31) cells)
    (few : length cells ≤ 2 ^ 26) (short : AreCellsShort ways cells new) where
  way_of : (k : ℕ) (c : Copies) (w : Way) → Contains (copies_at cells k) c → slice_get ways c.target ≡ Some w → IsWay cells d.level c.target w
  way_of k c w h e = are.way c.target w e

  to_below : (k : ℕ) (f : Pt → Pt) (ps : List Pt) (at : ℕ) → ((l : ℕ) → d.level l < d.level k → (g : Pt → Pt) → IsShown cells l g ps at
      → IsShown new l g ps at) → (c : Copies) (i j : ℕ) → AreOf (copies_at cells k) c i j
      → IsShown cells c.target (λ p. f (image (copy_motion c i j) p)) ps at → IsShown new k f ps at
  to_below k f ps at rec c i j a t =
      let (b, inside, (w, e, is)) = (short.copies k).kept c a.0 in
      let r = way_of k c w a.0 e in
      let lower = d.falls k c a.0 in
      let low = r.falls in
      let motions = short_motions c w b i j is in
      let there = rec w.target (omega (arith, lower, low)) (λ p. f (image (copy_motion c i j) (image w.place p))) ((r.shows (λ p. f (image (copy_motion c i j) p)) ps at).0 t) in
      shown_below new k f ps at b i j (inside, rw is.columns a.1, rw is.rows a.2)
      (shown_by new w.target b.target (λ p. f (image (copy_motion c i j) (image w.place p))) (λ p. f (image (copy_motion b i j) p)) ps at
      (sym is.target) (λ p. ap f (sym (motions.1 p))) there)

  to_new : (n k : ℕ) → d.level k < n → (f : Pt → Pt) (ps : List Pt) (at : ℕ) → IsShown cells k f ps at → IsShown new k f ps at
  to_new zero k h f ps at s = absurd (omega (arith, h))
  to_new (suc n) k h f ps at s =
      ⊎_elim (λ x. shown_here new k f ps at (rw (short.draws k) x))
      (λ x. to_below k f ps at (λ l q g t. to_new n l (omega (arith, h, q)) g ps at t) x.0 x.1 x.2 x.3 x.4)
      (shown_cases cells k f ps at s)

  from_below : (k : ℕ) (f : Pt → Pt) (ps : List Pt) (at : ℕ) → ((l : ℕ) → d.level l < d.level k → (g : Pt → Pt) → IsShown new l g ps at
      → IsShown cells l g ps at) → (b : Copies) (i j : ℕ) → AreOf (copies_at new k) b i j
      → IsShown new b.target (λ p. f (image (copy_motion b i j) p)) ps at → IsShown cells k f ps at
  from_below k f ps at rec b i j a t =
      let (c, inside, (w, e, is)) = (short.copies k).alone b a.0 in
      let r = way_of k c w inside e in
      let lower = d.falls k c inside in
      let low = r.falls in
      let motions = short_motions c w b i j is in
      let s = shown_by new b.target w.target (λ p. f (image (copy_motion b i j) p)) (λ p. f (image (copy_motion c i j) (image w.place p)))
      ps at is.target (λ p. ap f (motions.1 p)) t in
      let there = rec w.target (omega (arith, lower, low)) (λ p. f (image (copy_motion c i j) (image w.place p))) s in
      shown_below cells k f ps at c i j (inside, rw (← is.columns) a.1, rw (← is.rows) a.2) ((r.shows (λ p. f (image (copy_motion c i j) p)) ps at).1 there)

  from_new : (n k : ℕ) → d.level k < n → (f : Pt → Pt) (ps : List Pt) (at : ℕ) → IsShown new k f ps at → IsShown cells k f ps at
  from_new zero k h f ps at s = absurd (omega (arith, h))
  from_new (suc n) k h f ps at s =
      ⊎_elim (λ x. shown_here cells k f ps at (rw (short.draws k) at x))
      (λ x. from_below k f ps at (λ l q g t. from_new n l (omega (arith, h, q)) g ps at t) x.0 x.1 x.2 x.3 x.4)
      (shown_cases new k f ps at s)

  pub same_shown : ShowsSame cells new
  same_shown k f ps at = (to_new (suc (d.level k)) k (omega arith) f ps at, from_new (suc (d.level k)) k (omega arith) f ps at)

  -- a structure that has a passage had one
  had_passage : (k : ℕ) (b : Copies) → IsPassage (outlines_at new k) (copies_at new k) b → HasPassage cells k
  had_passage k b p = by_copies (copies_at cells k) refl
    where
      inside : Contains (copies_at new k) b
      inside = rw p.alone (Contains-head b [])

      one : length (copies_at cells k) ≡ 1
      one = sym (short.copies k).each ∙ ap length p.alone

      by_copies : (cs : List Copies) → copies_at cells k ≡ cs → HasPassage cells k
      by_copies [] e = let n = ap length e in absurd (omega (arith, one, n))
      by_copies (c ∷ []) e =
          let (d, there, (w, s, is)) = (short.copies k).alone b inside in
          let same : c ≡ d = ⊎_elim (λ x. x) (λ x. absurd (Contains-nil d x)) (Contains-cases c d [] (rw e at there)) in
          (c, record { bare = sym (short.draws k) ∙ p.bare; alone = e; columns = rw same (sym is.columns ∙ p.columns); rows = rw same (sym is.rows ∙ p.rows) })
      by_copies (c ∷ d ∷ cs) e = let n = ap length e in absurd (omega (arith, one, n))

  -- where each way is as long as can be, copies lead to no passage
  pub passed_of : AreAllWhole cells ways → ArePassed new
  passed_of whole k b h p =
      let (c, inside, (w, e, is)) = (short.copies k).alone b h in
      whole c.target w e (rw is.target at (had_passage b.target p.0 p.1))

  moves : (k : ℕ) (b : Copies) (i j : ℕ) → AreOf (copies_at new k) b i j → IsMotionWithin (2 ^ 34 * (d.level k - d.level b.target)) (copy_motion b i j)
  moves k b i j a =
      let (c, inside, (w, e, is)) = (short.copies k).alone b a.0 in
      let r = way_of k c w inside e in
      let lower = d.falls k c inside in
      let low = r.falls in
      let one = copy_within c i j (known.ready k c inside) (rw (← is.columns) a.1) (rw (← is.rows) a.2) in
      let x = composed_within (copy_motion c i j) w.place (copy_motion b i j) (2 ^ 34) (2 ^ 34 * (d.level c.target - d.level w.target)) (short_motions c w b i j is) one r.moves in
      rw is.target (record { column = omega (arith, x.column, lower, low); row = omega (arith, x.row, lower, low) })

  pub steep_of : AreSteep new
  steep_of = record {
    level = d.level;
    falls = λ k b h. let (c, inside, (w, e, is)) = (short.copies k).alone b h in let r = way_of k c w inside e in
        let lower = d.falls k c inside in let low = r.falls in rw is.target (omega (arith, lower, low));
    few = λ k. let l = d.few k in omega (arith, l, short.each);
    moves = moves;
  }

  ready : (k : ℕ) (b : Copies) → Contains (copies_at new k) b → IsReady (2 ^ 60) b
  ready k b h =
      let (c, inside, (w, e, is)) = (short.copies k).alone b h in
      let r = known.ready k c inside in
      let s = r.small in
      let m = moves k b 0 0 (h, rw is.columns s.some_columns, rw is.rows s.some_rows) in
      let l = d.few k in
      record {
        small = record {
          origin = record {
            column = omega (arith, origin_within b.origin.x b.across.x b.up.x _ m.column, l, few);
            row = omega
                (arith, origin_within b.origin.y b.across.y b.up.y _ m.row, l, few);
          };
          across = same_span (2 ^ 32) c.columns b.columns c.across b.across is.columns is.across s.across;
          up = same_span (2 ^ 32) c.rows b.rows c.up b.up is.rows is.up s.up;
          columns = rw is.columns s.columns;
          rows = rw is.rows s.rows;
          some_columns = rw is.columns s.some_columns;
          some_rows = rw is.rows s.some_rows;
        };
        few = is.first.0;
      }

  pub known_of : AreKnown (2 ^ 60) new
  known_of = record {
    targets = λ k b h. let (c, inside, (w, e, is)) = (short.copies k).alone b h in let r = (way_of k c w inside e).known in rw is.target (omega (arith, r, short.each));
    ready = ready;
    within = λ k. rw (short.draws k) (known.within k);
  }
