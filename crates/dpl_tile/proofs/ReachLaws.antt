-- What of a rectangle may be near another.
use Rattle.std.proofs.Common.{ℕ, ◌<◌, ◌≤◌, arith}
use Rattle.std.specs.Prelude.{ℤ, pos, ◌+ℤ◌, ◌-ℤ◌, ◌≤ℤ◌, ◌<ℤ◌, unsigned_abs}
use Rattle.std.specs.Int.{int_min, int_max}
use Rattle.std.proofs.lemmas.Int.{ints, clamps}
use Rattle.dpl_spec_split.specs.declared.Pt.{Pt}
use Rattle.dpl_spec_split.specs.declared.Rect.{Rect}
use Rattle.dpl_spec_split.specs.declared.Spacing.{Spacing}
use Rattle.dpl_spec_split.specs.Loops.{farthest}
use Rattle.dpl_spec_split.specs.Squares.{Has, Near, gap}
use Rattle.dpl_spec_split.proofs.SpacingLaws.{few-below}
use Rattle.dpl_join.specs.Pairs.{AreClose}
use Rattle.dpl_tile.specs.declared.grid.Grid.{Grid}
use Rattle.dpl_tile.specs.Kept.{IsOver}
use Rattle.dpl_tile.specs.Meetings.{reached}

abbrev low : ℕ → ℤ → ℤ → ℤ
low rule a b = int_max a (b -ℤ pos rule)

abbrev high : ℕ → ℤ → ℤ → ℤ
high rule a b = int_min a (b +ℤ pos rule)

-- the part of a span that is within the rule of a close one
record IsReached (rule : ℕ) (a0 a1 b0 b1 : ℤ) : Type 0 where
  some : low rule a0 b0 <ℤ high rule a1 b1
  from : a0 ≤ℤ low rule a0 b0
  to : high rule a1 b1 ≤ℤ a1

span-reached : (rule : ℕ) (a0 a1 b0 b1 : ℤ) → a0 <ℤ a1 → b0 <ℤ b1 → b0 <ℤ (a1 +ℤ pos rule) → a0 <ℤ (b1 +ℤ pos rule) → IsReached rule a0 a1 b0 b1
span-reached rule a0 a1 b0 b1 some_a some_b right left = record {
  some = omega (arith, ints, clamps);
  from = omega (arith, ints, clamps);
  to = omega (arith, ints, clamps);
}

-- what lies between two numbers of a layer is one
between : (a i b : ℤ) → unsigned_abs a ≤ farthest → unsigned_abs b ≤ farthest → a ≤ℤ i → i ≤ℤ b → unsigned_abs i ≤ farthest
between a i b p q l m = omega (arith, ints, p, q, l, m)

record AreSmall (rule : ℕ) (a0 a1 b0 b1 : ℤ) : Type 0 where
  first : unsigned_abs (low rule a0 b0) ≤ farthest
  last : unsigned_abs (high rule a1 b1) ≤ farthest

small-reached : (rule : ℕ) (a0 a1 b0 b1 : ℤ) → unsigned_abs a0 ≤ farthest → unsigned_abs a1 ≤ farthest → IsReached rule a0 a1 b0 b1 → AreSmall rule a0 a1 b0 b1
small-reached rule a0 a1 b0 b1 s t h =
    let some = h.some in
    let from = h.from in
    let to = h.to in
    record { first = between a0 (low rule a0 b0) a1 s t from (omega (arith, ints, some, to)); last = between a0 (high rule a1 b1) a1 s t (omega (arith, ints, some, from)) to }

record IsInside (rule : ℕ) (a0 a1 b0 b1 i : ℤ) : Type 0 where
  from : low rule a0 b0 ≤ℤ i
  to : i <ℤ high rule a1 b1

inside-reached : (rule : ℕ) (a0 a1 b0 b1 i j : ℤ) → a0 ≤ℤ i → i <ℤ a1 → b0 ≤ℤ j → j <ℤ b1 → gap i j < rule → IsInside rule a0 a1 b0 b1 i
inside-reached rule a0 a1 b0 b1 i j l m n k few = record { from = omega (arith, ints, clamps); to = omega (arith, ints, clamps) }

pub reached-over : (g : Grid) (rule : ℕ) (a b : Rect) → IsOver g a → IsOver g b → AreClose rule a b → IsOver g (reached rule a b)
reached-over g rule a b over_a over_b close =
    let s = over_a.solid in
    let t = over_b.solid in
    let columns = span-reached rule a.x0 a.x1 b.x0 b.x1 s.wide t.wide close.right close.left in
    let rows = span-reached rule a.y0 a.y1 b.y0 b.y1 s.tall t.tall close.high close.low in
    let across = small-reached rule a.x0 a.x1 b.x0 b.x1 s.left s.right columns in
    let up = small-reached rule a.y0 a.y1 b.y0 b.y1 s.low s.high rows in
    let left = over_a.right in
    let bottom = over_a.up in
    let l = columns.from in
    let m = rows.from in
    record {
      solid = record { wide = columns.some; tall = rows.some; left = across.first; right = across.last; low = up.first; high = up.last };
      right = omega (arith, ints, left, l);
      up = omega (arith, ints, bottom, m);
    }

pub reached-has : (spacing : Spacing) (a b : Rect) (p q : Pt) → spacing.corner ≤ spacing.rule → Has a p → Has b q → Near spacing p q → Has (reached spacing.rule a b) p
reached-has spacing a b p q less p_in q_in near =
    let few = few-below spacing (gap p.x q.x) (gap p.y q.y) less near in
    let columns = inside-reached spacing.rule a.x0 a.x1 b.x0 b.x1 p.x q.x p_in.left p_in.right q_in.left q_in.right few.0 in
    let rows = inside-reached spacing.rule a.y0 a.y1 b.y0 b.y1 p.y q.y p_in.low p_in.high q_in.low q_in.high few.1 in
    record { left = columns.from; right = columns.to; low = rows.from; high = rows.to }
