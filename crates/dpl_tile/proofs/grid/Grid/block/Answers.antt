use Rattle.std.proofs.Common.{◌≡◌, ◌+◌, ◌≤◌, arith, w32, w64, ap}
use Rattle.std.specs.Prelude.{ℤ, pos, ◌-ℤ◌, ◌≤ℤ◌, ◌<ℤ◌, unsigned_abs}
use mir.Val.{to_z, of_z}
use Rattle.std.specs.Int.RustNames.{FitsSigned}
use Rattle.std.proofs.lemmas.Int.{ints, to_z-of_z}
use Rattle.dpl_spec_split.specs.Loops.{farthest}
use Rattle.dpl_tile.proofs.Numbers.{number-as, same-wide, before-wide, before-fits, far-fits, far-same, short-fits, short-same}
use Rattle.dpl_tile.proofs.Loops.{block-some}
use Rattle.dpl_tile.proofs.grid.Grid.block.Goals as goal

before-from : (a b i : ℤ) → a ≤ℤ b → b <ℤ i → a ≤ℤ (i -ℤ pos 1)
before-from a b i l m = omega (arith, ints, l, m)

before-far : (a i : ℤ) → a <ℤ i → unsigned_abs a ≤ farthest → unsigned_abs i ≤ farthest → unsigned_abs (i -ℤ pos 1) ≤ farthest
before-far a i l m n = omega (arith, ints, l, m, n)

pub number-requires-4-clause-from : goal.number-requires-4-clause-from
number-requires-4-clause-from c = rw (far-same c.args.self.now.x c.requires.sound.left, before-wide c.args.r.now.x1 (short-fits c.args.r.now.x1 c.requires.over.solid.right))
    (before-from _ _ _ c.requires.over.right c.requires.over.solid.wide)

pub returns-clause-value : goal.returns-clause-value
returns-clause-value c =
    let x : FitsSigned w64 c.args.self.now.x = far-fits c.args.self.now.x c.requires.sound.left in
    let y : FitsSigned w64 c.args.self.now.y = far-fits c.args.self.now.y c.requires.sound.low in
    let left : to_z w64 (of_z w64 (to_z w32 (of_z w32 c.args.r.now.x0))) ≡ c.args.r.now.x0 = same-wide c.args.r.now.x0 (short-fits c.args.r.now.x0 c.requires.over.solid.left) in
    let low : to_z w64 (of_z w64 (to_z w32 (of_z w32 c.args.r.now.y0))) ≡ c.args.r.now.y0 = same-wide c.args.r.now.y0 (short-fits c.args.r.now.y0 c.requires.over.solid.low) in
    let top : to_z w64 (of_z w64 (to_z w64 (of_z w64 (to_z w32 (of_z w32 c.args.r.now.y1))) -ℤ pos 1)) ≡ c.args.r.now.y1 -ℤ pos 1 =
    before-wide c.args.r.now.y1 (short-fits c.args.r.now.y1 c.requires.over.solid.high) in
    let end : to_z w64 (of_z w64 (to_z w64 (of_z w64 (to_z w32 (of_z w32 c.args.r.now.x1))) -ℤ pos 1)) ≡ c.args.r.now.x1 -ℤ pos 1 =
    before-wide c.args.r.now.x1 (short-fits c.args.r.now.x1 c.requires.over.solid.right) in
    record {
      row0 = number-as c.args.self.now.side _ _ _ _ _ c.number.ensures.value (to_z-of_z w64 _ y) low;
      row1 = ap (λ n. n + 1) (number-as c.args.self.now.side _ _ _ _ (c.args.r.now.y1 -ℤ pos 1) c.number-2.ensures.value (to_z-of_z w64 _ y) top);
      column0 = number-as c.args.self.now.side _ _ _ _ _ c.number-3.ensures.value (to_z-of_z w64 _ x) left;
      column1 = ap (λ n. n + 1) (number-as c.args.self.now.side _ _ _ _ (c.args.r.now.x1 -ℤ pos 1) c.number-4.ensures.value (to_z-of_z w64 _ x) end);
    }

pub returns-clause-some : goal.returns-clause-some
returns-clause-some c =
    let a = c.number-2.ensures.small in
    let b = c.number-4.ensures.small in
    block-some c.args.self.now c.args.r.now _ c.requires.sound.some c.requires.over (returns-clause-value c) (omega (arith, a)) (omega (arith, b))

pub overflow_sub-r-2 : goal.overflow_sub-r-2
overflow_sub-r-2 c = before-fits c.args.r.now.x1 (short-fits c.args.r.now.x1 c.requires.over.solid.right)

pub overflow_cast-r : goal.overflow_cast-r
overflow_cast-r c = rw (short-same c.args.r.now.y0 c.requires.over.solid.low) (far-fits c.args.r.now.y0 c.requires.over.solid.low)

pub number-requires-clause-from : goal.number-requires-clause-from
number-requires-clause-from c = rw (
  far-same c.args.self.now.y c.requires.sound.low,
  short-same c.args.r.now.y0 c.requires.over.solid.low,
  far-same c.args.r.now.y0 c.requires.over.solid.low,
) c.requires.over.up

pub number-requires-clause-low : goal.number-requires-clause-low
number-requires-clause-low c = rw (far-same c.args.self.now.y c.requires.sound.low) c.requires.sound.low

pub number-requires-clause-high : goal.number-requires-clause-high
number-requires-clause-high c = rw (short-same c.args.r.now.y0 c.requires.over.solid.low, far-same c.args.r.now.y0 c.requires.over.solid.low) c.requires.over.solid.low

pub overflow_cast-r-2 : goal.overflow_cast-r-2
overflow_cast-r-2 c = rw (short-same c.args.r.now.y1 c.requires.over.solid.high) (far-fits c.args.r.now.y1 c.requires.over.solid.high)

pub overflow_sub-r : goal.overflow_sub-r
overflow_sub-r c = before-fits c.args.r.now.y1 (short-fits c.args.r.now.y1 c.requires.over.solid.high)

pub number-requires-2-clause-from : goal.number-requires-2-clause-from
number-requires-2-clause-from c = rw (far-same c.args.self.now.y c.requires.sound.low, before-wide c.args.r.now.y1 (short-fits c.args.r.now.y1 c.requires.over.solid.high))
    (before-from _ _ _ c.requires.over.up c.requires.over.solid.tall)

pub number-requires-2-clause-low : goal.number-requires-2-clause-low
number-requires-2-clause-low c = rw (far-same c.args.self.now.y c.requires.sound.low) c.requires.sound.low

pub number-requires-2-clause-high : goal.number-requires-2-clause-high
number-requires-2-clause-high c = rw (before-wide c.args.r.now.y1 (short-fits c.args.r.now.y1 c.requires.over.solid.high))
    (before-far c.args.r.now.y0 c.args.r.now.y1 c.requires.over.solid.tall c.requires.over.solid.low c.requires.over.solid.high)

pub overflow_cast-r-3 : goal.overflow_cast-r-3
overflow_cast-r-3 c = rw (short-same c.args.r.now.x0 c.requires.over.solid.left) (far-fits c.args.r.now.x0 c.requires.over.solid.left)

pub number-requires-3-clause-from : goal.number-requires-3-clause-from
number-requires-3-clause-from c = rw (
  far-same c.args.self.now.x c.requires.sound.left,
  short-same c.args.r.now.x0 c.requires.over.solid.left,
  far-same c.args.r.now.x0 c.requires.over.solid.left,
) c.requires.over.right

pub number-requires-3-clause-low : goal.number-requires-3-clause-low
number-requires-3-clause-low c = rw (far-same c.args.self.now.x c.requires.sound.left) c.requires.sound.left

pub number-requires-3-clause-high : goal.number-requires-3-clause-high
number-requires-3-clause-high c = rw (short-same c.args.r.now.x0 c.requires.over.solid.left, far-same c.args.r.now.x0 c.requires.over.solid.left) c.requires.over.solid.left

pub overflow_cast-r-4 : goal.overflow_cast-r-4
overflow_cast-r-4 c = rw (short-same c.args.r.now.x1 c.requires.over.solid.right) (far-fits c.args.r.now.x1 c.requires.over.solid.right)

pub number-requires-4-clause-low : goal.number-requires-4-clause-low
number-requires-4-clause-low c = rw (far-same c.args.self.now.x c.requires.sound.left) c.requires.sound.left

pub number-requires-4-clause-high : goal.number-requires-4-clause-high
number-requires-4-clause-high c = rw (before-wide c.args.r.now.x1 (short-fits c.args.r.now.x1 c.requires.over.solid.right))
    (before-far c.args.r.now.x0 c.args.r.now.x1 c.requires.over.solid.wide c.requires.over.solid.left c.requires.over.solid.right)
