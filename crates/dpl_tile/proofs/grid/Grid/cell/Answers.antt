use Rattle.std.proofs.Common.{◌≡◌, ℕ, ◌≤◌, arith, w64}
use mir.Val.{to_z, of_z}
use borrow.Author.Rules.{sfits_of}
use Rattle.std.proofs.lemmas.Int.{ints, to_z-of_z}
use Rattle.dpl_spec_split.specs.Slabs.{IsSolid}
use Rattle.dpl_tile.specs.declared.grid.Grid.{Grid}
use Rattle.dpl_tile.specs.Tiles.{cell_at}
use Rattle.dpl_tile.proofs.Numbers.{far-same}
use Rattle.dpl_tile.proofs.grid.Grid.cell.Goals as goal

pub overflow_mul-column : goal.overflow_mul-column
overflow_mul-column c = let l = c.requires.close.across in record { fits = omega (arith, l) }

pub above-requires-clause-low : goal.above-requires-clause-low
above-requires-clause-low c = rw (far-same c.args.self.now.x c.requires.sound.left) c.requires.sound.left

pub overflow_mul-row : goal.overflow_mul-row
overflow_mul-row c = let l = c.requires.close.up in record { fits = omega (arith, l) }

pub above-requires-clause-by : goal.above-requires-clause-by
above-requires-clause-by c = let l = c.requires.close.across in omega (arith, l)

pub above-requires-2-clause-low : goal.above-requires-2-clause-low
above-requires-2-clause-low c = rw (far-same c.args.self.now.y c.requires.sound.low) c.requires.sound.low

pub above-requires-2-clause-by : goal.above-requires-2-clause-by
above-requires-2-clause-by c = let l = c.requires.close.up in omega (arith, l)

pub overflow_add-column : goal.overflow_add-column
overflow_add-column c = let l = c.requires.close.across in let s = c.requires.sound.short in record { fits = omega (arith, l, s) }

pub above-requires-3-clause-low : goal.above-requires-3-clause-low
above-requires-3-clause-low c = rw (far-same c.args.self.now.x c.requires.sound.left) c.requires.sound.left

pub above-requires-3-clause-by : goal.above-requires-3-clause-by
above-requires-3-clause-by c = let l = c.requires.close.across in let s = c.requires.sound.short in omega (arith, l, s)

pub overflow_add-row : goal.overflow_add-row
overflow_add-row c = let l = c.requires.close.up in let s = c.requires.sound.short in record { fits = omega (arith, l, s) }

pub above-requires-4-clause-low : goal.above-requires-4-clause-low
above-requires-4-clause-low c = rw (far-same c.args.self.now.y c.requires.sound.low) c.requires.sound.low

pub above-requires-4-clause-by : goal.above-requires-4-clause-by
above-requires-4-clause-by c = let l = c.requires.close.up in let s = c.requires.sound.short in omega (arith, l, s)

pub returns-clause-value : goal.returns-clause-value
returns-clause-value c =
    let x = far-same c.args.self.now.x c.requires.sound.left in
    let y = far-same c.args.self.now.y c.requires.sound.low in
    let left : to_z w64 (of_z w64 c.above.result) ≡ c.above.result = to_z-of_z w64 c.above.result (sfits_of c.above.type_inv) in
    let low : to_z w64 (of_z w64 c.above-2.result) ≡ c.above-2.result = to_z-of_z w64 c.above-2.result (sfits_of c.above-2.type_inv) in
    let right : to_z w64 (of_z w64 c.above-3.result) ≡ c.above-3.result = to_z-of_z w64 c.above-3.result (sfits_of c.above-3.type_inv) in
    let high : to_z w64 (of_z w64 c.above-4.result) ≡ c.above-4.result = to_z-of_z w64 c.above-4.result (sfits_of c.above-4.type_inv) in
    cc

solid-cell : (g : Grid) (e : ℕ × ℕ) → 1 ≤ g.side → IsSolid (cell_at g e)
solid-cell g e some = record { wide = omega (arith, ints, some); tall = omega (arith, ints, some) }

pub returns-clause-solid : goal.returns-clause-solid
returns-clause-solid c = rw (returns-clause-value c) (solid-cell c.args.self.now c.args.place c.requires.sound.some)
