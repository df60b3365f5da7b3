use Rattle.std.proofs.Common.{◌<◌, ◌^◌, arith, rules, refl, w32}
use Rattle.std.specs.Int.RustNames.{FitsSigned}
use Rattle.dpl_tile.proofs.Numbers.{same-wide, wide-fits}
use Rattle.dpl_tile.proofs.TileLaws.{doubled-more}
use Rattle.dpl_tile.proofs.CellLaws.{parts-over, bounds-over}
use Rattle.dpl_tile.proofs.sides.grid_of.Goals as goal

pub loop-grid-init : goal.loop-grid-init
loop-grid-init c =
    let x : FitsSigned w32 c.args.bounds.now.x0 = search rules in
    let y : FitsSigned w32 c.args.bounds.now.y0 = search rules in
    let s = c.requires.some in
    let m : c.args.tile < 2 ^ 32 = search rules in
    let over = (bounds-over (record { x = c.args.bounds.now.x0; y = c.args.bounds.now.y0; side = c.args.tile }) c.args.parts.now
    c.args.bounds.now c.requires.parts c.requires.bounds refl refl).solid in
    rw (same-wide _ x, same-wide _ y)
    (record {
      left = refl;
      low = refl;
      sound = record { left = over.left; low = over.low; some = s; short = omega (arith, m) };
      doubled = (0, omega arith, λ k l. absurd (omega (arith, l)));
    })

pub is_coarse-requires-clause-over : goal.is_coarse-requires-clause-over
is_coarse-requires-clause-over c = parts-over c.loop-grid.grid c.args.parts.now c.args.bounds.now c.requires.parts c.requires.bounds
    c.loop-grid.invariant.left c.loop-grid.invariant.low

pub is_coarse-requires-clause-corner : goal.is_coarse-requires-clause-corner
is_coarse-requires-clause-corner c = bounds-over c.loop-grid.grid c.args.parts.now c.args.bounds.now c.requires.parts c.requires.bounds
    c.loop-grid.invariant.left c.loop-grid.invariant.low

pub loop-grid-preserved : goal.loop-grid-preserved
loop-grid-preserved c =
    let short = c.loop-grid-test.ensures.short refl in
    let some = c.loop-grid.invariant.sound.some in
    record {
      left = c.loop-grid.invariant.left;
      low = c.loop-grid.invariant.low;
      sound = record { left = c.loop-grid.invariant.sound.left; low = c.loop-grid.invariant.sound.low; some = omega (arith, some); short = omega (arith, short) };
      doubled = doubled-more c.args.parts.now c.args.tile c.loop-grid.grid _ refl refl refl
          (λ q. (let t = c.loop-grid-test.ensures.coarse.1 q in cc)) c.loop-grid.invariant.doubled;
    }

pub overflow_cast-grid : goal.overflow_cast-grid
overflow_cast-grid c = wide-fits c.args.bounds.now.x0 (search rules)

pub overflow_cast-grid-2 : goal.overflow_cast-grid-2
overflow_cast-grid-2 c = wide-fits c.args.bounds.now.y0 (search rules)

pub is_coarse-requires-clause-sound : goal.is_coarse-requires-clause-sound
is_coarse-requires-clause-sound c = c.loop-grid.invariant.sound

pub is_coarse-requires-clause-bounds : goal.is_coarse-requires-clause-bounds
is_coarse-requires-clause-bounds c = c.requires.bounds

pub overflow_mul-grid : goal.overflow_mul-grid
overflow_mul-grid c = let s = c.loop-grid.invariant.sound.short in record { fits = omega (arith, s) }

pub loop-grid-smaller : goal.loop-grid-smaller
loop-grid-smaller c =
    let short = c.loop-grid-test.ensures.short refl in
    let some = c.loop-grid.invariant.sound.some in
    omega (arith, short, some)

pub returns-clause-grid : goal.returns-clause-grid
returns-clause-grid c =
    let h = c.loop-grid.invariant in
    record {
      bounds = c.args.bounds.now;
      bounded = c.requires.bounds;
      left = h.left;
      low = h.low;
      doublings = h.doubled.0;
      side = h.doubled.1;
      coarse = c.loop-grid-test.ensures.coarse.0 refl;
      least = h.doubled.2;
    }

pub returns-clause-sound : goal.returns-clause-sound
returns-clause-sound c = c.loop-grid.invariant.sound
