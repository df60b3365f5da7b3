use Rattle.std.proofs.Common.{ℕ, ◌+◌, ◌-◌, ◌/◌, ◌<◌, length, refl, arith}
use Rattle.std.proofs.lemmas.Bool.{false≢true}
use Rattle.dpl_session.proofs.Lookup.{half_over, half_under}
use Rattle.dpl_session.proofs.tile.start_of.Goals as goal

pub loop-low-preserved-then-precedes : goal.loop-low-preserved-then-precedes
loop-low-preserved-then-precedes c =
    let some = c.loop-low-test.true in
    let within = c.loop-low.invariant.within in
    let middle : ℕ = c.loop-low.low + (c.loop-low.high - c.loop-low.low) / 2 in
    let m_in : middle < length c.args.tiles.now = omega (arith, some, within) in
    record {
      order = omega (arith, some);
      within = within;
      under = half_under c.args.tiles.now c.args.cell.now middle _ c.requires.rise m_in (c.if-precedes.ensures.0 refl);
      over = c.loop-low.invariant.over;
    }

pub loop-low-preserved : goal.loop-low-preserved
loop-low-preserved c =
    let some = c.loop-low-test.true in
    let within = c.loop-low.invariant.within in
    let middle : ℕ = c.loop-low.low + (c.loop-low.high - c.loop-low.low) / 2 in
    let m_in : middle < length c.args.tiles.now = omega (arith, some, within) in
    record {
      order = omega (arith, some);
      within = omega (arith, some, within);
      under = c.loop-low.invariant.under;
      over = half_over c.args.tiles.now c.args.cell.now middle _ c.requires.rise m_in (λ h. false≢true (c.if-precedes.ensures.1 h));
    }
