use Rattle.std.proofs.Common.{arith, length-append}
use Rattle.dpl_cert.proofs.Listing.{fits_push, rows_more}
use Rattle.dpl_parse.proofs.rows.rows_of.Goals as goal

pub loop-n-preserved : goal.loop-n-preserved
loop-n-preserved g c =
    let row = c.in-Some.ensures.found in
    let old = c.loop-n.invariant in
    rw c.in_ok-push.ensures.items record {
      len = simp length-append (omega (arith, old.len));
      fit = fits_push g.T.Row.fits c.loop-n.found.items c.in-Some.row old.fit row.0;
      so_far = rows_more g.T.Row.spelled c.loop-n.found.items c.in-Some.row c.loop-n.n _ _ _ old.len old.so_far row.1;
      room = omega (arith, c.in-Some.ensures.shorter, old.room);
    }

pub returns-in_default-clause-fault : goal.returns-in_default-clause-fault
returns-in_default-clause-fault g c =
    let old = c.loop-n.invariant in (
      c.loop-n.found.items,
      _,
      old.fit,
      omega (arith, old.len, c.loop-n-test.true),
      omega (arith, old.len),
      old.so_far,
      rw old.len c.in_default.ensures.none,
    )
