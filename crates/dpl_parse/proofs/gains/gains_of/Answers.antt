use Rattle.std.proofs.Common.{◌-◌, arith, length-append, sym}
use Rattle.dpl_cert.specs.Lines.{lines}
use Rattle.dpl_cert.specs.Grammar.{gain_words}
use Rattle.dpl_cert.proofs.Listing.{rows_more}
use Rattle.dpl_parse.proofs.Rising.{rising_push, after_push}
use Rattle.dpl_parse.proofs.gains.gains_of.Goals as goal

pub loop-n-preserved : goal.loop-n-preserved
loop-n-preserved c =
    let gain = c.in-Some.ensures.found in
    let next = gain.0 in
    let old = c.loop-n.invariant in
    rw c.in_ok-push.ensures.items record {
      len = simp length-append (omega (arith, old.len));
      rising = rising_push 0 c.loop-n.found.items c.in-Some.gain old.rising next.0 (omega (arith, old.least, next.1));
      least = sym (after_push 0 c.loop-n.found.items c.in-Some.gain);
      numbers = omega (arith, next.2, c.loop-n-test.true);
      so_far = rows_more gain_words c.loop-n.found.items c.in-Some.gain c.loop-n.n _ _ _ old.len old.so_far gain.1;
      room = omega (arith, c.in-Some.ensures.shorter, old.room);
    }

pub returns-in_default-clause-fault : goal.returns-in_default-clause-fault
returns-in_default-clause-fault c =
    let old = c.loop-n.invariant in
    let n = c.loop-n.n in
    let least = old.least in (
      c.loop-n.found.items,
      lines c.loop-n.rest.now,
      c.args.count - n - 1,
      omega (arith, old.len, c.loop-n-test.true),
      old.rising,
      omega (arith, old.least, old.numbers, c.loop-n-test.true),
      omega (arith, old.len),
      old.so_far,
      λ g t next. c.in_default.ensures.none g t (next.0, omega (arith, least, next.1), next.2),
    )
