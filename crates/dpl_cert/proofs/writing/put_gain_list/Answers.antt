use Rattle.dpl_cert.specs.Grammar.{gain_words}
use Rattle.dpl_cert.proofs.Listing.{text_more}
use Rattle.dpl_cert.proofs.writing.put_gain_list.Goals as goal

pub loop-g-preserved : goal.loop-g-preserved
loop-g-preserved c = text_more gain_words c.args.gains.now c.loop-g.g-index (record { piece = 0; d = 0; s = 0 }) _ _ _ c.loop-g-test.true c.loop-g.invariant
    c.in_ok-put_gain.ensures
