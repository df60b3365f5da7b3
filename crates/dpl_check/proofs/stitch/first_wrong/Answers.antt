use Rattle.std.specs.Prelude.{pos}
use Rattle.std.proofs.Common.{rules}
use Rattle.std.proofs.lemmas.Bool.{false≢true}
use Rattle.dpl_tree.specs.declared.owners.Owners.TheVariants.{All as Everyone}
use Rattle.dpl_nearest.specs.Search.{ItemCovers}
use Rattle.dpl_cert.specs.declared.cert.StitchLine.{StitchLine}
use Rattle.dpl_check.specs.Findings.{IsWrongStitch}
use Rattle.dpl_check.proofs.Finding.{none-more, first-found, none-found}
use Rattle.dpl_check.proofs.stitch.first_wrong.Goals as goal

abbrev nothing : StitchLine
nothing = record { rect = record { x0 = pos 0; y0 = pos 0; x1 = pos 0; y1 = pos 0 }; p = 0; q = 0 }

pub loop-k-preserved : goal.loop-k-preserved
loop-k-preserved c = none-more (IsWrongStitch c.args.overlap (ItemCovers Everyone c.args.off.now) c.args.pieces.now) c.args.stitches.now
    c.loop-k.k _ (search rules) (search rules) (λ wrong. wrong (c.is_right.ensures.0 (search rules))) c.loop-k.invariant

pub returns-then-not-is_right : goal.returns-then-not-is_right
returns-then-not-is_right c = first-found (IsWrongStitch c.args.overlap (ItemCovers Everyone c.args.off.now) c.args.pieces.now)
    c.args.stitches.now c.loop-k.k _ (search rules) (search rules) (λ right. false≢true (c.if-not-is_right.ensures.1 right))
    c.loop-k.invariant

pub returns : goal.returns
returns c = none-found (IsWrongStitch c.args.overlap (ItemCovers Everyone c.args.off.now) c.args.pieces.now) c.args.stitches.now c.loop-k.k
    (search rules) nothing c.loop-k.invariant
