use Rattle.dpl_tree.specs.declared.owners.Owners.TheVariants.{All as Everyone}
use Rattle.dpl_nearest.specs.Search.{ItemCovers}
use Rattle.dpl_check.specs.Findings.{IsWrongStitch}
use Rattle.dpl_check.proofs.Finding.{NoneBelow}
use Rattle.dpl_check.proofs.stitch.first_wrong.Given as goal

abbrev pub invariant-loop-k : goal.invariant-loop-k
invariant-loop-k l = NoneBelow (IsWrongStitch l.overlap (ItemCovers Everyone l.off) l.pieces) l.stitches l.k
