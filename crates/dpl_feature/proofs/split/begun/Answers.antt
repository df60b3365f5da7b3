use Rattle.std.proofs.Common.{◌∷◌, [], arith}
use Rattle.dpl_spec_split.specs.Slabs.{IsCanonical}
use Rattle.dpl_spec_split.specs.Loops.{farthest, AreRectsWithin}
use Rattle.dpl_feature.proofs.Dealing.{canonical-one, within-one}
use Rattle.std.proofs.lemmas.Result.{IfOk-from_err}
use Rattle.dpl_feature.proofs.split.begun.Goals as goal

pub of_canonical-requires-clause-canonical : goal.of_canonical-requires-clause-canonical
of_canonical-requires-clause-canonical c = rw (c.in_ok-push.ensures.items, c.in_ok-rects.ensures.items) (canonical-one c.args.rect c.requires.solid)

pub of_canonical-requires-clause-within : goal.of_canonical-requires-clause-within
of_canonical-requires-clause-within c = rw (c.in_ok-push.ensures.items, c.in_ok-rects.ensures.items) (within-one c.args.rect c.requires.within)

pub returns-in_err-rects : goal.returns-in_err-rects
returns-in_err-rects c = IfOk-from_err _ _ c.from_residual.ensures.0

pub returns-in_err-push : goal.returns-in_err-push
returns-in_err-push c = IfOk-from_err _ _ c.from_residual-in_err-push.ensures.0
