use Rattle.std.proofs.Common.{List, ℕ, sym, subst}
use Rattle.dpl_spec_verdict.specs.Gains.{AreRootsOf}
use Rattle.dpl_gains.proofs.gains.gains_of.Goals as goal

pub gains_by_roots-requires-clause-roots : goal.gains_by_roots-requires-clause-roots
gains_by_roots-requires-clause-roots c = (
  c.args.spacing,
  subst (λ (roots : List ℕ). AreRootsOf c.args.spacing c.args.pieces.now.parts c.args.pieces.now.owners roots) (sym c.deref.ensures.value) c.in_ok-roots.ensures,
)

pub returns : goal.returns
returns c = λ features marks same.
    let rooted = subst (λ (roots : List ℕ). AreRootsOf c.args.spacing c.args.pieces.now.parts c.args.pieces.now.owners roots) (sym c.deref.ensures.value) c.in_ok-roots.ensures in
    c.gains_by_roots.ensures c.args.spacing rooted features marks same
