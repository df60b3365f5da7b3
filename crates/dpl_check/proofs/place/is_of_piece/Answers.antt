use Rattle.dpl_check.proofs.Apart.{feature-items}
use Rattle.std.proofs.Common.{refl, eqb-true, eq-eqb}
use Rattle.std.proofs.lemmas.Bool.{false≢true}
use Rattle.dpl_check.proofs.Placing.{of-some, of-none}
use Rattle.dpl_check.proofs.place.is_of_piece.Goals as goal

pub owner_at-requires-clause-items : goal.owner_at-requires-clause-items
owner_at-requires-clause-items c = feature-items c.args.parts.now c.args.parts.now c.args.tree.now refl c.requires.parts c.requires.items

pub returns-in-Some : goal.returns-in-Some
returns-in-Some c =
    let same = of-some c.args.parts.now c.args.tree.now c.args.p c.args.piece c.in-Some.k c.requires.parts c.requires.items c.in-Some.ensures.some in
    (λ test. same.0 (eqb-true c.in-Some.k c.args.piece test), λ there. eq-eqb c.in-Some.k c.args.piece (same.1 there))

pub returns-in-None : goal.returns-in-None
returns-in-None c = (
  λ test. absurd (false≢true test),
  λ there. absurd (of-none c.args.parts.now c.args.tree.now c.args.p c.args.piece c.requires.items (c.in-None.ensures.none refl) there),
)
