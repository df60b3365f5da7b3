use Rattle.std.proofs.Common.{refl}
use Rattle.std.proofs.lemmas.Bool.{false≢true}
use Rattle.dpl_session.specs.Windows.{owner_at}
use Rattle.dpl_session.proofs.Naming.{again, again_firsts, itself, itself_firsts}
use Rattle.dpl_session.proofs.window.label_of.Goals as goal

pub returns-then-is_earlier-clause-label : goal.returns-then-is_earlier-clause-label
returns-then-is_earlier-clause-label c =
    let (less, same) = c.if-is_earlier.ensures.0 refl in
    again (owner_at c.args.owners.now c.args.names.now) c.args.first.now c.args.i c.requires.firsts less same

pub returns-then-is_earlier-clause-firsts : goal.returns-then-is_earlier-clause-firsts
returns-then-is_earlier-clause-firsts c =
    let (less, same) = c.if-is_earlier.ensures.0 refl in
    again_firsts (owner_at c.args.owners.now c.args.names.now) c.args.first.now c.args.i c.requires.firsts
    (again (owner_at c.args.owners.now c.args.names.now) c.args.first.now c.args.i c.requires.firsts less same)

pub returns-clause-label : goal.returns-clause-label
returns-clause-label c = itself (owner_at c.args.owners.now c.args.names.now) c.args.first.now c.args.i c.requires.firsts (λ both. false≢true (c.if-is_earlier.ensures.1 both))

pub returns-clause-firsts : goal.returns-clause-firsts
returns-clause-firsts c = itself_firsts (owner_at c.args.owners.now c.args.names.now) c.args.first.now c.args.i c.requires.firsts
    (c.requires.owners _ 0 (c.requires.names c.args.i 0 c.requires.known))
    (λ both. false≢true (c.if-is_earlier.ensures.1 both))
