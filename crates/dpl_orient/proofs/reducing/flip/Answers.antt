use Rattle.std.proofs.Common.{◌≡◌, ◌<◌, eqb, length, sym, ap, ◌∙◌, subst}
use Rattle.std.proofs.lemmas.List.{length-set}
use Rattle.std.proofs.lemmas.List.Elements.{All-filter}
use Rattle.std.proofs.lemmas.Result.{on_ok_weaker}
use Rattle.dpl_orient.specs.declared.links.Link.{Link}
use Rattle.dpl_orient.specs.Links.{AreLinksBelow}
use Rattle.dpl_orient.specs.Tallies.{tally_at, exchanged}
use Rattle.dpl_orient.proofs.Turning.{turned-counted, turned-tallies, turned-waits}
use Rattle.dpl_orient.proofs.reducing.flip.Goals as goal

pub move_zones-requires-clause-below : goal.move_zones-requires-clause-below
move_zones-requires-clause-below c =
    let same : length c.exchange.new.tallies ≡ length c.args.flips.now =
    ap length c.exchange.ensures ∙ (length-set c.args.tallies.now c.args.root (exchanged (tally_at c.args.tallies.now c.args.root))
    ∙ c.requires.tallies.len) in
    subst (λ n. AreLinksBelow n c.links_from.result.now) (sym same)
    (subst (AreLinksBelow (length c.args.flips.now)) (sym c.links_from.ensures)
    (All-filter (λ (l : Link). eqb l.from c.args.root) (λ (l : Link). (l.from < length c.args.flips.now) ×
    (l.to < length c.args.flips.now)) c.args.links.now c.requires.below))

pub move_zones-requires-clause-counted : goal.move_zones-requires-clause-counted
move_zones-requires-clause-counted c = rw (c.turn.ensures, c.exchange.ensures, c.links_from.ensures)
    (turned-counted c.args.links.now c.args.flips.now c.args.root c.requires.within c.requires.paired c.args.held c.args.tallies.now
    c.requires.tallies c.requires.few c.requires.below)

pub move_zones-requires-clause-all : goal.move_zones-requires-clause-all
move_zones-requires-clause-all c = rw c.exchange.ensures
    (turned-waits c.args.links.now c.args.flips.now c.args.root c.requires.within c.requires.paired c.args.held c.args.tallies.now c.requires.tallies
    c.requires.few _ c.requires.gains c.requires.rest)

pub returns-clause-tallies : goal.returns-clause-tallies
returns-clause-tallies c = on_ok_weaker c.move_zones.result
    (λ m. rw c.turn.ensures (turned-tallies c.args.links.now c.args.flips.now c.args.root c.requires.within c.requires.paired c.args.held
    c.args.tallies.now c.requires.tallies c.requires.few
    c.move_zones.new.tallies (rw (c.turn.ensures, c.exchange.ensures, c.links_from.ensures) at m)))
    c.move_zones.ensures.moved
