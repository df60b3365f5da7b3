use Rattle.std.proofs.Common.{◌∙◌}
use Rattle.dpl_shade.proofs.CrowdLaws.{both-of-all}
use Rattle.dpl_shade.proofs.DealtLaws.{alone-all}
use Rattle.dpl_shade.proofs.shades.unsorted_shades.Goals as goal

pub none_found-requires : goal.none_found-requires
none_found-requires c = rw c.items-items.ensures c.requires.within

pub find_crowded-requires-clause-corner : goal.find_crowded-requires-clause-corner
find_crowded-requires-clause-corner c = rw c.in_ok-shades.ensures.spacing c.requires.corner

pub find_crowded-requires-clause-within : goal.find_crowded-requires-clause-within
find_crowded-requires-clause-within c = rw c.items-items.ensures c.requires.within

pub find_crowded-requires-clause-sound : goal.find_crowded-requires-clause-sound
find_crowded-requires-clause-sound c = c.in_ok-shades.ensures.sound

pub returns-then-branch-clause-spacing : goal.returns-then-branch-clause-spacing
returns-then-branch-clause-spacing c = c.in_ok-find_crowded.ensures.more.spacing ∙ c.in_ok-shades.ensures.spacing

pub returns-then-branch-clause-overlap : goal.returns-then-branch-clause-overlap
returns-then-branch-clause-overlap c = c.in_ok-find_crowded.ensures.more.overlap ∙ c.in_ok-shades.ensures.overlap

pub returns-then-branch-clause-sound : goal.returns-then-branch-clause-sound
returns-then-branch-clause-sound c = rw c.items-items.ensures at c.in_ok-find_crowded.ensures.sound

pub returns-then-branch-clause-handles : goal.returns-then-branch-clause-handles
returns-then-branch-clause-handles c =
    both-of-all c.args.join.now.items c.find_crowded.new.shades c.args.spacing.rule
    (rw c.items-items.ensures at (c.in_ok-find_crowded.ensures.handles c.if-branch.true))

pub add_dealt-requires-clause-corner : goal.add_dealt-requires-clause-corner
add_dealt-requires-clause-corner c = rw (c.in_ok-find_crowded.ensures.more.spacing, c.in_ok-shades.ensures.spacing) c.requires.corner

pub add_dealt-requires-clause-rule : goal.add_dealt-requires-clause-rule
add_dealt-requires-clause-rule c = rw (c.in_ok-find_crowded.ensures.more.spacing, c.in_ok-shades.ensures.spacing) c.requires.rule

pub add_dealt-requires-clause-within : goal.add_dealt-requires-clause-within
add_dealt-requires-clause-within c = c.requires.within

pub add_dealt-requires-clause-sound : goal.add_dealt-requires-clause-sound
add_dealt-requires-clause-sound c = rw c.items-items.ensures at c.in_ok-find_crowded.ensures.sound

pub returns-clause-spacing : goal.returns-clause-spacing
returns-clause-spacing c = c.in_ok-add_dealt.ensures.more.spacing ∙ (c.in_ok-find_crowded.ensures.more.spacing ∙ c.in_ok-shades.ensures.spacing)

pub returns-clause-overlap : goal.returns-clause-overlap
returns-clause-overlap c = c.in_ok-add_dealt.ensures.more.overlap ∙ (c.in_ok-find_crowded.ensures.more.overlap ∙ c.in_ok-shades.ensures.overlap)

pub returns-clause-sound : goal.returns-clause-sound
returns-clause-sound c = c.in_ok-add_dealt.ensures.sound

pub returns-clause-handles : goal.returns-clause-handles
returns-clause-handles c = alone-all c.args.join.now c.args.spacing.rule c.add_dealt.new.shades c.requires.rule c.in_ok-add_dealt.ensures.handles
