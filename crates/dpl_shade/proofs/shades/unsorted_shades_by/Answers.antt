use Rattle.std.proofs.Common.{◌∙◌, arith}
use Rattle.std.proofs.lemmas.Result.{IfOk-weaker}
use Rattle.dpl_shade.proofs.CrowdLaws.{both-of-all}
use Rattle.dpl_shade.proofs.shades.unsorted_shades_by.Goals as goal

pub none_found-requires : goal.none_found-requires
none_found-requires g c = rw c.items-items.ensures c.requires.within

pub find_crowded-requires-clause-corner : goal.find_crowded-requires-clause-corner
find_crowded-requires-clause-corner g c = rw c.in_ok-shades.ensures.spacing c.requires.corner

pub find_crowded-requires-clause-within : goal.find_crowded-requires-clause-within
find_crowded-requires-clause-within g c = rw c.items-items.ensures c.requires.within

pub find_crowded-requires-clause-sound : goal.find_crowded-requires-clause-sound
find_crowded-requires-clause-sound g c = c.in_ok-shades.ensures.sound

pub returns-then-branch-clause-spacing : goal.returns-then-branch-clause-spacing
returns-then-branch-clause-spacing g c = c.in_ok-find_crowded.ensures.more.spacing ∙ c.in_ok-shades.ensures.spacing

pub returns-then-branch-clause-overlap : goal.returns-then-branch-clause-overlap
returns-then-branch-clause-overlap g c = c.in_ok-find_crowded.ensures.more.overlap ∙ c.in_ok-shades.ensures.overlap

pub returns-then-branch-clause-sound : goal.returns-then-branch-clause-sound
returns-then-branch-clause-sound g c = rw c.items-items.ensures at c.in_ok-find_crowded.ensures.sound

pub returns-then-branch-clause-handles : goal.returns-then-branch-clause-handles
returns-then-branch-clause-handles g c =
    both-of-all c.args.join.now.items c.find_crowded.new.shades c.args.spacing.rule
    (rw c.items-items.ensures at (c.in_ok-find_crowded.ensures.handles c.if-branch.true))

pub all_dealt-requires-clause-corner : goal.all_dealt-requires-clause-corner
all_dealt-requires-clause-corner g c = λ κs out. rw (c.in_ok-find_crowded.ensures.more.spacing, c.in_ok-shades.ensures.spacing) c.requires.corner

pub all_dealt-requires-clause-rule : goal.all_dealt-requires-clause-rule
all_dealt-requires-clause-rule g c = λ κs out. rw (c.in_ok-find_crowded.ensures.more.spacing, c.in_ok-shades.ensures.spacing) c.requires.rule

pub all_dealt-requires-clause-within : goal.all_dealt-requires-clause-within
all_dealt-requires-clause-within g c = λ κs out. c.requires.within

pub all_dealt-requires-clause-sound : goal.all_dealt-requires-clause-sound
all_dealt-requires-clause-sound g c = λ κs out. rw c.items-items.ensures at c.in_ok-find_crowded.ensures.sound

pub all_dealt-requires-clause-workers : goal.all_dealt-requires-clause-workers
all_dealt-requires-clause-workers g c = λ κs out. let min = c.min.ensures in let some = c.requires.workers in omega (arith, min, some)

pub returns-clause-spacing : goal.returns-clause-spacing
returns-clause-spacing g c =
    IfOk-weaker c.all_dealt.result _ _ (λ t more. more.spacing ∙ (c.in_ok-find_crowded.ensures.more.spacing ∙ c.in_ok-shades.ensures.spacing)) c.all_dealt.ensures.more

pub returns-clause-overlap : goal.returns-clause-overlap
returns-clause-overlap g c =
    IfOk-weaker c.all_dealt.result _ _ (λ t more. more.overlap ∙ (c.in_ok-find_crowded.ensures.more.overlap ∙ c.in_ok-shades.ensures.overlap)) c.all_dealt.ensures.more

pub returns-clause-sound : goal.returns-clause-sound
returns-clause-sound g c = c.all_dealt.ensures.sound

pub returns-clause-handles : goal.returns-clause-handles
returns-clause-handles g c = rw c.requires.rule at c.all_dealt.ensures.handles
