use Rattle.std.proofs.Common.{◌≡◌, ◌<◌, inl, inr, false, length, get_or, set, sym, ap, ◌∙◌, subst, arith}
use Rattle.std.specs.BinaryHeap.{heap_items}
use Rattle.std.proofs.lemmas.Bool.{cases_eq}
use Rattle.std.proofs.lemmas.List.{get_or_default, get_or-set_other}
use Rattle.dpl_orient.specs.declared.links.Link.{Link}
use Rattle.dpl_orient.specs.declared.tallies.Tally.{Tally}
use Rattle.dpl_orient.specs.Links.{differs_by}
use Rattle.dpl_orient.specs.Tallies.{tally_at, moved_by, GainsAt, Waits}
use Rattle.dpl_orient.proofs.Tallying.{moved-more, moved-room}
use Rattle.dpl_orient.proofs.queue.move_zones.Goals as goal

pub moved_by-requires-clause-agreed : goal.moved_by-requires-clause-agreed
moved_by-requires-clause-agreed c = λ e.
    (let none : Link = record { from = 0; to = 0; odd = false } in
    let l = get_or c.args.links.now c.loop-link.link-index none in
    let within : c.loop-link.link-index < length c.args.links.now = c.loop-link-test.true in
    let room : l.to < length c.loop-link.tallies = (let b = (c.requires.below c.loop-link.link-index none within).1 in
    let e = c.loop-link.invariant.moved.len in omega (arith, b, e)) in
    (moved-room c.args.flips.now c.args.links.now c.args.tallies.now c.loop-link.tallies c.loop-link.link-index l within
    (get_or_default c.args.links.now c.loop-link.link-index none l within) room c.requires.counted c.loop-link.invariant.moved).0
    (sym c.differs_by.ensures ∙ e))

pub moved_by-requires-clause-differed : goal.moved_by-requires-clause-differed
moved_by-requires-clause-differed c = λ e.
    (let none : Link = record { from = 0; to = 0; odd = false } in
    let l = get_or c.args.links.now c.loop-link.link-index none in
    let within : c.loop-link.link-index < length c.args.links.now = c.loop-link-test.true in
    let room : l.to < length c.loop-link.tallies = (let b = (c.requires.below c.loop-link.link-index none within).1 in
    let e = c.loop-link.invariant.moved.len in omega (arith, b, e)) in
    (moved-room c.args.flips.now c.args.links.now c.args.tallies.now c.loop-link.tallies c.loop-link.link-index l within
    (get_or_default c.args.links.now c.loop-link.link-index none l within) room c.requires.counted c.loop-link.invariant.moved).1
    (sym c.differs_by.ensures ∙ e))

pub loop-link-preserved : goal.loop-link-preserved
loop-link-preserved c =
    let none : Link = record { from = 0; to = 0; odd = false } in
    let l = get_or c.args.links.now c.loop-link.link-index none in
    let within : c.loop-link.link-index < length c.args.links.now = c.loop-link-test.true in
    let room : l.to < length c.loop-link.tallies = (let b = (c.requires.below c.loop-link.link-index none within).1 in
    let e = c.loop-link.invariant.moved.len in omega (arith, b, e)) in
    let is : c.moved_by.result ≡ moved_by (differs_by c.args.flips.now l) (tally_at c.loop-link.tallies l.to) =
    c.moved_by.ensures ∙ ap (λ b. moved_by b (tally_at c.loop-link.tallies l.to)) c.differs_by.ensures in
    let after = set c.loop-link.tallies l.to c.moved_by.result in
    record {
      moved = rw is (moved-more c.args.flips.now c.args.links.now c.args.tallies.now c.loop-link.tallies c.loop-link.link-index l within
          (get_or_default c.args.links.now c.loop-link.link-index none l within) room c.requires.counted c.loop-link.invariant.moved);
      queue = c.in_ok-wait.ensures.queue;
      all = λ root g. elim (cases_eq root l.to) [
        | inl same ↦ subst (Waits (heap_items c.wait.new.waiting)) (sym same) (c.in_ok-wait.ensures.gains (subst (GainsAt c.args.held after) same g))
        | inr other ↦ (let e : tally_at after root ≡ tally_at c.loop-link.tallies root =
            get_or-set_other c.loop-link.tallies l.to root c.moved_by.result (record { differing = 0; agreeing = 0 }) other in
            c.in_ok-wait.ensures.kept root (c.loop-link.invariant.all root
            (record { free = g.free; fewer = (let P : Tally → Type 0 = λ t. t.agreeing < t.differing in subst P e g.fewer) })))
      ];
    }
