use Rattle.std.proofs.Common.{◌≡◌, ◌∙◌, ◌+◌, length, subst, refl, arith}
use Rattle.dpl_session.specs.Kept.{AreFoundIn, IsChanged, IsChangedAmong}
use Rattle.dpl_session.proofs.Gathered.{found_next, none_found, took_all, took_next, took_none}
use Rattle.dpl_session.proofs.kept.all_found.Goals as goal

pub loop-cell-init : goal.loop-cell-init
loop-cell-init g c = record {
  found = rw (c.new.ensures.items, c.new-2.ensures.items) (none_found c.args.spacing c.args.index.now.parts c.args.index.now.owners c.args.cells.now);
  steps = took_none (IsChanged c.args.spacing.rule c.args.old.now c.args.index.now.parts c.args.index.now.owners) c.args.cells.now c.args.steps.now;
  room = refl;
}

pub loop-cell-preserved : goal.loop-cell-preserved
loop-cell-preserved g c = record {
  found = found_next c.args.spacing c.args.index.now.parts c.args.index.now.owners c.args.cells.now c.loop-cell.cell-index c.cell-item.result _ _ _ _
      c.requires.rising c.loop-cell-test.true c.cell-item.is
      c.in_ok-add_if_met.ensures.tile c.loop-cell.invariant.found;
  steps = took_next (IsChanged c.args.spacing.rule c.args.old.now c.args.index.now.parts c.args.index.now.owners) c.args.cells.now c.loop-cell.cell-index
      c.args.steps.now _ _ c.cell-item.result c.requires.rising c.loop-cell-test.true c.cell-item.is c.add_if_met.ensures.step c.loop-cell.invariant.steps;
  room = c.add_if_met.ensures.room ∙ c.loop-cell.invariant.room;
}

pub returns-in_err-add_if_met-clause-steps : goal.returns-in_err-add_if_met-clause-steps
returns-in_err-add_if_met-clause-steps g c = took_all (IsChanged c.args.spacing.rule c.args.old.now c.args.index.now.parts c.args.index.now.owners)
    (IsChangedAmong c.args.cells.now c.args.spacing.rule c.args.old.now c.args.index.now.parts c.args.index.now.owners) c.args.cells.now (c.loop-cell.cell-index + 1)
    c.args.steps.now _ (λ r r_in changed. (r_in, changed))
    (took_next (IsChanged c.args.spacing.rule c.args.old.now c.args.index.now.parts c.args.index.now.owners) c.args.cells.now c.loop-cell.cell-index c.args.steps.now
    _ _ c.cell-item.result c.requires.rising c.loop-cell-test.true c.cell-item.is c.add_if_met.ensures.step c.loop-cell.invariant.steps)

pub returns-clause-tiles : goal.returns-clause-tiles
returns-clause-tiles g c =
    let all : c.loop-cell.cell-index ≡ length c.args.cells.now = omega arith in
    subst (λ n. AreFoundIn c.args.spacing c.args.index.now.parts c.args.index.now.owners c.args.cells.now n c.loop-cell.found.tiles.items
    c.loop-cell.found.edges.items) all c.loop-cell.invariant.found

pub returns-clause-steps : goal.returns-clause-steps
returns-clause-steps g c = took_all (IsChanged c.args.spacing.rule c.args.old.now c.args.index.now.parts c.args.index.now.owners)
    (IsChangedAmong c.args.cells.now c.args.spacing.rule c.args.old.now c.args.index.now.parts c.args.index.now.owners) c.args.cells.now c.loop-cell.cell-index
    c.args.steps.now _ (λ r r_in changed. (r_in, changed)) c.loop-cell.invariant.steps
