use Rattle.std.proofs.Common.{◌≡◌, ◌∙◌, [], List, get_or, subst}
use Rattle.std.proofs.lemmas.List.{get_or_default}
use Rattle.dpl_spec_split.specs.declared.Rect.{Rect}
use Rattle.std.specs.List.{Contains}
use Rattle.std.proofs.lemmas.Result.{IfOk-from_err}
use Rattle.dpl_tile.specs.Adding.{Adds}
use Rattle.dpl_crowd.specs.Crowds.{IsFoeAmong}
use Rattle.dpl_crowd.proofs.NearLaws.{items-known, neighbours-are}
use Rattle.dpl_crowd.proofs.near.Crowd.neighbours.Goals as goal

pub add_all_foes-requires-clause-items : goal.add_all_foes-requires-clause-items
add_all_foes-requires-clause-items c = items-known c.self.inside.parts.now c.self.inside.owners.now c.self.inside.tree c.self.invariant.1 c.self.invariant.0 c.self.invariant.2

pub returns : goal.returns
returns c =
    let parts : List (List Rect) = c.self.inside.parts.now in
    let k_in = rw (← c.self.view_is) at c.requires in
    let slabs : c.rects-slabs.result.now ≡ get_or parts c.args.k [] = c.rects-slabs.ensures.value ∙ (rw (c.index-items-k.is, c.items.ensures.value) (get_or_default parts c.args.k _ [] k_in)) in
    rw (← c.self.view_is) (neighbours-are c.self.inside.spacing parts c.self.inside.owners.now c.self.inside.tree c.args.k c.new-found.result.items c.add_all_foes.new.found.items c.self.invariant.0
    k_in c.new-found.ensures.items
    (subst (λ (rs : List Rect). Adds (λ w. (r : Rect) × Contains rs r × IsFoeAmong c.self.inside.spacing c.self.inside.owners.now c.args.k r c.self.inside.tree w)
    c.new-found.result.items c.add_all_foes.new.found.items)
    slabs c.in_ok-add_all_foes.ensures))

pub returns-in_err-add_all_foes : goal.returns-in_err-add_all_foes
returns-in_err-add_all_foes c = IfOk-from_err _ _ c.from_residual.ensures.0
