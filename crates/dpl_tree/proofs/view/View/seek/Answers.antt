use Rattle.std.proofs.Common.{◌≡◌, List, map, sym, ◌∙◌, subst}
use Rattle.dpl_tree.specs.declared.items.Item.{Item}
use Rattle.dpl_tree.specs.Trees.{transposed_item}
use Rattle.dpl_tree.proofs.TransposedLaws.{IsPassed, IsFound, passed-transposed, found-transposed, seen-true}
use Rattle.dpl_tree.proofs.view.View.seek.Goals as goal

pub returns-then-self-clause-passed : goal.returns-then-self-clause-passed
returns-then-self-clause-passed c =
    let items : List Item = c.self.inside.tree.now in
    let is : map transposed_item items ≡ c.args.self.now = sym (seen-true c.self.inside.is_transposed items c.if-self.true) ∙ c.self.view_is in
    subst (λ ns. IsPassed ns c.args.window.now c.args.owners c.args.from c.seek.result) is
    (passed-transposed items c.args.window.now c.args.owners c.args.from c.seek.result (rw c.transposed.ensures at c.seek.ensures.passed))

pub returns-then-self-clause-found : goal.returns-then-self-clause-found
returns-then-self-clause-found c =
    let items : List Item = c.self.inside.tree.now in
    let is : map transposed_item items ≡ c.args.self.now = sym (seen-true c.self.inside.is_transposed items c.if-self.true) ∙ c.self.view_is in
    subst (λ ns. IsFound ns c.args.window.now c.args.owners c.seek.result) is
    (found-transposed items c.args.window.now c.args.owners c.seek.result (rw c.transposed.ensures at c.seek.ensures.found))
