use Rattle.std.proofs.Common.{◌≡◌, ℕ, Option, subst}
use Rattle.std.specs.Prelude.{IfSome}
use Rattle.dpl_tree.proofs.items.Items.add.Goals as goal

pub returns : goal.returns
returns c =
    let same = subst (λ (o : Option ℕ). IfSome o (λ n. n ≡ c.args.owner)) c.in-Some.is c.stored_owner.ensures.some in
    rw (c.self.view_is, same) at c.add_rects.ensures
