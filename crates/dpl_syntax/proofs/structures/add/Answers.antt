use Rattle.std.proofs.Common.{ℕ, List, nat_eq, refl, ◌∙◌}
use Rattle.std.specs.Cmp.Lexicographic.{pointwise}
use Rattle.std.specs.Borrow.{Bor}
use Rattle.dpl_syntax.proofs.StructureLists.{insert_new}
use Rattle.dpl_syntax.proofs.structures.add.Goals as goal

pub returns-clause-ok : goal.returns-clause-ok
returns-clause-ok c =
    c.in_ok-insert.ensures.entries ∙ insert_new (λ (k : Bor (List ℕ)). k.now) (λ j k. pointwise nat_eq j.now k.now)
    (pointwise nat_eq c.args.name.now) c.args.structures.now.entries c.args.name c.args.structure (λ _. refl) c.requires
