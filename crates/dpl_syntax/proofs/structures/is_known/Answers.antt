use Rattle.std.proofs.Common.{nat_eq, List, ℕ, refl, ◌∙◌}
use Rattle.std.specs.Cmp.Lexicographic.{pointwise}
use Rattle.std.specs.Borrow.{Bor}
use Rattle.dpl_syntax.proofs.KnownNames.{found_any}
use Rattle.dpl_syntax.proofs.structures.is_known.Goals as goal

pub returns : goal.returns
returns c = c.contains_key.ensures ∙ found_any (λ (k : Bor (List ℕ)). k.now) (λ k. pointwise nat_eq c.args.name.now k.now)
    (pointwise nat_eq c.args.name.now) (λ _. refl) c.args.known.now.entries
