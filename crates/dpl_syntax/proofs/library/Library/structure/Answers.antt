use Rattle.std.proofs.Common.{ap, refl, ◌∙◌, position, nat_eq}
use Rattle.std.specs.Cmp.Lexicographic.{pointwise}
use Rattle.dpl_spec_format.specs.Tree.{Library, names_in}
use Rattle.dpl_syntax.proofs.Positions.{same_position}
use Rattle.dpl_syntax.proofs.library.Library.structure.Goals as goal

pub returns-in-Some : goal.returns-in-Some
returns-in-Some c = c.in-Some.ensures.index ∙ same_position _ _ _ _ _ (λ _. refl) c.self.inside.structures.entries
    ∙ ap (λ (lib : Library). position (pointwise nat_eq c.args.name.now) (names_in lib)) c.self.view_is

pub returns-in-None : goal.returns-in-None
returns-in-None c = c.in-None.ensures.index ∙ same_position _ _ _ _ _ (λ _. refl) c.self.inside.structures.entries
    ∙ ap (λ (lib : Library). position (pointwise nat_eq c.args.name.now) (names_in lib)) c.self.view_is
