use Rattle.std.proofs.Common.{◌≡◌, arith, ap, sym, subst, ◌∙◌}
use Rattle.std.specs.Prelude.{None}
use Rattle.std.specs.List.{fold}
use Rattle.std.proofs.lemmas.List.{take_all}
use Rattle.dpl_slabs.specs.Parts.{union_of}
use Rattle.dpl_tile.specs.Bounds.{round_all}
use Rattle.dpl_tile.proofs.BoundLaws.{AreRound, parts-round, none-round, some-round}
use Rattle.dpl_tile.proofs.CellLaws.{solid-of_part}
use Rattle.dpl_tile.proofs.bounds.bounds.Goals as goal

pub returns-clause-none : goal.returns-clause-none
returns-clause-none c =
    let is : c.loop-part.bounds ≡ fold round_all None c.args.parts.now = c.loop-part.invariant ∙ ap (λ ps. fold round_all None ps)
    (take_all c.loop-part.part-index c.args.parts.now (omega arith)) in
    none-round (union_of c.args.parts.now) c.loop-part.bounds (subst (λ o. AreRound (union_of c.args.parts.now) o) (sym is)
    (parts-round c.args.parts.now (solid-of_part c.args.parts.now c.requires)))

pub returns-clause-some : goal.returns-clause-some
returns-clause-some c =
    let is : c.loop-part.bounds ≡ fold round_all None c.args.parts.now = c.loop-part.invariant ∙ ap (λ ps. fold round_all None ps)
    (take_all c.loop-part.part-index c.args.parts.now (omega arith)) in
    some-round (union_of c.args.parts.now) c.loop-part.bounds (subst (λ o. AreRound (union_of c.args.parts.now) o) (sym is)
    (parts-round c.args.parts.now (solid-of_part c.args.parts.now c.requires)))
