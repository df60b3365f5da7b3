use Rattle.std.proofs.Common.{ℕ, Option, Some, sym, subst, arith}
use Rattle.dpl_odd.specs.Paths.{IsNotAfter, IsLesser, slanted, first, older, newer}
use Rattle.dpl_odd.proofs.LevelLaws.{same-read, differ-read}
use Rattle.dpl_odd.proofs.level.lesser.Goals as goal

pub returns-then-index : goal.returns-then-index
returns-then-index c =
    let levels = c.args.levels.now.levels in
    slanted (differ-read levels.items c.args.edge.0 c.args.edge.1 _ _ (omega (arith, c.requires.smaller_in, levels.ok.0))
    (omega (arith, c.requires.larger_in, levels.ok.0)) c.index.ensures c.index-2.ensures c.if-index.true)

pub returns-in-None : goal.returns-in-None
returns-in-None c =
    let levels = c.args.levels.now.levels in
    let same = same-read levels.items c.args.edge.0 c.args.edge.1 _ _ (omega (arith, c.requires.smaller_in, levels.ok.0))
    (omega (arith, c.requires.larger_in, levels.ok.0)) c.index.ensures c.index-2.ensures c.if-index.false in
    subst (λ (o : Option (ℕ × ℕ)). IsLesser c.args.levels.now.roots.items levels.items c.args.edge o (Some c.args.edge)) (sym c.in-None.is) (first same)

pub returns-then-comes_first : goal.returns-then-comes_first
returns-then-comes_first c =
    let levels = c.args.levels.now.levels in
    let same = same-read levels.items c.args.edge.0 c.args.edge.1 _ _ (omega (arith, c.requires.smaller_in, levels.ok.0))
    (omega (arith, c.requires.larger_in, levels.ok.0)) c.index.ensures c.index-2.ensures c.if-index.false in
    let before = subst (λ xs. IsNotAfter xs c.in-Some.other c.args.edge) c.deref.ensures.value c.if-comes_first.ensures in
    subst (λ (o : Option (ℕ × ℕ)). IsLesser c.args.levels.now.roots.items levels.items c.args.edge o (Some c.in-Some.other)) (sym c.in-Some.is) (older same before)

pub returns-else-comes_first : goal.returns-else-comes_first
returns-else-comes_first c =
    let levels = c.args.levels.now.levels in
    let same = same-read levels.items c.args.edge.0 c.args.edge.1 _ _ (omega (arith, c.requires.smaller_in, levels.ok.0))
    (omega (arith, c.requires.larger_in, levels.ok.0)) c.index.ensures c.index-2.ensures c.if-index.false in
    let before = subst (λ xs. IsNotAfter xs c.args.edge c.in-Some.other) c.deref.ensures.value c.if-comes_first.ensures in
    subst (λ (o : Option (ℕ × ℕ)). IsLesser c.args.levels.now.roots.items levels.items c.args.edge o (Some c.args.edge)) (sym c.in-Some.is) (newer same before)
