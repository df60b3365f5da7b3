use Rattle.std.proofs.Common.{refl, arith}
use Rattle.std.proofs.lemmas.Bool.{false≢true}
use Rattle.dpl_tree.specs.declared.owners.Owners.TheVariants.{Only}
use Rattle.dpl_zone.proofs.Probes.{IsSought, touch-found, found-touch, zero_item}
use Rattle.dpl_zone.proofs.near.touches_own.Goals as goal

pub returns-then-n-count : goal.returns-then-n-count
returns-then-n-count c =
    let sought : IsSought c.args.tree.now c.widened-window.result (Only c.args.z.now.feature) c.seek-n.result = record { passed = c.seek-n.ensures.passed; found = c.seek-n.ensures.found } in (
      λ h. touch-found c.args.tree.now c.args.z.now.feature c.args.z.now.rect c.widened-window.result c.seek-n.result c.requires.items c.requires.solid
          c.widened-window.ensures sought zero_item (rw c.count-count.ensures at c.if-n-count.true),
      λ g. refl,
    )

pub returns : goal.returns
returns c =
    let sought : IsSought c.args.tree.now c.widened-window.result (Only c.args.z.now.feature) c.seek-n.result = record { passed = c.seek-n.ensures.passed; found = c.seek-n.ensures.found } in (
      λ h. absurd (false≢true h),
      λ (h, has, touch). absurd
          (let l = found-touch c.args.tree.now c.args.z.now.feature c.args.z.now.rect c.widened-window.result c.seek-n.result c.requires.items c.requires.solid
          c.widened-window.ensures sought h has touch in
          let no = rw c.count-count.ensures at c.if-n-count.false in omega (arith, l, no)),
    )
