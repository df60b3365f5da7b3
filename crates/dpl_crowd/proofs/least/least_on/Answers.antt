use Rattle.std.proofs.Common.{◌≡◌, ◌+◌, ℕ, sym, subst, get_or, arith}
use Rattle.std.proofs.lemmas.List.{get_or_default}
use Rattle.dpl_crowd.specs.Walking.{IsLeast, IsOn}
use Rattle.dpl_crowd.proofs.LeastLaws.{IsOnFirst, least-as, least-more, on-all, on-more, on-none, on-same}
use Rattle.dpl_crowd.proofs.least.least_on.Goals as goal
use Rattle.dpl_crowd.proofs.least.least_on.Goals.{then-from-v+then-levels-v, else-from-v, else-from-v-via-then-from-v+else-levels-v, else-from-v-via-else-from-v}

pub loop-v-init : goal.loop-v-init
loop-v-init c = on-none c.args.found.now c.args.levels.now c.args.from c.args.level

pub loop-v-preserved : goal.loop-v-preserved
loop-v-preserved c =
    let found = c.args.found.now in
    let levels = c.args.levels.now in
    let n : ℕ = c.loop-v.v-index in
    let v : ℕ = get_or found n 0 in
    let Old : ℕ → Type 0 = IsOnFirst found levels c.args.from c.args.level n in
    let New : ℕ → Type 0 = IsOnFirst found levels c.args.from c.args.level (n + 1) in
    let read : v ≡ get_or found n v = get_or_default found n 0 v c.loop-v-test.true in
    elim c.if-from-v.branch [
      | then-from-v+then-levels-v w ↦ subst (IsLeast New) (sym w.least-is)
          (least-more Old New v (on-more found levels c.args.from c.args.level n v c.loop-v-test.true read w.if-from-v.true w.if-levels-v.true)
          c.loop-v.least w.lesser-least.result c.loop-v.invariant w.lesser-least.ensures)
      | else-from-v w ↦
          let off : IsOn levels c.args.from c.args.level v → ⊥ = elim w.else-from-v.branch [
            | else-from-v-via-then-from-v+else-levels-v w' ↦ λ on. w'.if-levels-v.false on.on
            | else-from-v-via-else-from-v w' ↦ λ on. (let early = w'.if-from-v.false in let late = on.late in omega (arith, early, late))
          ] in
          subst (IsLeast New) (sym w.least-is) (least-as Old New (on-same found levels c.args.from c.args.level n v c.loop-v-test.true read off) c.loop-v.least c.loop-v.invariant)
    ]

pub returns : goal.returns
returns c = least-as _ _ (on-all c.args.found.now c.args.levels.now c.args.from c.args.level c.loop-v.v-index (omega arith)) c.loop-v.least c.loop-v.invariant
