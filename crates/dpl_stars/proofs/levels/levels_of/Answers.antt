use Rattle.std.proofs.Common.{◌≡◌, ◌≢◌, ℕ, ◌+◌, sym, subst, ◌∙◌, arith}
use Rattle.std.proofs.lemmas.List.{get_or_read}
use Rattle.dpl_stars.specs.declared.reached.Reached.{Reached}
use Rattle.dpl_stars.specs.Growing.{root_in, reached_count, IsGrown}
use Rattle.dpl_stars.proofs.VisitLaws.{grown-past, grown-levels}
use Rattle.dpl_stars.proofs.levels.levels_of.Goals as goal
use Rattle.dpl_stars.proofs.levels.levels_of.Goals.{then-index-n+in_ok-spread, else-index-n}

pub loop-v-preserved : goal.loop-v-preserved
loop-v-preserved c =
    let n : ℕ = c.args.n in
    let v : ℕ = c.loop-v.v in
    let P : Reached → Type 0 = λ x. IsGrown c.args.edges.now n (v + 1) (v + 1) (reached_count x) x in
    let as_many = c.loop-v.invariant.as_many_roots in
    let test = c.loop-v-test.true in
    let read : c.index.result.now ≡ root_in c.loop-v.reached v = get_or_read c.loop-v.reached.roots.items v c.index.result.now (omega (arith, as_many, test)) c.index.ensures 0 in
    elim c.if-index-n.branch [
      | then-index-n+in_ok-spread w ↦ subst P (sym w.reached-is) w.in_ok-spread.ensures
      | else-index-n w ↦
          let other = w.if-index-n.false in
          let reached : root_in c.loop-v.reached v ≢ n = λ e. other (read ∙ e) in
          subst P (sym w.reached-is) (grown-past c.args.edges.now n v c.loop-v.reached c.loop-v.invariant reached)
    ]

pub returns : goal.returns
returns c =
    let test = c.loop-v-test.false in
    let end = c.loop-v.auto.v-end in
    let all : c.loop-v.v ≡ c.args.n = omega (arith, test, end) in
    grown-levels c.args.edges.now c.args.n c.loop-v.v c.loop-v.reached c.requires
    (subst (λ b. IsGrown c.args.edges.now c.args.n b c.loop-v.v (reached_count c.loop-v.reached) c.loop-v.reached) all c.loop-v.invariant)
