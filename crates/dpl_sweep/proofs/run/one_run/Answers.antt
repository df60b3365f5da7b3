use Rattle.std.proofs.Common.{refl, rules, w32, FitsSigned}
use Rattle.std.proofs.lemmas.Int.{to_z-of_z}
use Rattle.std.proofs.lemmas.Bool.{false≢true}
use Rattle.dpl_sweep.proofs.RunLaws.{one-same, one-on, one-rest, one-none, one-sums}
use Rattle.dpl_sweep.proofs.run.one_run.Goals as goal

pub returns-then-not-same_sums-clause-none : goal.returns-then-not-same_sums-clause-none
returns-then-not-same_sums-clause-none c n t o = false≢true (c.if-not-same_sums.ensures.1 (one-sums c.args.rule c.args.run.now c.args.other.now t o.first o.second))

pub returns-then-same-clause-some : goal.returns-then-same-clause-some
returns-then-same-clause-some c = one-same _ _ _ (c.if-same.ensures.0 refl)

pub returns-then-run_alike-clause-some : goal.returns-then-run_alike-clause-some
returns-then-run_alike-clause-some c =
    let f : FitsSigned w32 c.args.run.now.from = search rules in
    let x : FitsSigned w32 c.args.run.now.at = search rules in
    let y : FitsSigned w32 c.args.other.now.at = search rules in
    let z : FitsSigned w32 c.further-at.result = search rules in
    rw (c.known_further.ensures, to_z-of_z w32 c.args.run.now.from f, to_z-of_z w32 c.further-at.result z)
    (one-on c.args.rule c.args.run.now c.args.other.now c.further-at.result (c.if-not-same_sums.ensures.0 refl) (c.if-run_alike.ensures.0 refl)
    (rw (to_z-of_z w32 c.args.run.now.at x) at c.further-at.ensures.first)
    (rw (to_z-of_z w32 c.args.other.now.at y) at c.further-at.ensures.second)
    (rw (to_z-of_z w32 c.args.run.now.at x, to_z-of_z w32 c.args.other.now.at y) at c.further-at.ensures.known))

pub returns-then-not-is_idle-clause-none : goal.returns-then-not-is_idle-clause-none
returns-then-not-is_idle-clause-none c n t o =
    one-none c.args.rule c.args.run.now c.args.other.now t (λ e. false≢true (c.if-same.ensures.1 e))
    (λ e. false≢true (c.if-run_alike.ensures.1 e)) (λ e f. false≢true (c.if-not-is_idle.ensures.1 e)) o.first o.second

pub returns-then-not-is_idle-2-clause-none : goal.returns-then-not-is_idle-2-clause-none
returns-then-not-is_idle-2-clause-none c n t o =
    one-none c.args.rule c.args.run.now c.args.other.now t (λ e. false≢true (c.if-same.ensures.1 e))
    (λ e. false≢true (c.if-run_alike.ensures.1 e)) (λ e f. false≢true (c.if-not-is_idle-2.ensures.1 f)) o.first o.second

pub returns-clause-some : goal.returns-clause-some
returns-clause-some c =
    let x : FitsSigned w32 c.args.run.now.at = search rules in
    let y : FitsSigned w32 c.args.other.now.at = search rules in
    let z : FitsSigned w32 c.further-at.result = search rules in
    rw (c.known_further-2.ensures, to_z-of_z w32 c.further-at.result z)
    (one-rest c.args.rule c.args.run.now c.args.other.now c.further-at.result (c.if-not-same_sums.ensures.0 refl)
    (c.if-not-is_idle.ensures.0 refl) (c.if-not-is_idle-2.ensures.0 refl)
    (rw (to_z-of_z w32 c.args.run.now.at x) at c.further-at.ensures.first)
    (rw (to_z-of_z w32 c.args.other.now.at y) at c.further-at.ensures.second)
    (rw (to_z-of_z w32 c.args.run.now.at x, to_z-of_z w32 c.args.other.now.at y) at c.further-at.ensures.known))
