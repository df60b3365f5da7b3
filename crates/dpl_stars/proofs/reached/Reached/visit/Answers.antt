use Rattle.std.proofs.Common.{◌≡◌, ℕ, ◌-◌, get_or, sym, ap, arith}
use Rattle.std.proofs.lemmas.List.{get_or_read}
use Rattle.dpl_stars.specs.Arcs.{arc_at}
use Rattle.dpl_stars.specs.Growing.{place_in}
use Rattle.dpl_stars.proofs.ArcLaws.{arc-below}
use Rattle.dpl_stars.proofs.VisitLaws.{visit-start, visit-step, visit-end}
use Rattle.dpl_stars.proofs.reached.Reached.visit.Goals as goal

pub meet-requires-clause-in_roots : goal.meet-requires-clause-in_roots
meet-requires-clause-in_roots c =
    let within = c.loop-next.invariant.within in
    let some = c.loop-next-test.true in
    let below = (arc-below c.args.n c.args.edges.now c.requires.below (c.loop-next.next - 1) (omega (arith, within, some))).1 in
    let to : (arc_at c.args.edges.now (c.loop-next.next - 1)).1 ≡ c.arc-to.result.1 = ap (λ (a : ℕ × ℕ). a.1) (sym c.arc-to.ensures) in
    let as_many = c.loop-next.invariant.grown.as_many_roots in
    omega (arith, below, to, as_many)

pub meet-requires-clause-in_levels : goal.meet-requires-clause-in_levels
meet-requires-clause-in_levels c =
    let within = c.loop-next.invariant.within in
    let some = c.loop-next-test.true in
    let below = (arc-below c.args.n c.args.edges.now c.requires.below (c.loop-next.next - 1) (omega (arith, within, some))).1 in
    let to : (arc_at c.args.edges.now (c.loop-next.next - 1)).1 ≡ c.arc-to.result.1 = ap (λ (a : ℕ × ℕ). a.1) (sym c.arc-to.ensures) in
    let as_many = c.loop-next.invariant.grown.as_many_levels in
    omega (arith, below, to, as_many)

pub loop-next-preserved : goal.loop-next-preserved
loop-next-preserved c =
    let within = c.loop-next.invariant.within in
    let some = c.loop-next-test.true in
    let k : ℕ = c.loop-next.next - 1 in
    let to : (arc_at c.args.edges.now k).1 ≡ c.arc-to.result.1 = ap (λ (a : ℕ × ℕ). a.1) (sym c.arc-to.ensures) in
    let as_many = c.requires.chains.as_many_arcs in
    visit-step c.args.edges.now c.args.n c.args.root c.args.head c.index-v.result.now c.index-level.result.now c.loop-next.next
    c.arc-to.result.1 _ c.args.chains.now.last.items c.args.chains.now.before.items
    c.loop-next.self c.meet.new.self c.requires.below c.requires.chains c.requires.root_in c.loop-next.invariant k (omega (arith, some)) to c.in_ok-meet.ensures
    (get_or_read c.args.chains.now.before.items k _ (omega (arith, within, some, as_many)) c.index-next-in-loop-next.ensures 0)

pub returns : goal.returns
returns c =
    let no_more = c.loop-next-test.false in
    visit-end c.args.edges.now c.args.n c.args.root c.args.head c.index-v.result.now c.index-level.result.now c.loop-next.next
    c.loop-next.self (omega (arith, no_more)) c.loop-next.invariant

pub index-v-requires : goal.index-v-requires
index-v-requires c =
    let some = c.requires.some in
    let long = c.args.self.now.order.ok.0 in
    omega (arith, some, long)

pub index-level-requires : goal.index-level-requires
index-level-requires c =
    let below = (c.requires.grown.listed c.args.head c.requires.some).0 in
    let read : c.index-v.result.now ≡ place_in c.args.self.now c.args.head = get_or_read _ _ _ c.requires.some c.index-v.ensures 0 in
    let as_many = c.requires.grown.as_many_levels in
    let long = c.args.self.now.levels.ok.0 in
    omega (arith, below, read, as_many, long)

pub index-next-requires : goal.index-next-requires
index-next-requires c =
    let below = (c.requires.grown.listed c.args.head c.requires.some).0 in
    let read : c.index-v.result.now ≡ place_in c.args.self.now c.args.head = get_or_read _ _ _ c.requires.some c.index-v.ensures 0 in
    let as_many = c.requires.chains.as_many in
    let long = c.args.chains.now.last.ok.0 in
    omega (arith, below, read, as_many, long)

pub loop-next-init : goal.loop-next-init
loop-next-init c =
    let below = (c.requires.grown.listed c.args.head c.requires.some).0 in
    let read : c.index-v.result.now ≡ place_in c.args.self.now c.args.head = get_or_read _ _ _ c.requires.some c.index-v.ensures 0 in
    visit-start c.args.edges.now c.args.n c.args.root c.args.head c.index-v.result.now c.index-level.result.now c.index-next.result.now
    c.args.chains.now.last.items c.args.chains.now.before.items c.args.self.now c.requires.chains c.requires.grown c.requires.some read
    (get_or_read c.args.self.now.levels.items c.index-v.result.now _ (rw (read, c.requires.grown.as_many_levels) below) c.index-level.ensures 0)
    (get_or_read c.args.chains.now.last.items c.index-v.result.now _ (rw (read, c.requires.chains.as_many) below) c.index-next.ensures 0)

pub arc-to-requires : goal.arc-to-requires
arc-to-requires c =
    let within = c.loop-next.invariant.within in
    let some = c.loop-next-test.true in
    omega (arith, within, some)

pub index-next-requires-in-loop-next : goal.index-next-requires-in-loop-next
index-next-requires-in-loop-next c =
    let within = c.loop-next.invariant.within in
    let some = c.loop-next-test.true in
    let as_many = c.requires.chains.as_many_arcs in
    let long = c.args.chains.now.before.ok.0 in
    omega (arith, within, some, as_many, long)
