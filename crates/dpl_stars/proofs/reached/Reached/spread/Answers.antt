use Rattle.std.proofs.Common.{◌≡◌, ◌+◌, ◌<◌, ◌≤◌, sym, subst, arith}
use Rattle.dpl_stars.specs.Growing.{reached_count, IsGrown}
use Rattle.dpl_stars.proofs.VisitLaws.{first-grown, grown-next}
use Rattle.dpl_stars.proofs.reached.Reached.spread.Goals as goal

pub loop-head-init : goal.loop-head-init
loop-head-init c =
    let is : c.len-head.result ≡ reached_count c.args.self.now = omega (arith, c.len-head.ensures, c.args.self.now.order.ok.0) in
    subst (λ head. IsGrown c.args.edges.now c.args.n (c.args.root + 1) c.args.root head c.note.new.self) (sym is)
    (first-grown c.args.edges.now c.args.n c.args.root c.args.self.now c.note.new.self c.requires.grown c.requires.unreached c.requires.root_in c.in_ok-note.ensures)

pub note-requires-clause-in_roots : goal.note-requires-clause-in_roots
note-requires-clause-in_roots c =
    let as_many = c.requires.grown.as_many_roots in
    let root_in = c.requires.root_in in
    let long = c.args.self.now.roots.ok.0 in
    omega (arith, as_many, root_in, long)

pub note-requires-clause-in_levels : goal.note-requires-clause-in_levels
note-requires-clause-in_levels c =
    let as_many = c.requires.grown.as_many_levels in
    let root_in = c.requires.root_in in
    let long = c.args.self.now.levels.ok.0 in
    omega (arith, as_many, root_in, long)

pub visit-requires-clause-root_in : goal.visit-requires-clause-root_in
visit-requires-clause-root_in c = c.requires.root_in

pub visit-requires-clause-some : goal.visit-requires-clause-some
visit-requires-clause-some c =
    let some = c.loop-head-test.true in
    let len = c.len.ensures in
    let long = c.loop-head.self.order.ok.0 in
    let below : c.loop-head.head < reached_count c.loop-head.self = omega (arith, some, len, long) in
    below

pub visit-requires-clause-grown : goal.visit-requires-clause-grown
visit-requires-clause-grown c = c.loop-head.invariant

pub loop-head-smaller : goal.loop-head-smaller
loop-head-smaller c =
    let some = c.loop-head-test.true in
    let len = c.len.ensures in
    let long = c.loop-head.self.order.ok.0 in
    let count = c.loop-head.invariant.count in
    omega (arith, some, len, long, count)

pub loop-head-preserved : goal.loop-head-preserved
loop-head-preserved c = c.in_ok-visit.ensures

pub returns : goal.returns
returns c =
    let all = c.loop-head-test.false in
    let len = c.len.ensures in
    let long = c.loop-head.self.order.ok.0 in
    let end : reached_count c.loop-head.self ≤ c.loop-head.head = omega (arith, all, len, long) in
    grown-next c.args.edges.now c.args.n (c.args.root + 1) c.args.root (c.args.root + 1) c.loop-head.head c.loop-head.self c.loop-head.invariant end
