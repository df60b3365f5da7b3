use Rattle.std.proofs.Common.{◌≡◌, ℕ, ◌++◌, ◌∷◌, [], get_or, sym, refl, ap, ◌∙◌, arith}
use Rattle.std.proofs.lemmas.List.{get_or_read}
use Rattle.dpl_stars.specs.Arcs.{arc_at}
use Rattle.dpl_stars.proofs.ArcLaws.{chains-step, arc-below}
use Rattle.dpl_stars.proofs.chains.chains_of.Goals as goal

pub index-requires : goal.index-requires
index-requires c =
    let below = (arc-below c.args.n c.args.edges.now c.requires c.loop-k.k c.loop-k-test.true).0 in
    let as_many = c.loop-k.invariant.as_many in
    let from : (arc_at c.args.edges.now c.loop-k.k).0 ≡ c.arc-from.result.0 = ap (λ (a : ℕ × ℕ). a.0) (sym c.arc-from.ensures) in
    omega (arith, below, as_many, from)

pub index_mut-requires : goal.index_mut-requires
index_mut-requires c =
    let below = (arc-below c.args.n c.args.edges.now c.requires c.loop-k.k c.loop-k-test.true).0 in
    let as_many = c.loop-k.invariant.as_many in
    let from : (arc_at c.args.edges.now c.loop-k.k).0 ≡ c.arc-from.result.0 = ap (λ (a : ℕ × ℕ). a.0) (sym c.arc-from.ensures) in
    omega (arith, below, as_many, from)

pub loop-k-preserved : goal.loop-k-preserved
loop-k-preserved c =
    let below = (arc-below c.args.n c.args.edges.now c.requires c.loop-k.k c.loop-k-test.true).0 in
    let as_many = c.loop-k.invariant.as_many in
    let from : (arc_at c.args.edges.now c.loop-k.k).0 ≡ c.arc-from.result.0 = ap (λ (a : ℕ × ℕ). a.0) (sym c.arc-from.ensures) in
    let read : c.index.result.now ≡ get_or c.loop-k.last.items c.arc-from.result.0 0 = get_or_read c.loop-k.last.items c.arc-from.result.0
    c.index.result.now (omega (arith, below, as_many, from)) c.index.ensures 0 in
    chains-step c.args.edges.now c.args.n c.loop-k.k c.arc-from.result.0 c.loop-k.last.items c.loop-k.before.items _ c.push.new.self.items c.loop-k.invariant
    from (omega (arith, below, from)) refl (c.in_ok-push.ensures.items ∙ ap (λ p. c.loop-k.before.items ++ p ∷ []) read)
