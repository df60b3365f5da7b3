use Rattle.std.proofs.Common.{◌≡◌, ◌∙◌, length, take, sym, ap, subst, arith}
use Rattle.std.proofs.lemmas.List.{get_or_read}
use Rattle.std.proofs.Math.Seq.{take-length}
use Rattle.dpl_stars.specs.declared.joined.Joined.TheVariants.{Odd}
use Rattle.dpl_stars.specs.Links.{StandFor}
use Rattle.dpl_stars.proofs.Many.{stand-next}
use Rattle.dpl_stars.proofs.sums.all_links.Goals as goal

pub loop-sum-preserved : goal.loop-sum-preserved
loop-sum-preserved c =
    let (more, list, links, is) = c.in_ok-add_links.ensures in
    stand-next c.args.sums.now c.loop-sum.sum-index c.sum-item.result c.in-Stars.rows c.loop-sum.edges.items more _ c.loop-sum-test.true
    c.sum-item.is c.in-Stars.is c.loop-sum.invariant list links is

pub loop-sum-init : goal.loop-sum-init
loop-sum-init c = c.new-edges.ensures.items

pub returns-in_default : goal.returns-in_default
returns-in_default c = (
  c.loop-sum.sum-index,
  c.loop-sum-test.true,
  sym (get_or_read c.args.sums.now c.loop-sum.sum-index c.sum-item.result c.loop-sum-test.true c.sum-item.is Odd) ∙ c.in_default.is,
)

pub returns : goal.returns
returns c =
    let all = c.loop-sum-test.false in
    let end = c.loop-sum.auto.sum-index-end in
    let whole : c.loop-sum.sum-index ≡ length c.args.sums.now = omega (arith, all, end) in
    subst (λ sums. StandFor sums c.loop-sum.edges.items) (ap (λ n. take n c.args.sums.now) whole ∙ take-length c.args.sums.now) c.loop-sum.invariant
