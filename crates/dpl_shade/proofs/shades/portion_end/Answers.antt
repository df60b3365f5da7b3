use Rattle.std.proofs.Common.{◌≡◌, ◌∙◌, ap, length, refl, arith}
use Rattle.std.proofs.lemmas.List.{get_or_default}
use Rattle.dpl_shade.specs.declared.shades.Shade.{Shade}
use Rattle.dpl_shade.proofs.ShadingLaws.{portion-more, portion-none, portion-over, portion-to}
use Rattle.dpl_shade.proofs.shades.portion_end.Goals as goal

pub loop-k-init : goal.loop-k-init
loop-k-init c = portion-none c.args.found.now c.args.n c.args.start c.requires.start

pub loop-k-preserved : goal.loop-k-preserved
loop-k-preserved c =
    portion-more c.args.found.now c.args.n c.loop-k.k c.loop-k.invariant (λ d. ap (λ (s : Shade). s.number) (get_or_default c.args.found.now c.loop-k.k d _ c.loop-k-test.true) ∙ c.if-found-k.false)

pub returns-then-found-k : goal.returns-then-found-k
returns-then-found-k c =
    portion-to c.args.found.now c.args.n c.args.start c.loop-k.k c.requires.rise c.requires.start (omega arith) c.loop-k-test.true c.loop-k.invariant
    (λ d e. c.if-found-k.true (ap (λ (s : Shade). s.number) (get_or_default c.args.found.now c.loop-k.k _ d c.loop-k-test.true) ∙ e))

pub returns : goal.returns
returns c =
    let within = c.requires.start.within in
    let is : c.loop-k.k ≡ length c.args.found.now = omega (arith, within) in
    portion-over c.args.found.now c.args.n (length c.args.found.now) refl (rw is at c.loop-k.invariant)
