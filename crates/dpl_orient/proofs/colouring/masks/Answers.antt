use Rattle.std.proofs.Common.{◌≡◌, ◌<◌, length, get_or, ap, ◌∙◌, arith}
use Rattle.std.proofs.lemmas.List.{get_or_default, take_all}
use Rattle.dpl_orient.specs.declared.chart.Rooted.{Rooted}
use Rattle.dpl_orient.specs.Chart.{own_root}
use Rattle.dpl_orient.specs.Crossings.{colours_of}
use Rattle.dpl_orient.proofs.colouring.masks.Goals as goal

pub bounds-flips-rooted : goal.bounds-flips-rooted
bounds-flips-rooted c =
    let none : Rooted = own_root 0 in
    let within : c.loop-rooted.rooted-index < length c.args.chart.now = c.loop-rooted-test.true in
    let same : (get_or c.args.chart.now c.loop-rooted.rooted-index none).root ≡ (get_or c.args.chart.now c.loop-rooted.rooted-index
    (own_root c.loop-rooted.rooted-index)).root = ap (λ s. s.root) (get_or_default c.args.chart.now c.loop-rooted.rooted-index none
    (own_root c.loop-rooted.rooted-index) within) in
    let low = c.requires.low c.loop-rooted.rooted-index within in
    omega (arith, same, low, c.requires.len)

pub returns : goal.returns
returns c =
    c.of-2.ensures ∙ (c.loop-rooted.invariant ∙ ap (λ rooted. colours_of rooted c.args.flips.now)
    (take_all c.loop-rooted.rooted-index c.args.chart.now c.loop-rooted-test.false))
