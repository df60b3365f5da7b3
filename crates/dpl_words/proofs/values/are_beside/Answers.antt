use Rattle.std.proofs.Common.{◌≡◌, ◌∙◌, true, false, get_or, sym}
use Rattle.std.proofs.lemmas.List.{take_all}
use Rattle.std.proofs.lemmas.List.Folds.{list_all_at, list_all_more}
use Rattle.dpl_words.specs.Meaning.{is_beside}
use Rattle.dpl_words.proofs.values.are_beside.Goals as goal

pub loop-layer-preserved : goal.loop-layer-preserved
loop-layer-preserved c =
    let xs = c.args.layers.now in
    let i = c.loop-layer.layer-index in
    let here : is_beside c.args.input.now c.args.prefix.now (get_or xs i 0) ≡ true =
    sym c.in_ok-is_beside.ensures ∙ c.if-not-branch.false in
    rw (list_all_more (is_beside c.args.input.now c.args.prefix.now) xs i 0 c.loop-layer-test.true, c.loop-layer.invariant) here

pub returns-then-not-branch : goal.returns-then-not-branch
returns-then-not-branch c =
    let xs = c.args.layers.now in
    let i = c.loop-layer.layer-index in
    let here : is_beside c.args.input.now c.args.prefix.now (get_or xs i 0) ≡ false =
    sym c.in_ok-is_beside.ensures ∙ c.if-not-branch.true in
    sym (list_all_at (is_beside c.args.input.now c.args.prefix.now) xs i 0 c.loop-layer-test.true here)

pub returns : goal.returns
returns c = sym (rw (take_all c.loop-layer.layer-index c.args.layers.now c.loop-layer-test.false) at c.loop-layer.invariant)
