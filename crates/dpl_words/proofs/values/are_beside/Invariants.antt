use Rattle.std.proofs.Common.{◌≡◌, true, take}
use Rattle.std.specs.List.{list_all}
use Rattle.dpl_words.specs.Meaning.{is_beside}
use Rattle.dpl_words.proofs.values.are_beside.Given as goal

-- no file of the layers so far has the name of IN
abbrev pub invariant-loop-layer : goal.invariant-loop-layer
invariant-loop-layer l = list_all (is_beside l.input l.prefix) (take l.layer-index l.layers) ≡ true
