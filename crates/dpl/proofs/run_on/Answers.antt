use Rattle.std.proofs.Common.{◌≡◌, ◌∙◌, ap, subst, map, List}
use Rattle.std.specs.Prelude.{string_bytes}
use Rattle.std.specs.Vec.Iter.{into_iter_items}
use Rattle.clap.specs.Walk.{Text, texts}
use Rattle.dpl.specs.Ends.{IsEnd}
use Rattle.dpl.proofs.run_on.Goals as goal

pub returns : goal.returns
returns g c =
    let all : texts c.as_slice.result.now ≡ map string_bytes (into_iter_items c.args.words) = ap texts c.as_slice.ensures.value
    ∙ c.in-Ok-texts_of.ensures ∙ ap (map string_bytes) (c.deref.ensures.value ∙ c.in-Ok.ensures) in
    subst (λ (words : List Text). IsEnd words c.run_words.result) all c.run_words.ensures
