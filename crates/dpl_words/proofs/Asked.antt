-- What is asked for, as a result.
use Rattle.std.proofs.Common.{◌≡◌, ◌∙◌, Option, Some}
use Rattle.std.specs.Prelude.{Result, Ok, Err, IfOk}
use Rattle.dpl_words.specs.Meaning.{RequestValues, request_view}
use Rattle.dpl_words.specs.declared.values.Request.{Request}
use Rattle.dpl_words.specs.declared.values.WordsFault.{WordsFault}

-- what is read of one option is what is read of another that equals it
pub reads : (asks same : Option RequestValues) (r : Result Request WordsFault) → asks ≡ same → IfOk r (λ x. same ≡ Some (request_view x))
    → IfOk r (λ x. asks ≡ Some (request_view x))
reads asks same (Ok x) is read = is ∙ read
reads asks same (Err e) is read = tt
