use Rattle.std.proofs.Common.{rules, ◌∷◌, List, ℕ, refl, inl, inr, ap, ◌∙◌}
use Rattle.dpl_cert.specs.Lines.{line}
use Rattle.dpl_cert.specs.Grammar.{end_words}
use Rattle.dpl_parse.proofs.Texts.{lines_some}
use Rattle.dpl_parse.proofs.reading.ended.Goals as goal

pub returns-in_default : goal.returns-in_default
returns-in_default c = inl (refl, λ t e. c.in_default.ensures.none (record {}) t tt e)

pub returns-then-not-is_empty : goal.returns-then-not-is_empty
returns-then-not-is_empty c =
    let more = lines_some c.in-Some.rest.now (search rules) in
    inr (refl, more.0, more.1, c.in-Some.ensures.found.1 ∙ ap (λ (ls : List (List ℕ)). line end_words ∷ ls) more.2)
