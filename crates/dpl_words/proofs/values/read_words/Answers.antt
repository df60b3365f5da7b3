use Rattle.std.proofs.Common.{◌∙◌, ap, sym, inl, inr, subst}
use Rattle.clap.specs.Kinds.{HasKind}
use Rattle.clap.specs.Simple.{App, is_simple, subcommand_of}
use Rattle.clap.specs.Faults.{fault_of, is_simple_and_free}
use Rattle.clap.specs.Walk.{is_empty, texts}
use Rattle.dpl_words.specs.Meaning.{asked_of}
use Rattle.std.specs.Prelude.{IfSome}
use Rattle.dpl_words.specs.Ranges.{HasItsValues}
use Rattle.dpl_words.proofs.Asked.{reads}
use Rattle.dpl_words.proofs.Ranges.{taken_there}
use Rattle.dpl_words.proofs.Taken.{not_taken, simple, simple_and_free, taken}
use Rattle.dpl_words.proofs.values.read_words.Goals as goal

pub returns-in-Err-clause-usage : goal.returns-in-Err-clause-usage
returns-in-Err-clause-usage c = λ h.
    let is = c.in_ok-command.ensures in
    let fails = c.in-Err.ensures.kinds (ap is_simple_and_free is ∙ simple_and_free) in
    let mine = subst (λ (a : App). HasKind (fault_of a (texts c.args.words.now)) c.in-Err.error) is fails in
    elim mine [
      | inl memory ↦ let no = c.fault_by.ensures.memory (c.kind.ensures ∙ memory) in cc
      | inr among ↦ not_taken (texts c.args.words.now) _ among
    ]

pub asked-requires : goal.asked-requires
asked-requires c =
    let is = c.in_ok-command.ensures in
    let none = c.in-Ok.ensures.kinds (ap is_simple_and_free is ∙ simple_and_free) in
    let met = c.in-Ok.ensures.matches (ap is_simple is ∙ simple) in
    let taken = ap is_empty (ap (λ (a : App). fault_of a (texts c.args.words.now)) (sym is) ∙ none) in
    record { there = subst (λ o. IfSome o HasItsValues) (sym (met.1 ∙ ap (λ (a : App). subcommand_of a (texts c.args.words.now)) is)) (taken_there (texts c.args.words.now) taken) }

pub returns-clause-read : goal.returns-clause-read
returns-clause-read c =
    let is = c.in_ok-command.ensures in
    let none = c.in-Ok.ensures.kinds (ap is_simple_and_free is ∙ simple_and_free) in
    let met = c.in-Ok.ensures.matches (ap is_simple is ∙ simple) in
    let asks = taken (texts c.args.words.now) (ap (λ (a : App). fault_of a (texts c.args.words.now)) (sym is) ∙ none)
    ∙ ap asked_of (sym (met.1 ∙ ap (λ (a : App). subcommand_of a (texts c.args.words.now)) is)) in
    reads _ _ c.asked.result asks c.asked.ensures.read

pub returns-clause-usage : goal.returns-clause-usage
returns-clause-usage c =
    let is = c.in_ok-command.ensures in
    let none = c.in-Ok.ensures.kinds (ap is_simple_and_free is ∙ simple_and_free) in
    let met = c.in-Ok.ensures.matches (ap is_simple is ∙ simple) in
    let asks = taken (texts c.args.words.now) (ap (λ (a : App). fault_of a (texts c.args.words.now)) (sym is) ∙ none)
    ∙ ap asked_of (sym (met.1 ∙ ap (λ (a : App). subcommand_of a (texts c.args.words.now)) is)) in
    λ h. asks ∙ c.asked.ensures.usage h
