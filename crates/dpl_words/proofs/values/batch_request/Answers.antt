use Rattle.std.proofs.Common.{◌≤◌, ◌∙◌, sym, subst, length}
use Rattle.clap.specs.Matches.{found_of}
use Rattle.clap.specs.Walk.{rows_of}
use Rattle.dpl_words.specs.Meaning.{BatchValues, batch_view}
use Rattle.dpl_words.specs.Ranges.{AreInRangeForBatch}
use Rattle.dpl_words.proofs.Ranges.{batch_in_range, few_layers}
use Rattle.dpl_words.proofs.values.batch_request.Goals as goal

pub returns-clause-ranges : goal.returns-clause-ranges
returns-clause-ranges c =
    let options = c.in_ok-options.ensures in
    let corner = subst (λ (v : BatchValues). v.corner ≤ v.rule) options c.if-options.false in
    let few = subst (λ (v : BatchValues). length v.layers ≤ 64) options (few_layers (batch_view c.in_ok-options.options) (sym c.in_ok-is_apart.ensures ∙ c.if-not-is_apart.false)) in
    subst AreInRangeForBatch (sym options) (batch_in_range (rows_of (found_of c.args.inner.now)) c.requires.there corner few)
