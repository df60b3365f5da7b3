use Rattle.std.proofs.Common.{◌≤◌, sym, subst}
use Rattle.clap.specs.Matches.{found_of}
use Rattle.clap.specs.Walk.{rows_of}
use Rattle.dpl_words.specs.Meaning.{EditValues}
use Rattle.dpl_words.specs.Ranges.{AreInRangeForEdit}
use Rattle.dpl_words.proofs.Ranges.{edit_in_range}
use Rattle.dpl_words.proofs.values.edit_request.Goals as goal

pub returns-clause-ranges : goal.returns-clause-ranges
returns-clause-ranges c =
    let options = c.edit_options-options.ensures in
    let corner = subst (λ (v : EditValues). v.corner ≤ v.rule) options c.if-options.false in
    subst AreInRangeForEdit (sym options) (edit_in_range (rows_of (found_of c.args.inner.now)) c.requires.there corner)
