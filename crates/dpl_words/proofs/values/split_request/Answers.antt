use Rattle.std.proofs.Common.{◌≤◌, sym, subst}
use Rattle.clap.specs.Matches.{found_of}
use Rattle.clap.specs.Walk.{rows_of}
use Rattle.dpl_words.specs.Meaning.{SplitValues}
use Rattle.dpl_words.specs.Ranges.{AreInRange}
use Rattle.dpl_words.proofs.Ranges.{in_range}
use Rattle.dpl_words.proofs.values.split_request.Goals as goal

pub returns-clause-ranges : goal.returns-clause-ranges
returns-clause-ranges c =
    let options = c.split_options-options.ensures in
    let corner = subst (λ (v : SplitValues). v.corner ≤ v.rule) options c.if-options.false in
    subst AreInRange (sym options) (in_range (rows_of (found_of c.args.inner.now)) c.requires.there corner)
