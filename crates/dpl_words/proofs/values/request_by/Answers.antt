use Rattle.std.proofs.Common.{◌≡◌, true, Some, ap, subst, sym}
use Rattle.std.specs.Prelude.{codes}
use Rattle.std.specs.Str.{bytes_eq}
use Rattle.clap.specs.Matches.{found_of}
use Rattle.clap.specs.Walk.{rows_of}
use Rattle.dpl_words.specs.Meaning.{AsksDemo, DemoValues}
use Rattle.dpl_words.specs.Ranges.{AreInRangeForDemo}
use Rattle.dpl_words.proofs.Ranges.{demo_in_range}
use Rattle.dpl_words.proofs.values.request_by.Goals as goal

pub split_request-requires : goal.split_request-requires
split_request-requires c =
    let named : bytes_eq c.args.name.now (codes "split") ≡ true = rw c.in-split.is in
    record { there = c.requires.there.split named }

pub returns-in-split-clause-read : goal.returns-in-split-clause-read
returns-in-split-clause-read c = rw c.in-split.is c.split_request.ensures.read

pub returns-in-split-clause-usage : goal.returns-in-split-clause-usage
returns-in-split-clause-usage c = rw c.in-split.is c.split_request.ensures.usage

pub returns-in-split-clause-ranges : goal.returns-in-split-clause-ranges
returns-in-split-clause-ranges c = c.split_request.ensures.ranges

pub returns-in-split-clause-apart : goal.returns-in-split-clause-apart
returns-in-split-clause-apart c = c.split_request.ensures.apart

pub check_request-requires : goal.check_request-requires
check_request-requires c =
    let named : bytes_eq c.args.name.now (codes "check") ≡ true = rw c.in-check.is in
    record { there = c.requires.there.check named }

pub returns-in-check-clause-read : goal.returns-in-check-clause-read
returns-in-check-clause-read c = rw c.in-check.is c.check_request.ensures.read

pub returns-in-check-clause-usage : goal.returns-in-check-clause-usage
returns-in-check-clause-usage c = rw c.in-check.is c.check_request.ensures.usage

pub returns-in-check-clause-ranges : goal.returns-in-check-clause-ranges
returns-in-check-clause-ranges c = c.check_request.ensures.ranges

pub returns-in-check-clause-apart : goal.returns-in-check-clause-apart
returns-in-check-clause-apart c = c.check_request.ensures.apart

pub demo_options-requires : goal.demo_options-requires
demo_options-requires c =
    let named : bytes_eq c.args.name.now (codes "demo") ≡ true = rw c.in-demo.is in
    record { there = c.requires.there.demo named }

pub returns-in-demo-clause-read : goal.returns-in-demo-clause-read
returns-in-demo-clause-read c = rw c.in-demo.is (ap (λ (v : DemoValues). Some (AsksDemo v)) (sym c.demo_options.ensures))

pub returns-in-demo-clause-ranges : goal.returns-in-demo-clause-ranges
returns-in-demo-clause-ranges c =
    let named : bytes_eq c.args.name.now (codes "demo") ≡ true = rw c.in-demo.is in
    subst AreInRangeForDemo (sym c.demo_options.ensures) (demo_in_range (rows_of (found_of c.args.inner.now)) (c.requires.there.demo named))

pub returns-in-demo-clause-apart : goal.returns-in-demo-clause-apart
returns-in-demo-clause-apart c = tt

pub batch_request-requires : goal.batch_request-requires
batch_request-requires c =
    let named : bytes_eq c.args.name.now (codes "batch") ≡ true = rw c.in-batch.is in
    record { there = c.requires.there.batch named }

pub returns-in-batch-clause-read : goal.returns-in-batch-clause-read
returns-in-batch-clause-read c = rw c.in-batch.is c.batch_request.ensures.read

pub returns-in-batch-clause-usage : goal.returns-in-batch-clause-usage
returns-in-batch-clause-usage c = rw c.in-batch.is c.batch_request.ensures.usage

pub returns-in-batch-clause-ranges : goal.returns-in-batch-clause-ranges
returns-in-batch-clause-ranges c = c.batch_request.ensures.ranges

pub returns-in-batch-clause-apart : goal.returns-in-batch-clause-apart
returns-in-batch-clause-apart c = c.batch_request.ensures.apart

pub edit_request-requires : goal.edit_request-requires
edit_request-requires c =
    let named : bytes_eq c.args.name.now (codes "edit") ≡ true = rw c.in-edit.is in
    record { there = c.requires.there.edit named }

pub returns-in-edit-clause-read : goal.returns-in-edit-clause-read
returns-in-edit-clause-read c = rw c.in-edit.is c.edit_request.ensures.read

pub returns-in-edit-clause-usage : goal.returns-in-edit-clause-usage
returns-in-edit-clause-usage c = rw c.in-edit.is c.edit_request.ensures.usage

pub returns-in-edit-clause-ranges : goal.returns-in-edit-clause-ranges
returns-in-edit-clause-ranges c = c.edit_request.ensures.ranges

pub returns-in-edit-clause-apart : goal.returns-in-edit-clause-apart
returns-in-edit-clause-apart c = c.edit_request.ensures.apart

pub returns-in_default-clause-read : goal.returns-in_default-clause-read
returns-in_default-clause-read c = tt

pub returns-in_default-clause-ranges : goal.returns-in_default-clause-ranges
returns-in_default-clause-ranges c = tt

pub returns-in_default-clause-apart : goal.returns-in_default-clause-apart
returns-in_default-clause-apart c = tt
