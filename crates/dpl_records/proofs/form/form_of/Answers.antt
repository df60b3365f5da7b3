use Rattle.std.proofs.Common.{◌∙◌, refl, sym}
use Rattle.dpl_spec_format.specs.Table.{table}
use Rattle.dpl_records.specs.declared.form.Data.TheVariants.{Unknown}
use Rattle.dpl_records.specs.declared.form.TheConstants.{TABLE}
use Rattle.dpl_records.proofs.Rows.{row_of, no_row}
use Rattle.dpl_records.proofs.form.form_of.Goals as goal

pub returns-then-place-lt60 : goal.returns-then-place-lt60
unfolding table
returns-then-place-lt60 c = c.form.ensures ∙ row_of TABLE c.args.kind Unknown refl c.if-place-lt60.true

pub returns-else-place-lt60 : goal.returns-else-place-lt60
returns-else-place-lt60 c = sym (no_row c.args.kind c.if-place-lt60.false)
