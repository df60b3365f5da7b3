-- What the rows of the table stand for.
use Rattle.std.specs.Prelude.{Option, None}
use Rattle.dpl_spec_format.specs.Table.{Size, exactly, any, points, Form, of, unchecked}
use Rattle.dpl_records.specs.declared.form.Data.{Data}
use Rattle.dpl_records.specs.declared.form.Data.TheVariants as data_of
use Rattle.dpl_records.specs.declared.form.Form.{Form as Row}
use Rattle.dpl_records.specs.declared.form.Size.{Size as Bytes}
use Rattle.dpl_records.specs.declared.form.Size.TheVariants.{Exactly, Any, Points}

abbrev pub size_seen : Bytes → Size
size_seen (Exactly n) = exactly n
size_seen Any = any
size_seen Points = points

abbrev pub form_seen : Row → Form
form_seen row = record { data_type = row.data_type; size = size_seen row.size }

-- the form of the data of this name
abbrev pub form_in : Data → Option Form
form_in data_of.Unknown = None
form_in data_of.Unchecked = unchecked
form_in data_of.Empty = of 0 (exactly 0)
form_in data_of.Bits = of 1 (exactly 2)
form_in data_of.Short = of 2 (exactly 2)
form_in data_of.Shorts = of 2 (exactly 4)
form_in data_of.Dates = of 2 (exactly 24)
form_in data_of.Long = of 3 (exactly 4)
form_in data_of.Points = of 3 points
form_in data_of.Real = of 5 (exactly 8)
form_in data_of.Reals = of 5 (exactly 16)
form_in data_of.Text = of 6 any
