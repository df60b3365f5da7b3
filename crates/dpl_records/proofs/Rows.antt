-- The rows of the program's table are those of the format's.
use Rattle.std.proofs.Common.{◌≡◌, ℕ, ◌<◌, ◌≤◌, List, map, length, get_or, Option, None, sym, ap, ◌∙◌}
use Rattle.std.specs.Prelude.{slice_get}
use Rattle.std.specs.Option.{option_map}
use Rattle.std.proofs.lemmas.Option.{slice_get-map, slice_get_past, slice_get-get_or}
use Rattle.dpl_spec_format.specs.Table.{Form, table, form_of, row_or_none}
use Rattle.dpl_records.specs.declared.form.Data.{Data}
use Rattle.dpl_records.specs.Forms.{form_in}

pub row_of : (rows : List Data) (k : ℕ) (d : Data) → map form_in rows ≡ table → k < length rows → form_in (get_or rows k d) ≡ form_of k
unfolding form_of
row_of rows k d same lt =
    sym (ap row_or_none (ap (λ (t : List (Option Form)). slice_get t k) (sym same) ∙ slice_get-map form_in rows k
    ∙ ap (λ (r : Option Data). option_map form_in r) (slice_get-get_or rows k d lt)))

pub no_row : (k : ℕ) → 60 ≤ k → form_of k ≡ None
unfolding form_of table
no_row k le = ap row_or_none (slice_get_past table k le)
