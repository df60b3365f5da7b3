use Rattle.std.proofs.Common.{rules}
use Rattle.std.specs.Prelude.{FitsSigned}
use Rattle.std.specs.Int.{w16}
use Rattle.std.specs.Option.{option_map}
use Rattle.std.proofs.lemmas.Int.{to_z-of_z}
use Rattle.dpl_syntax.specs.Elements.{trans_seen}
use Rattle.dpl_flatten.proofs.CopyLaws.{array_are}
use Rattle.dpl_flatten.proofs.WithinLaws.{not_askew, some_columns, some_rows}
use Rattle.dpl_flatten.proofs.cells.copies_of.Goals as goal

pub single_copy-requires-clause-turned : goal.single_copy-requires-clause-turned
single_copy-requires-clause-turned c = not_askew _ _ (λ f. let r = c.requires.taken f in rw c.in-Sref.is at r)

pub array_copies-requires-clause-columns : goal.array_copies-requires-clause-columns
array_copies-requires-clause-columns c =
    let n : FitsSigned w16 c.in-Aref.columns = search rules in
    simp to_z-of_z (some_columns _ c.in-Aref.columns c.in-Aref.rows c.in-Aref.xy.now (λ f. let r = c.requires.taken f in rw c.in-Aref.is at r))

pub array_copies-requires-clause-rows : goal.array_copies-requires-clause-rows
array_copies-requires-clause-rows c =
    let n : FitsSigned w16 c.in-Aref.rows = search rules in
    simp to_z-of_z (some_rows _ c.in-Aref.columns c.in-Aref.rows c.in-Aref.xy.now (λ f. let r = c.requires.taken f in rw c.in-Aref.is at r))

pub array_copies-requires-clause-turned : goal.array_copies-requires-clause-turned
array_copies-requires-clause-turned c = not_askew _ _ (λ f. let r = c.requires.taken f in rw c.in-Aref.is at r)

pub returns-in-Aref-clause-copies : goal.returns-in-Aref-clause-copies
returns-in-Aref-clause-copies c =
    let n : FitsSigned w16 c.in-Aref.columns = search rules in
    let m : FitsSigned w16 c.in-Aref.rows = search rules in
    let e = simp to_z-of_z at c.array_copies.ensures.copies in
    rw c.in-Aref.is (array_are
    (record {
      name = c.in-Aref.name.now;
      trans = option_map trans_seen c.in-Aref.trans;
      columns = c.in-Aref.columns;
      rows = c.in-Aref.rows;
      xy = c.in-Aref.xy.now;
    }) c.array_copies.result e)
