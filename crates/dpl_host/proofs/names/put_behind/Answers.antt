use Rattle.std.proofs.Common.{◌∙◌, ap, sym, rules}
use Rattle.std.specs.Prelude.{option_map}
use Rattle.std.specs.FinMap.{insert}
use Rattle.std.proofs.lemmas.Result.{IfOk-from_err}
use Rattle.dpl_host.specs.Memory.{files_of}
use Rattle.dpl_host.proofs.ByName.{at_err, changed, files_get, is_there, put_same}
use Rattle.dpl_host.proofs.names.put_behind.Goals as goal

pub returns-in_err-extend_from_slice-in-Some-clause-err : goal.returns-in_err-extend_from_slice-in-Some-clause-err
returns-in_err-extend_from_slice-in-Some-clause-err c =
    let w = c.extend_from_slice.new.self in
    let there = files_get c.args.files.now c.args.name.now ∙ ap (option_map (λ v. v.items)) (sym c.in-Some.ensures.value) in
    at_err _ _ (
    changed c.args.files.now (c.get_mut.follows.lender w) c.args.name.now w ((c.get_mut.follows.holds w).3 (search rules))
    ∙ ap (insert (files_of c.args.files.now.entries) c.args.name.now) c.in_err-extend_from_slice-in-Some.ensures.items
    ∙ put_same (files_of c.args.files.now.entries) c.args.name.now c.in-Some.bytes.now.items there)

pub returns-in_err-extend_from_slice-in-Some-clause-there : goal.returns-in_err-extend_from_slice-in-Some-clause-there
returns-in_err-extend_from_slice-in-Some-clause-there c =
    let there = files_get c.args.files.now c.args.name.now ∙ ap (option_map (λ v. v.items)) (sym c.in-Some.ensures.value) in
    is_there _ _ _ there

pub returns-in_ok-extend_from_slice-in-Some-clause-ok : goal.returns-in_ok-extend_from_slice-in-Some-clause-ok
returns-in_ok-extend_from_slice-in-Some-clause-ok c =
    let w = c.extend_from_slice.new.self in (
      c.in-Some.bytes.now.items,
      files_get c.args.files.now c.args.name.now ∙ ap (option_map (λ v. v.items)) (sym c.in-Some.ensures.value),
      changed c.args.files.now (c.get_mut.follows.lender w) c.args.name.now w ((c.get_mut.follows.holds w).3 (search rules))
          ∙ ap (insert (files_of c.args.files.now.entries) c.args.name.now) c.in_ok-extend_from_slice-in-Some.ensures.items,
    )

pub returns-in-None-clause-ok : goal.returns-in-None-clause-ok
returns-in-None-clause-ok c = (
  files_get c.args.files.now c.args.name.now ∙ ap (option_map (λ v. v.items)) (sym c.in-None.ensures.value),
  ap (λ m. files_of m.entries) c.get_mut.follows.holds-at-none,
)

pub returns-in_err-extend_from_slice-in-Some-clause-ok : goal.returns-in_err-extend_from_slice-in-Some-clause-ok
returns-in_err-extend_from_slice-in-Some-clause-ok c = IfOk-from_err _ _ c.from_residual.ensures.0
