use Rattle.std.proofs.Common.{◌∙◌, ap₂, List, ℕ}
use Rattle.std.specs.FinMap.{insert}
use Rattle.std.proofs.lemmas.Result.{IfOk-from_err}
use Rattle.dpl_host.specs.Memory.{files_of}
use Rattle.dpl_host.proofs.ByName.{changed}
use Rattle.dpl_host.proofs.names.put_empty.Goals as goal

pub returns-clause-ok : goal.returns-clause-ok
returns-clause-ok c =
    changed c.args.files.now c.insert.new.self _ c.new.result c.in_ok-insert.ensures.updates
    ∙ ap₂ (λ (n b : List ℕ). insert (files_of c.args.files.now.entries) n b) c.in_ok-key.ensures.ok c.new.ensures.items

pub returns-in_err-key-clause-ok : goal.returns-in_err-key-clause-ok
returns-in_err-key-clause-ok c = IfOk-from_err _ _ c.from_residual.ensures.0

pub returns-in_err-insert-clause-ok : goal.returns-in_err-insert-clause-ok
returns-in_err-insert-clause-ok c = IfOk-from_err _ _ c.from_residual-in_err-insert.ensures.0
