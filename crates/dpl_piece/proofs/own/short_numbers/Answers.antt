use Rattle.std.proofs.Common.{◌≡◌, length, refl, arith, ap, ◌∙◌}
use Rattle.std.specs.Prelude.{vec_len}
use Rattle.std.specs.List.{range_with_len}
use Rattle.std.proofs.lemmas.Iterator.{YieldsList-from_range}
use Rattle.std.proofs.lemmas.Iterator.Adapters.{fact_from_collect}
use Rattle.std.proofs.lemmas.Result.{IfOk-weaker, IfOk-from_err}
use Rattle.dpl_piece.proofs.own.short_numbers.Goals as goal

pub returns : goal.returns
returns c =
    let n = c.in_ok-count.count in
    let same : n ≡ c.args.count = c.in_ok-count.ensures.same in
    IfOk-weaker c.collect.result (λ v. (v.items ≡ range_with_len 0 n) × (vec_len v ≡ length (range_with_len 0 n))) _ (λ v h. h.0 ∙ ap (range_with_len 0) same)
    (fact_from_collect (λ xs v. (v.items ≡ xs) × (vec_len v ≡ length xs)) c.collect.result c.collect.ensures.ran (YieldsList-from_range 0 n n refl (omega arith)))

pub returns-in_err-count : goal.returns-in_err-count
returns-in_err-count c = IfOk-from_err _ _ c.from_residual.ensures.0
